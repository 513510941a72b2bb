use Rattle.std.proofs.Common.{vec_items, sym, subst}
use Rattle.trace_log.proofs.Wholes.{Sofar, none_yet, one_more, at_end, refused_here, not_opened, log_written}
use Rattle.trace_log.proofs.contents.read_all.Goals as goal
use Rattle.trace_log.proofs.contents.read_all.Goals.{in-Ok-None, in-Err-next+in_ok-refused-in-Err-next}

pub returns-in-Err-clause-reads : goal.returns-in-Err-clause-reads
returns-in-Err-clause-reads c =
    let h = c.in-Err.ensures in
    not_opened _ _ _ _ c.new-records.ensures.items h.0 h.1 c.in_ok-refused-in-Err.ensures.0

pub loop-record-init : goal.loop-record-init
loop-record-init c = none_yet _ _ _ _ c.new-records.ensures.items c.in-Ok.ensures.0 c.in-Ok.ensures.1

pub loop-record-preserved : goal.loop-record-preserved
loop-record-preserved c =
    let told = c.in-Ok-Some.ensures in
    let says = rw c.in-Ok-Some.field-0-is at told.answer in
    let stood = rw c.in-Ok-Some.field-0-is at told.stood in
    subst (λ n. Sofar c.args.log.now (vec_items c.push.new.self) n c.next.new.self.left.now) (sym told.size)
    (one_more c.loop-record.invariant _ _ _ c.place-place.ensures says stood.0 stood.1 c.in_ok-push-in-Ok-Some.ensures.items)

pub returns-clause-reads : goal.returns-clause-reads
returns-clause-reads c =
    elim c.match-next.branch [
      | in-Ok-None w ↦
          let said = rw w.in-Ok-None.field-0-is at w.in-Ok-None.ensures.answer in
          rw w.refusal-is (at_end c.loop-record.invariant said.0)
      | in-Err-next+in_ok-refused-in-Err-next w ↦
          let told = w.in_ok-refused-in-Err-next.ensures in
          rw w.refusal-is (refused_here c.loop-record.invariant _ _ _ c.place-place.ensures w.in-Err-next.ensures.answer.0 told.0 told.1)
    ]

pub returns-clause-returned : goal.returns-clause-returned
returns-clause-returned c = log_written (returns-clause-reads c)
