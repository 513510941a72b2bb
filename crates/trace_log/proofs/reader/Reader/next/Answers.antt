use Rattle.std.proofs.Common.{Some, Ok, rules}
use Rattle.trace_log.specs.Reading.{Stood}
use Rattle.trace_log.proofs.Fronts.{returned, stood_says}
use Rattle.trace_log.proofs.reader.Reader.next.Goals as goal

pub returns-in_err-record-clause-returned : goal.returns-in_err-record-clause-returned
returns-in_err-record-clause-returned c = returned _ _ c.from_residual.result (search rules)

pub returns : goal.returns
returns c =
    let h : Stood c.args.self.now.left.now c.in-Some.after.now (Ok (Some c.in-Some.record)) = search rules in
    let says = stood_says _ _ _ h in
    record { answer = says; stood = h; returned = returned _ _ (Ok (Some c.in-Some.record)) says; size = search rules }
