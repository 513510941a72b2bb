use Rattle.std.proofs.Common.{[], zero-add}
use Rattle.histories.specs.Judged.{none}
use Rattle.histories.proofs.example.two_accesses.Goals as goal

pub returns : goal.returns
returns g c = record {
  law = λ v.
      let w = c.in_ok-one.ensures.valid v in
      let one = c.in_ok-one.ensures.more v [] 0 (rw c.new-history.ensures.value none) in
      let both = c.in_ok-two.ensures.more w _ _ one in
      c.race-race.ensures.law (g.R.ConflictRule.critical c.args.rule.now) (g.O.Order.machine.means (g.O.Order.model c.enter_by-2.new.order)) _ _
      (g.met.O.Order.right.lawful _ (c.in_ok-two.ensures.valid w)) (rw (← zero-add c.in_ok-one.few) both);
}
