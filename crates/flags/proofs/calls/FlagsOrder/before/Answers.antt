use Rattle.std.proofs.Common.{rules, vec_items}
use Rattle.flags.specs.Model.{flag_model}
use Rattle.flags.specs.RelationLemmas.{answer_decides}
use Rattle.flags.proofs.Runs.{pairs_run}
use Rattle.flags.proofs.calls.FlagsOrder.before.Goals as goal

pub returns-then-before-clause-run : goal.returns-then-before-clause-run
returns-then-before-clause-run g c = λ s calls. pairs_run g.O.Order.machine s calls (flag_model g.O.Order.model c.args.self.now)

pub returns-else-before-clause-run : goal.returns-else-before-clause-run
returns-else-before-clause-run g c = λ s calls. pairs_run g.O.Order.machine s calls (flag_model g.O.Order.model c.args.self.now)

pub returns-else-before-clause-chained : goal.returns-else-before-clause-chained
returns-else-before-clause-chained g c =
    let self = c.args.self.now in
    let below = g.O.Order.model self.below in
    λ valid. answer_decides (g.O.Order.machine.means below) (g.met.O.Order.right.lawful below valid.below) (vec_items self.pairs) valid.pairs c.args.a c.args.b _ (search rules)
