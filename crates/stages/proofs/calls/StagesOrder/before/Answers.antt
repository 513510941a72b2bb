use Rattle.std.proofs.Common.{rules}
use Rattle.std.proofs.lemmas.Bool.Decides.{Decides-at}
use Rattle.stages.proofs.Runs.{before_run}
use Rattle.stages.proofs.calls.StagesOrder.before.Goals as goal

pub returns-else-a-b-2-clause-run : goal.returns-else-a-b-2-clause-run
returns-else-a-b-2-clause-run c = λ calls since. Decides-at _ _ (search rules) (before_run calls c.args.self.now since c.args.a c.args.b)
