use Rattle.std.proofs.Common.{rules}
use Rattle.std.proofs.lemmas.Bool.Decides.{Decides-at}
use Rattle.stages.proofs.Runs.{known_run}
use Rattle.stages.proofs.calls.StagesOrder.known.Goals as goal

pub returns-then-contains-clause-run : goal.returns-then-contains-clause-run
returns-then-contains-clause-run c = λ calls since. Decides-at _ _ (search rules) (known_run calls c.args.self.now since c.args.a)

pub returns-else-contains-clause-run : goal.returns-else-contains-clause-run
returns-else-contains-clause-run c = λ calls since. Decides-at _ _ (search rules) (known_run calls c.args.self.now since c.args.a)
