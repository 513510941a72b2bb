use Rattle.std.proofs.Common.{rules}
use Rattle.std.proofs.lemmas.Bool.Decides.{Decides-at}
use Rattle.makes.proofs.Runs.{lives_run}
use Rattle.makes.proofs.calls.MakesOrder.lives.Goals as goal

pub returns-clause-run : goal.returns-clause-run
returns-clause-run c calls since = Decides-at _ _ (search rules) (lives_run calls c.args.self.now since c.args.process)
