use Rattle.std.proofs.Common.{rules, subst}
use Rattle.std.proofs.lemmas.Bool.Decides.{Decides-at}
use Rattle.makes.specs.Sound.{Sound}
use Rattle.makes.proofs.Asked.{depth_limits}
use Rattle.makes.proofs.Runs.{known_run}
use Rattle.makes.proofs.calls.MakesOrder.known.Goals as goal

pub returns-then-a-len-clause-run : goal.returns-then-a-len-clause-run
returns-then-a-len-clause-run c calls since = Decides-at _ _ (search rules) (known_run calls c.args.self.now since c.args.a)

pub returns-then-a-len-clause-depth : goal.returns-then-a-len-clause-depth
returns-then-a-len-clause-depth c = depth_limits c.args.self.now (subst Sound c.self.view_is c.self.invariant.sound)

pub returns-else-a-len-clause-run : goal.returns-else-a-len-clause-run
returns-else-a-len-clause-run c calls since = Decides-at _ _ (search rules) (known_run calls c.args.self.now since c.args.a)

pub returns-else-a-len-clause-depth : goal.returns-else-a-len-clause-depth
returns-else-a-len-clause-depth c = depth_limits c.args.self.now (subst Sound c.self.view_is c.self.invariant.sound)
