use Rattle.std.proofs.Common.{rules}
use Rattle.stages.proofs.Runs.{stamp_run}
use Rattle.stages.proofs.calls.StagesOrder.stamp.Goals as goal

pub returns-clause-run : goal.returns-clause-run
returns-clause-run c = λ calls since. let told = stamp_run calls c.args.self.now since c.args.process c.in_ok-i.i (search rules) in search rules
