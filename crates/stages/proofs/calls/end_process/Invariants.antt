use Rattle.std.proofs.Common.{◌≡◌, ◌++◌, map, take, drop}
use Rattle.stages.specs.Births.{ended}
use Rattle.stages.proofs.calls.end_process.Given as goal

abbrev pub invariant-loop-birth : goal.invariant-loop-birth
invariant-loop-birth l = l.births ≡ map (ended l.process) (take l.birth-index l.initial.births) ++ drop l.birth-index l.initial.births
