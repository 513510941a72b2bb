use Rattle.std.proofs.Common.{rules}
use Rattle.std.proofs.lemmas.List.Edits.{map_over_more}
use Rattle.std.proofs.lemmas.List.{take_all, drop_all, append-nil}
use Rattle.stages.specs.Births.{ended}
use Rattle.stages.proofs.calls.end_process.Goals as goal

pub loop-birth-preserved : goal.loop-birth-preserved
loop-birth-preserved c = search (rules, map_over_more (ended c.args.process))

pub returns : goal.returns
returns c = search (rules, take_all, drop_all, append-nil)
