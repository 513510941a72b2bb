use Rattle.std.proofs.Common.{take, vec_items}
use Rattle.trace_log.proofs.Joins.{Joined}
use Rattle.trace_log.proofs.parse.numbers.Given as goal

abbrev pub invariant-loop-pair : goal.invariant-loop-pair
invariant-loop-pair l = Joined (take l.pair-index l.pairs) (vec_items l.all)
