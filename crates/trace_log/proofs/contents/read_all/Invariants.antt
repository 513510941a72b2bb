use Rattle.std.proofs.Common.{length, vec_items}
use Rattle.trace_log.proofs.Wholes.{Sofar}
use Rattle.trace_log.proofs.contents.read_all.Given as goal

abbrev pub invariant-loop-record : goal.invariant-loop-record
invariant-loop-record l = Sofar l.log (vec_items l.records) l.reader.size l.reader.left.now

abbrev pub decreases-loop-record : goal.decreases-loop-record
decreases-loop-record l = length l.reader.left.now
