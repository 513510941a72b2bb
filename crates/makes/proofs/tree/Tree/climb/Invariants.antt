use Rattle.std.proofs.Common.{◌+◌}
use Rattle.makes.specs.Walks.{Climbed}
use Rattle.makes.proofs.tree.Tree.climb.Given as goal

abbrev pub invariant-loop-x : goal.invariant-loop-x
invariant-loop-x l = Climbed l.self.places.items l.initial.x l.initial.y l.x l.y l.left l.right

abbrev pub decreases-loop-x : goal.decreases-loop-x
decreases-loop-x l = l.x + l.y
