use Rattle.makes.specs.Walks.{Walk}
use Rattle.makes.proofs.climb.change_line.Given as goal

abbrev pub invariant-loop-x : goal.invariant-loop-x
invariant-loop-x g l = Walk (goal.F-post g l.change) l.initial.places l.places l.initial.x l.x

abbrev pub decreases-loop-x : goal.decreases-loop-x
decreases-loop-x g l = l.x
