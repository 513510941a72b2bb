use Rattle.makes.specs.Walks.{walk_none, walk_less, walk_more}
use Rattle.makes.proofs.climb.change_line.Goals as goal

pub loop-x-init : goal.loop-x-init
loop-x-init g c = walk_none _ c.args.places.now c.args.home c.requires.within

pub loop-x-smaller : goal.loop-x-smaller
loop-x-smaller g c = walk_less c.requires.rooted c.loop-x.invariant c.if-x-eq0.false

pub loop-x-preserved : goal.loop-x-preserved
loop-x-preserved g c = walk_more c.requires.rooted c.loop-x.invariant c.change.result c.change.ensures c.if-x-eq0.false
