use Rattle.std.proofs.Common.{ap, arith}
use Rattle.std.proofs.lemmas.List.{get_or_read}
use Rattle.makes.specs.declared.places.Place.{Place}
use Rattle.makes.specs.Places.{no_place}
use Rattle.makes.proofs.Asked.{depth_few}
use Rattle.makes.proofs.tree.Tree.place.Goals as goal

pub returns-clause-shallow : goal.returns-clause-shallow
returns-clause-shallow c =
    let few = depth_few c.args.self.now.places.items c.args.self.now.sound c.args.x c.requires.within in
    let same = ap (λ (p : Place). p.depth) (get_or_read _ c.args.x _ c.requires.within c.index.ensures no_place) in
    omega arith
