use Rattle.std.proofs.Common.{◌*◌, sym, ap, arith}
use Rattle.makes.specs.Model.{built}
use Rattle.makes.specs.Places.{ordinal_of}
use Rattle.makes.proofs.Asked.{first_few}
use Rattle.makes.proofs.state.Makes.first_slot.Goals as goal

pub overflow_mul-result : goal.overflow_mul-result
overflow_mul-result c =
    let made = rw (← c.self.view_is) at c.requires.made in
    let is = rw (← c.self.view_is) at c.make_at.ensures.answer in
    let few = first_few (built c.self.inside) c.self.invariant.sound c.args.make made in
    let same = ap (λ n. n * c.self.inside.room.targets) (ap ordinal_of (sym is)) in
    omega arith
