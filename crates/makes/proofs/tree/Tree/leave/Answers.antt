use Rattle.std.proofs.Common.{sym, subst, rules}
use Rattle.makes.specs.Places.{one_less, shape, shapes, parents}
use Rattle.makes.specs.Shapes.{changed_same}
use Rattle.makes.specs.Sound.{SoundTree}
use Rattle.makes.specs.Tree.{line}
use Rattle.makes.specs.Walks.{less_shape}
use Rattle.makes.proofs.Asked.{walked_is}
use Rattle.makes.proofs.tree.Tree.leave.Goals as goal

pub invariant_of-self : goal.invariant_of-self
invariant_of-self c =
    let ps = c.args.self.now.places in
    let less = one_less c.args.number in
    let walked = walked_is less ps c.args.home c.deref_mut.ensures.len c.deref_mut.ensures.value (c.change_line.ensures.after less (λ p q h. search rules)) in
    let same = changed_same shape less (less_shape c.args.number) ps.items (line (parents ps.items) c.args.home) in
    record { sound = subst (λ qs. SoundTree (shapes qs)) (sym walked) (subst SoundTree (sym same) c.args.self.now.sound) }
