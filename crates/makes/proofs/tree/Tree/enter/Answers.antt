use Rattle.std.proofs.Common.{sym, subst}
use Rattle.makes.specs.Places.{one_more, shapes}
use Rattle.makes.specs.Sound.{SoundTree}
use Rattle.makes.specs.Entries.{more_shapes}
use Rattle.makes.proofs.Asked.{walked_is}
use Rattle.makes.proofs.tree.Tree.enter.Goals as goal

pub invariant_of-self : goal.invariant_of-self
invariant_of-self c =
    let ps = c.args.self.now.places in
    let walked = walked_is one_more ps c.args.home c.deref_mut.ensures.len c.deref_mut.ensures.value (c.change_line.ensures.after one_more (λ p q h. h.1)) in
    record { sound = subst (λ qs. SoundTree (shapes qs)) (sym walked) (subst SoundTree (sym (more_shapes ps.items c.args.home)) c.args.self.now.sound) }
