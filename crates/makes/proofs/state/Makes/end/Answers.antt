use Rattle.std.proofs.Common.{sym, subst, arith}
use Rattle.makes.specs.Model.{built}
use Rattle.makes.specs.Sound.{Sound}
use Rattle.makes.proofs.Asked.{live_within, Leavable, leavable, died_is}
use Rattle.makes.proofs.state.Makes.end.Goals as goal

pub leave-requires-clause-some : goal.leave-requires-clause-some
leave-requires-clause-some c =
    let s = built c.self.inside in
    let live = rw (← c.self.view_is) at c.requires.live in
    let at = rw (← c.self.view_is) at c.birth_home-home.ensures.answer in
    (subst (Leavable _) (sym at) (leavable s c.self.invariant.sound c.args.i (live_within s.births c.args.i live) live)).some

pub invariant_of-self : goal.invariant_of-self
invariant_of-self c =
    let live = rw (← c.self.view_is) at c.requires.live in
    let at = rw (← c.self.view_is) at c.birth_home-home.ensures.answer in
    let kept = rw (← c.self.view_is) at c.requires.kept in
    let is = died_is c.args.number (built c.self.inside) c.args.i c.birth_home-home.result c.index_mut.result.now live at c.index_mut.ensures.value c.leave.ensures.after in
    record { sound = subst Sound (sym is) kept; births_reserved = omega arith; places_reserved = omega arith; rows_reserved = omega arith }
