use Rattle.std.proofs.Common.{reverse, sym, ap, ◌∙◌, subst, arith}
use Rattle.births.specs.Births.{live_birth}
use Rattle.makes.specs.Machine.{ended}
use Rattle.makes.specs.Model.{built}
use Rattle.makes.specs.Sound.{Sound}
use Rattle.makes.proofs.Asked.{found_live}
use Rattle.makes.proofs.Taken.{death_kept}
use Rattle.makes.proofs.state.Makes.death.Goals as goal

pub end-requires : goal.end-requires
end-requires c =
    let s = built c.self.inside in
    let at = ap (λ bs. live_birth (reverse bs) c.args.process) (sym c.deref.ensures.value) ∙ sym c.live_birth.ensures.answer ∙ c.in_ok-i.ensures.ok_part in
    record {
      live = rw (← c.self.view_is) (found_live s c.args.process c.in_ok-i.i at).live;
      kept = rw (← c.self.view_is) (subst (λ n. Sound (ended n s c.in_ok-i.i)) (sym c.in_ok-number.ensures.answer.1) (death_kept s c.self.invariant.sound c.args.process c.in_ok-i.i at (λ e. omega arith)));
    }
