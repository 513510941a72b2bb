use Rattle.std.proofs.Common.{reverse, sym, ap, ◌∙◌, subst, rules, arith}
use Rattle.std.proofs.lemmas.Bool.{ne_eqb}
use Rattle.births.specs.Births.{live_birth}
use Rattle.makes.specs.Machine.{turned}
use Rattle.makes.specs.Model.{built}
use Rattle.makes.specs.Sound.{Sound}
use Rattle.makes.proofs.Asked.{found_live}
use Rattle.makes.proofs.Taken.{make_kept}
use Rattle.makes.proofs.state.Makes.make.Goals as goal

pub turn_make-requires : goal.turn_make-requires
turn_make-requires c =
    let s = built c.self.inside in
    let at = ap (λ bs. live_birth (reverse bs) c.args.process) (sym c.deref.ensures.value) ∙ sym c.live_birth.ensures.answer ∙ c.in_ok-i.ensures.ok_part in
    let more = ne_eqb c.self.inside.number 1000000 (λ e. omega arith) in
    record {
      live = rw (← c.self.view_is) (found_live s c.args.process c.in_ok-i.i at).live;
      kept =
          rw (← c.self.view_is)
          (subst (λ n. Sound (turned n s c.in_ok-i.i)) (sym c.in_ok-number.ensures.answer.1)
          (make_kept s c.self.invariant.sound c.args.process c.in_ok-i.i at (search rules, (search rules, (search rules, (more, tt))))));
    }
