use Rattle.std.proofs.Common.{◌+◌, length, sym, ◌∙◌, subst, rules, arith}
use Rattle.std.proofs.lemmas.Bool.{ne_eqb}
use Rattle.makes.specs.Machine.{settled, stepped}
use Rattle.makes.specs.Model.{built}
use Rattle.makes.specs.Sound.{Sound}
use Rattle.makes.proofs.Taken.{born_kept, stepped_kept}
use Rattle.makes.proofs.state.Makes.birth.Goals as goal
use Rattle.makes.proofs.state.Makes.birth.Goals.{then-target-ne0+in-Make+else-make-from, else-target-ne0}

pub bear-requires : goal.bear-requires
bear-requires c =
    let s = built c.self.inside in
    let next = c.in_ok-number.ensures.answer in
    let more = ne_eqb c.self.inside.number 1000000 (λ e. omega arith) in
    let home = rw (← c.self.view_is) at c.parent_home.ensures.answer in
    record {
      kept =
          rw (← c.self.view_is)
          (subst (λ n. Sound (settled n s c.args.process s.places c.stand-place.result)) (sym next.1)
          (subst (λ x. Sound (settled (s.number + 1) s c.args.process s.places x)) (sym c.stand-place.ensures.answer)
          (born_kept s c.self.invariant.sound c.args.process c.args.parent c.args.target c.in_ok-home.home (sym home ∙ c.in_ok-home.ensures.ok_part)
          (search rules, (search rules, (search rules, (search rules, (more, tt))))) c.if-target-eq0.true)));
    }

pub bear_step-requires-clause-kept : goal.bear_step-requires-clause-kept
bear_step-requires-clause-kept c =
    let s = built c.self.inside in
    let more = ne_eqb c.self.inside.number 1000000 (λ e. omega arith) in
    let home = rw (← c.self.view_is) at c.parent_home.ensures.answer in
    rw (← c.self.view_is)
    (subst (λ n. Sound (settled n s c.args.process (stepped n s c.in_ok-home.home c.args.target) (length s.places))) (sym c.in_ok-number.ensures.answer.1)
    (stepped_kept s c.self.invariant.sound c.args.process c.args.parent c.args.target c.in_ok-home.home (sym home ∙ c.in_ok-home.ensures.ok_part)
    (search rules, (search rules, (search rules, (search rules, (more, tt))))) (omega arith)))
