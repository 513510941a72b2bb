use Rattle.std.proofs.Common.{sym, ◌∙◌, subst, rules, arith}
use Rattle.std.proofs.lemmas.Bool.{ne_eqb}
use Rattle.makes.specs.Machine.{listed}
use Rattle.makes.specs.Model.{built}
use Rattle.makes.specs.Sound.{Sound}
use Rattle.makes.proofs.Taken.{target_kept}
use Rattle.makes.proofs.state.Makes.target.Goals as goal

pub declare-requires-clause-kept : goal.declare-requires-clause-kept
declare-requires-clause-kept c =
    let s = built c.self.inside in
    let more = ne_eqb c.self.inside.number 1000000 (λ e. omega arith) in
    let home = rw (← c.self.view_is) at c.home.ensures.answer in
    rw (← c.self.view_is)
    (subst (λ n. Sound (listed n s c.in_ok-home.home c.args.prerequisites.now)) (sym c.in_ok-number.ensures.answer.1)
    (target_kept s c.self.invariant.sound c.args.process c.args.prerequisites.now c.in_ok-home.home (sym home ∙ c.in_ok-home.ensures.ok_part)
    (search rules, (search rules, (search rules, (more, tt))))))
