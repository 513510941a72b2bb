use Rattle.std.proofs.Common.{length, sym, ap, ◌∙◌, subst}
use Rattle.makes.specs.Entries.{more_shapes}
use Rattle.makes.specs.Machine.{stepped}
use Rattle.makes.specs.Model.{built}
use Rattle.makes.specs.Places.{shapes, step_added}
use Rattle.makes.specs.Sound.{SoundTree}
use Rattle.makes.proofs.Asked.{Enterable, enterable}
use Rattle.makes.proofs.state.Makes.bear_step.Goals as goal

pub add_step-requires-clause-kept : goal.add_step-requires-clause-kept
add_step-requires-clause-kept c =
    let s = built c.self.inside in
    let at = rw (← c.self.view_is) at c.target_place-above.ensures.answer in
    let kept = rw (← c.self.view_is) at c.requires.kept in
    subst (λ x. SoundTree (shapes (step_added c.args.number s.places c.args.make x))) (sym at)
    (subst SoundTree (more_shapes (stepped c.args.number s c.args.make c.args.target) (length s.places)) kept.tree)

pub enter-requires-clause-few : goal.enter-requires-clause-few
enter-requires-clause-few c =
    let s = built c.self.inside in
    let at = rw (← c.self.view_is) at c.target_place-above.ensures.answer in
    let kept = rw (← c.self.view_is) at c.requires.kept in
    let added = c.add_step.ensures.items ∙ ap (step_added c.args.number s.places c.args.make) at in
    (subst (λ ps. Enterable ps (length s.places)) (sym added) (enterable c.args.number s c.args.process _ _ kept)).few
