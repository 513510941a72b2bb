use Rattle.std.proofs.Common.{length, subst, ap, ◌∙◌, arith}
use Rattle.makes.specs.Joins.{joined_more}
use Rattle.makes.specs.Machine.{Build, slots_from}
use Rattle.makes.specs.Places.{is_target, row_in, row_of, kind_at, targets_of}
use Rattle.makes.specs.Rows.{joined}
use Rattle.makes.specs.Sound.{Sound}
use Rattle.makes.proofs.Asked.{declared_at, ready}
use Rattle.makes.proofs.state.Makes.joined_row.Goals as goal

pub row_at-requires : goal.row_at-requires
row_at-requires c =
    let s = c.args.self.now in
    let has = declared_at (targets_of (kind_at s.places c.args.make)) c.args.prerequisites.now c.requires.all c.loop-number.number-index c.loop-number-test.true in
    let known = ready s (subst Sound c.self.view_is c.self.invariant.sound) c.args.make _ has in
    record { target = ap (λ x. is_target (kind_at s.places x)) c.target_place-place.ensures.answer ∙ known.sort }

pub join-requires : goal.join-requires
join-requires c =
    let s = c.args.self.now in
    let has = declared_at (targets_of (kind_at s.places c.args.make)) c.args.prerequisites.now c.requires.all c.loop-number.number-index c.loop-number-test.true in
    let known = ready s (subst Sound c.self.view_is c.self.invariant.sound) c.args.make _ has in
    let row = c.row_at.ensures.answer ∙ ap (λ x. row_of (kind_at s.places x)) c.target_place-place.ensures.answer in
    let size = c.deref.ensures.len in
    let long = c.self.inside.rows.ok.0 in
    let same = ap (λ (t : Build). length t.rows) c.self.view_is in
    record { within = omega arith; few = omega arith }

pub loop-number-preserved : goal.loop-number-preserved
loop-number-preserved c =
    let s = c.args.self.now in
    let row = c.row_at.ensures.answer ∙ ap (λ x. row_of (kind_at s.places x)) c.target_place-place.ensures.answer in
    c.join.ensures.after ∙ ap (λ rows. joined rows c.loop-number.row c.row_at.result) (c.deref.ensures.value ∙ ap (λ (t : Build). t.rows) c.self.view_is)
    ∙ joined_more s.rows (row_in s.places s.slots (slots_from s c.args.make)) c.args.prerequisites.now c.loop-number.number-index c.loop-number.row c.loop-number.invariant c.row_at.result c.loop-number-test.true row
