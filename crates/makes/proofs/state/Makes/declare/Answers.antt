use Rattle.std.proofs.Common.{sym, ap, arith}
use Rattle.makes.specs.Model.{built}
use Rattle.makes.specs.Places.{targets_of}
use Rattle.makes.proofs.Asked.{first_few, rows_left, targets_few, slot_within}
use Rattle.makes.proofs.state.Makes.declare.Goals as goal

pub overflow_add-slot : goal.overflow_add-slot
overflow_add-slot c =
    let s = built c.self.inside in
    let sound = c.self.invariant.sound in
    let made = rw (← c.self.view_is) at c.requires.made in
    let first = first_few s sound c.args.make made in
    let few = targets_few s sound c.args.make made in
    let next = ap targets_of (sym (rw (← c.self.view_is) at c.make_at.ensures.answer)) in
    let slot = rw (← c.self.view_is) at c.first_slot.ensures.answer in
    let most = sound.room.most_targets in
    let targets = sound.room.targets in
    omega arith

pub index_mut-requires : goal.index_mut-requires
index_mut-requires c =
    let s = built c.self.inside in
    let sound = c.self.invariant.sound in
    let made = rw (← c.self.view_is) at c.requires.made in
    let few = targets_few s sound c.args.make made in
    let left = rows_left c.args.number s c.args.make c.args.prerequisites.now (rw (← c.self.view_is) at c.requires.kept) in
    let next = ap targets_of (sym (rw (← c.self.view_is) at c.make_at.ensures.answer)) in
    let within = slot_within s sound c.args.make made c.make_at.result.targets (omega arith) in
    let first = rw (← c.self.view_is) at c.first_slot.ensures.answer in
    let size = c.self.inside.slots.ok.0 in
    omega arith

pub add_target-requires-clause-few : goal.add_target-requires-clause-few
add_target-requires-clause-few c =
    let s = built c.self.inside in
    let sound = c.self.invariant.sound in
    let few = targets_few s sound c.args.make (rw (← c.self.view_is) at c.requires.made) in
    let targets = sound.room.targets in
    let most = sound.room.most_targets in
    omega arith
