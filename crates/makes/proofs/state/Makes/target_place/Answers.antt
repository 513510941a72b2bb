use Rattle.std.proofs.Common.{◌+◌, ◌-◌, get_or, ap, ◌∙◌, arith}
use Rattle.std.proofs.lemmas.List.{get_or_read}
use Rattle.makes.specs.Model.{built}
use Rattle.makes.proofs.Asked.{first_few, ready}
use Rattle.makes.proofs.state.Makes.target_place.Goals as goal

pub overflow_add-first_slot : goal.overflow_add-first_slot
overflow_add-first_slot c =
    let s = built c.self.inside in
    let sound = c.self.invariant.sound in
    let few = first_few s sound c.args.make (ready s sound c.args.make c.args.target (rw (← c.self.view_is) at c.requires.declared)).made in
    let first = rw (← c.self.view_is) at c.first_slot.ensures.answer in
    omega arith

pub index-requires : goal.index-requires
index-requires c =
    let slot = (ready (built c.self.inside) c.self.invariant.sound c.args.make c.args.target (rw (← c.self.view_is) at c.requires.declared)).slot in
    let first = rw (← c.self.view_is) at c.first_slot.ensures.answer in
    let size = c.self.inside.slots.ok.0 in
    omega arith

pub returns : goal.returns
returns c =
    let slot = (ready (built c.self.inside) c.self.invariant.sound c.args.make c.args.target (rw (← c.self.view_is) at c.requires.declared)).slot in
    let first = rw (← c.self.view_is) at c.first_slot.ensures.answer in
    record {
      answer =
          rw (← c.self.view_is)
          (get_or_read c.self.inside.slots.items (c.first_slot.result + (c.from.result - 1)) c.index.result.now (omega arith) c.index.ensures 0 ∙ ap (λ n. get_or c.self.inside.slots.items n 0) (omega arith));
    }
