-- The state of the machine that the program's state stands for, and what each state keeps.
use Rattle.std.specs.Prelude.{◌+◌, ◌≤◌, vec_items, vec_capacity}
use Rattle.makes.specs.declared.state.Makes.TheInside.{Inside}
use Rattle.makes.specs.Machine.{Build}
use Rattle.makes.specs.Sound.{Sound}

abbrev pub built : Inside → Build
built s = record {
  number = s.number;
  room = s.room;
  births = vec_items s.births;
  places = vec_items s.tree.places;
  makes = s.makes;
  slots = vec_items s.slots;
  rows = vec_items s.rows;
}

pub record Kept (s : Inside) : Type 0 where
  pub sound : Sound (built s)
  pub births_reserved : s.room.births ≤ vec_capacity s.births
  pub places_reserved : 1 + s.room.births + s.room.makes + s.room.targets ≤ vec_capacity s.tree.places
  pub rows_reserved : s.room.targets ≤ vec_capacity s.rows
