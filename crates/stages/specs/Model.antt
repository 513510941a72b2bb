-- The state of the machine that the program's state stands for, and what each state keeps to.
use Rattle.std.specs.Prelude.{◌≤◌, vec_items, vec_len, vec_capacity}
use Rattle.stages.specs.declared.state.Stages.TheInside.{Inside}
use Rattle.stages.specs.Machine.{Staged}

abbrev pub staged : Inside → Staged
staged s = record { number = s.number; room = s.room; births = vec_items s.births }

pub record Sound (s : Inside) : Type 0 where
  pub counted : s.number ≤ 1000000
  pub limited : s.room ≤ 4096
  pub within : vec_len s.births ≤ s.room
  pub reserved : s.room ≤ vec_capacity s.births
