-- The stage order as a machine.
use Rattle.std.specs.Prelude.{ℕ, ◌+◌, ◌≤◌, min, Bool, true, not, ◌&&◌, ◌||◌, List, [], ◌∷◌, ◌++◌, map, reverse, length, is_some, Some, None, Ok, Err, Option, Result, ◌==◌, nat_le, nat_lt}
use Rattle.faults.specs.declared.OrderFault.{OrderFault}
use Rattle.faults.specs.declared.OrderFault.TheVariants.{NotLive, LiveAlready, TableFull, UsedUp, Unfit}
use Rattle.order.specs.declared.Timestamp.{Timestamp}
use Rattle.order.specs.Events.{Told, birth, make, target, death, post, await}
use Rattle.order.specs.Machine.{Machine, checked}
use Rattle.order.specs.Meaning.{last_number}
use Rattle.births.specs.declared.Birth.{Birth}
use Rattle.births.specs.Births.{live_birth}
use Rattle.stages.specs.Births.{any_live, stage_at, ended}

-- The number, the room for births, and the births so far, oldest first.
pub record Staged : Type 0 where
  pub number : ℕ
  pub room : ℕ
  pub births : List (Birth ℕ)

-- a new order: room over the limit counts as the limit
abbrev pub start : ℕ → Staged
start room = record { number = 0; room = min room 4096; births = [] }

-- whether a process lives
abbrev pub lives_in : Staged → ℕ → Bool
lives_in s p = is_some (live_birth (reverse s.births) p)

-- a birth names no parent, and its stage is from 1 to 255
abbrev pub fits : ℕ → ℕ → Bool
fits parent stage = parent == 0 && (nat_le 1 stage && nat_le stage 255)

-- the state one number on, with these births
abbrev pub next : Staged → List (Birth ℕ) → Staged
next s births = record { number = s.number + 1; room = s.room; births = births }

-- the checks of a birth, in their order
abbrev pub birth_checks : Staged → ℕ → ℕ → ℕ → List (Bool × OrderFault)
birth_checks s p parent stage =
    (p == 0 || lives_in s p, LiveAlready)
    ∷ (nat_le s.room (length s.births), TableFull)
    ∷ (s.number == last_number, UsedUp)
    ∷ (not (fits parent stage), Unfit)
    ∷ []

-- a birth adds its process and stage to the table
abbrev pub tell_birth : Staged → ℕ → ℕ → ℕ → Result Staged OrderFault
tell_birth s p parent stage =
    checked (birth_checks s p parent stage) (Ok (next s (s.births ++ record { process = p; at = stage; live = true } ∷ [])))

-- the checks of a death, in their order
abbrev pub death_checks : Staged → ℕ → List (Bool × OrderFault)
death_checks s p = (not (lives_in s p), NotLive) ∷ (s.number == last_number, UsedUp) ∷ []

-- a death ends its process
abbrev pub tell_death : Staged → ℕ → Result Staged OrderFault
tell_death s p = checked (death_checks s p) (Ok (next s (map (ended p) s.births)))

-- each event; makes, targets, posts and awaits are none of this order's
abbrev pub tell_stage : Staged → Told → Result Staged OrderFault
tell_stage s (birth p parent stage) = tell_birth s p parent stage
tell_stage s (death p) = tell_death s p
tell_stage s (make p) = Err Unfit
tell_stage s (target p ts) = Err Unfit
tell_stage s (post p f) = Err Unfit
tell_stage s (await p f) = Err Unfit

-- the next timestamp of a process, by its birth, if it lives: its place is the birth's count from 1
abbrev pub stamp_at : Staged → Option ℕ → Result (Timestamp × Staged) OrderFault
stamp_at s None = Err NotLive
stamp_at s (Some i) = checked ((s.number == last_number, UsedUp) ∷ []) (Ok (record { number = s.number + 1; place = i + 1 }, next s s.births))

-- a timestamp is known if its number lies from 1 to the present one and its place from 1 to the count of births
abbrev pub known_in : Staged → Timestamp → Bool
known_in s a = nat_le 1 a.number && (nat_le a.number s.number && (nat_le 1 a.place && nat_le a.place (length s.births)))

-- of two known timestamps the lower-numbered is before the other exactly if the places are equal or its stage is lower
abbrev pub before_in : Staged → Timestamp → Timestamp → Bool
before_in s a b =
    known_in s a && (known_in s b && (nat_lt a.number b.number
    && (a.place == b.place || nat_lt (stage_at s.births a.place) (stage_at s.births b.place))))

-- the machine
abbrev pub stages : Machine
stages = record {
  State = Staged;
  tell = tell_stage;
  stamp = λ s p. stamp_at s (live_birth (reverse s.births) p);
  any = λ s. any_live (reverse s.births);
  means = λ s. record { number = s.number; lives = lives_in s; known = known_in s; before = before_in s };
  valid = λ s. s.number ≤ last_number;
}
