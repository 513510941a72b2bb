-- A directory's creation attempts and the lookups in it: the exact account, which can be run.
use Rattle.std.specs.Prelude.{◌-◌, Bool, cond, List, [], ◌∷◌, ◌++◌, length, None, Option, slice_get}
use Rattle.std.specs.List.{list_any}
use Rattle.order.specs.declared.Timestamp.{Timestamp}
use Rattle.histories.specs.declared.accesses.Race.{Race}
use Rattle.histories.specs.Histories.{first_race}

-- One use of a directory's path: a lookup in the directory, an attempt to create it, or a removal of its path.
pub data Use : Type 0 where
  looked_up : Timestamp → Use
  attempted : Timestamp → Use
  removed : Use

-- What is kept: the attempts that remain (oldest first), and the first failing pair.
pub record KeptAttempts : Type 0 where
  pub remaining : List Timestamp
  pub failed : Option Race

-- nothing was done
abbrev pub untried : KeptAttempts
untried = record { remaining = []; failed = None }

-- whether one of them is before the new one
abbrev pub any_before : (Timestamp → Timestamp → Bool) → List Timestamp → Timestamp → Bool
any_before before ts x = list_any (λ t. before t x) ts

-- the last one, which is the newest, if any
abbrev pub newest : List Timestamp → Option Timestamp
newest ts = slice_get ts (length ts - 1)

-- The attempt that a lookup fails by. It fails if attempts remain and none of them is before it; then that is the newest.
abbrev pub failed_lookup : (Timestamp → Timestamp → Bool) → List Timestamp → Timestamp → Option Timestamp
failed_lookup before ts x = cond (any_before before ts x) None (newest ts)

-- what is kept after a lookup, after an attempt, and after a removal
abbrev pub looked : (Timestamp → Timestamp → Bool) → KeptAttempts → Timestamp → KeptAttempts
looked before k x = record { remaining = k.remaining; failed = first_race k.failed (failed_lookup before k.remaining x) x }

abbrev pub tried : KeptAttempts → Timestamp → KeptAttempts
tried k x = record { remaining = k.remaining ++ x ∷ []; failed = k.failed }

abbrev pub forgotten : KeptAttempts → KeptAttempts
forgotten k = record { remaining = []; failed = k.failed }

abbrev pub used : (Timestamp → Timestamp → Bool) → KeptAttempts → Use → KeptAttempts
used before k (looked_up x) = looked before k x
used before k (attempted x) = tried k x
used before k removed = forgotten k
