-- What a directory's failing pair is worth: the law over all uses that there ever were.
use Rattle.std.specs.Prelude.{◌≡◌, ℕ, ◌<◌, Bool, true, false, not, ◌⊎◌, List, [], ◌∷◌, ◌++◌, length, is_some, IfSome, Decides, Option, ◌≢◌, slice_index_or}
use Rattle.order.specs.declared.Timestamp.{Timestamp}
use Rattle.order.specs.Meaning.{Meaning, Advanced}
use Rattle.histories.specs.declared.accesses.Race.{Race}
use Rattle.histories.specs.Lookups.{Use, looked_up, attempted, removed, KeptAttempts, untried, used}

-- the timestamp of a use is known
abbrev pub Known : Meaning → Use → Type 0
Known x (looked_up t) = x.known t ≡ true
Known x (attempted t) = x.known t ≡ true
Known x removed = Unit {0}

-- The directory was used so, the oldest first, and this is what is kept now. The order now means x; meanwhile it moved on from call to
-- call, and each timestamp was known to it when it was used.
pub data Looked : Meaning → List Use → KeptAttempts → Type 0 where
  none : {x : Meaning} → Looked x [] untried
  moved : {x y : Meaning} {us : List Use} {k : KeptAttempts} → Looked x us k → Advanced x y → Looked y us k
  more : {x : Meaning} {us : List Use} {k : KeptAttempts} → Looked x us k → (u : Use) → Known x u → Looked x (us ++ u ∷ []) (used x.before k u)

-- An attempt remains at place i of the list: it stands at an earlier place j, and no removal between.
pub record Remains (us : List Use) (i : ℕ) (t : Timestamp) : Type 0 where
  pub j : ℕ
  pub earlier : j < i
  pub attempt : (d : Use) → slice_index_or us j d ≡ attempted t
  pub kept : (n : ℕ) (d : Use) → j < n → n < i → slice_index_or us n d ≢ removed

-- a lookup at place i is in order: no attempt remains, or one does that is before it
abbrev pub LooksRight : (Timestamp → Timestamp → Bool) → List Use → ℕ → Timestamp → Type 0
LooksRight before us i x = ((t : Timestamp) → Remains us i t → ⊥) ⊎ ((t : Timestamp) × Remains us i t × (before t x ≡ true))

-- Each lookup is in order.
abbrev pub AllRight : (Timestamp → Timestamp → Bool) → List Use → Type 0
AllRight before us = (i : ℕ) (x : Timestamp) → i < length us → ((d : Use) → slice_index_or us i d ≡ looked_up x) → LooksRight before us i x

-- A failed lookup: the attempt remains, and none that remains is before the lookup.
pub record FailedLookup (before : Timestamp → Timestamp → Bool) (us : List Use) (r : Race) : Type 0 where
  pub i : ℕ
  pub within : i < length us
  pub lookup : (d : Use) → slice_index_or us i d ≡ looked_up r.later
  pub attempt : Remains us i r.earlier
  pub unordered : (t : Timestamp) → Remains us i t → before t r.later ≡ false

-- What the failing pair of a directory says of all lookups.
pub record Found (before : Timestamp → Timestamp → Bool) (us : List Use) (failed : Option Race) : Type 0 where
  -- clean exactly when each lookup was set against no attempt, or against one that is before it
  pub clean : Decides (not (is_some failed)) (AllRight before us)
  -- a pair that is shown is an attempt and a lookup that fails by it
  pub shown : IfSome failed (FailedLookup before us)
