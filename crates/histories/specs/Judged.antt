-- What a history is worth: the law over all accesses that were ever entered.
use Rattle.std.specs.Prelude.{◌≡◌, ℕ, ◌+◌, ◌*◌, ◌<◌, ◌≤◌, Bool, true, false, not, ◌||◌, List, [], ◌∷◌, ◌++◌, length, is_some, IfSome, Decides, Option, slice_index_or}
use Rattle.order.specs.declared.Timestamp.{Timestamp}
use Rattle.order.specs.Meaning.{Meaning, Advanced}
use Rattle.histories.specs.declared.accesses.Access.{Access}
use Rattle.histories.specs.declared.accesses.Kind.{Kind}
use Rattle.histories.specs.declared.accesses.Race.{Race}
use Rattle.histories.specs.Histories.{Kept, unused, finds, enter}

-- The accesses, oldest first, were entered on a key one after the other. The order now means x; while they were entered it moved on
-- from call to call, and each access was known to it when it was entered. This is what is kept now, after n checks in all.
pub data Entered (critical : Kind → Bool) : Meaning → List Access → Kept → ℕ → Type 0 where
  none : {x : Meaning} → Entered critical x [] unused 0
  moved : {x y : Meaning} {es : List Access} {k : Kept} {n : ℕ} → Entered critical x es k n → Advanced x y → Entered critical y es k n
  more : {x : Meaning} {es : List Access} {k : Kept} {n : ℕ} → Entered critical x es k n → (a : Access) → x.known a.at ≡ true
      → Entered critical x (es ++ a ∷ []) (enter critical x.before k a) (n + (finds critical x.before k a).checks)

-- two accesses conflict if at least one of them is critical
abbrev pub conflict : (Kind → Bool) → Access → Access → Bool
conflict critical a b = critical a.kind || critical b.kind

-- Of every two conflicting accesses, at places i and j of the list, the earlier is before the later.
abbrev pub InOrder : (Kind → Bool) → (Timestamp → Timestamp → Bool) → List Access → Type 0
InOrder critical before es = (i j : ℕ) (d : Access) → i < j → j < length es
    → conflict critical (slice_index_or es i d) (slice_index_or es j d) ≡ true → before (slice_index_or es i d).at (slice_index_or es j d).at ≡ true

-- A race among the accesses: two that conflict, of which the earlier is not before the later.
pub record RaceOf (critical : Kind → Bool) (before : Timestamp → Timestamp → Bool) (es : List Access) (r : Race) : Type 0 where
  pub i : ℕ
  pub j : ℕ
  pub rising : i < j
  pub within : j < length es
  pub earlier : (d : Access) → (slice_index_or es i d).at ≡ r.earlier
  pub later : (d : Access) → (slice_index_or es j d).at ≡ r.later
  pub conflicting : (d : Access) → conflict critical (slice_index_or es i d) (slice_index_or es j d) ≡ true
  pub unordered : before r.earlier r.later ≡ false

-- What the failing pair of a history says of the accesses that were ever entered, and how many checks it took.
pub record Judged (critical : Kind → Bool) (before : Timestamp → Timestamp → Bool) (es : List Access) (failed : Option Race) (n : ℕ) : Type 0 where
  -- clean exactly when of every two conflicting accesses the earlier is before the later
  pub clean : Decides (not (is_some failed)) (InOrder critical before es)
  -- a pair that is shown is a race
  pub shown : IfSome failed (RaceOf critical before es)
  -- at most two checks for each access
  pub few : n ≤ 2 * length es
