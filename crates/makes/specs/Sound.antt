-- What reachable states of the make order keep.
use Rattle.std.specs.Prelude.{◌≡◌, ℕ, ◌+◌, ◌*◌, ◌<◌, ◌≤◌, Bool, true, false, ◌&&◌, List, length, is_some, Some, None, count_by, Option, ◌==◌, slice_index, slice_index_or}
use Rattle.order.specs.Meaning.{last_number}
use Rattle.births.specs.declared.Birth.{Birth}
use Rattle.makes.specs.Places.{Sort, session, make, target, step, make_sort, target_sort, stand_sort, Shape, shape_at, shapes, parents_of, counts, lives, starts, ends, birth_at}
use Rattle.makes.specs.Machine.{Build}
use Rattle.makes.specs.Rows.{words, needs}
use Rattle.makes.specs.Tree.{up, Earlier, line, levels, holds}

-- what may stand right below what
abbrev pub fits_below : Sort → Sort → Bool
fits_below session above = false
fits_below make above = stand_sort above
fits_below target above = make_sort above
fits_below step above = target_sort above

-- a make, a target and a step are three levels: how many of them are still to come
abbrev pub levels_left : Sort → ℕ
levels_left session = 0
levels_left make = 2
levels_left target = 1
levels_left step = 0

-- how many makes hold a place
abbrev pub makes_above : List Shape → ℕ → ℕ
makes_above ts x = count_by (λ y. make_sort (shape_at ts y).sort) (line (parents_of ts) x)

-- The tree: parents come first, each place stands below one of the right sort, and at most 16 makes hold a place, so that it is at most 48
-- levels below the session.
pub record SoundTree (ts : List Shape) : Type 0 where
  pub some : 0 < length ts
  pub root : (shape_at ts 0).sort ≡ session
  pub earlier : Earlier (parents_of ts)
  pub fitting : (x : ℕ) → 0 < x → x < length ts → fits_below (shape_at ts x).sort (shape_at ts (up (parents_of ts) x)).sort ≡ true
  pub levelled : (x : ℕ) → x < length ts → levels (parents_of ts) x + levels_left (shape_at ts x).sort ≡ 3 * (shape_at ts x).depth
  pub deep : (x : ℕ) → x < length ts → makes_above ts x ≡ (shape_at ts x).depth
  pub shallow : (x : ℕ) → x < length ts → (shape_at ts x).depth ≤ 16

-- what starts and ends: makes and steps
abbrev pub lasting : Sort → Bool
lasting session = false
lasting make = true
lasting target = false
lasting step = true

-- The times: a start has come, an end comes after its start, a make with a step has started, and a make or step has ended exactly if no live
-- process is at or below it.
pub record SoundTimes (n : ℕ) (ts : List Shape) (ls : List ℕ) (ss es : List (Option ℕ)) : Type 0 where
  pub past : (x k : ℕ) → slice_index_or ss x None ≡ Some k → k ≤ n
  pub forward : (x k e : ℕ) → slice_index_or ss x None ≡ Some k → slice_index_or es x None ≡ Some e → k ≤ e
  pub started : (x : ℕ) → x < length ts → (shape_at ts x).sort ≡ step → is_some (slice_index_or ss (up (parents_of ts) (up (parents_of ts) x)) None) ≡ true
  pub over : (x : ℕ) → x < length ts → lasting (shape_at ts x).sort ≡ true → is_some (slice_index_or es x None) ≡ (slice_index ls x == 0)

-- a live process at or below x, or the one that is the make x
abbrev pub counts_at : List ℕ → ℕ → Birth ℕ → Bool
counts_at us x b = b.live && holds us x b.at

-- The births: each has a home, no two live ones have one number, and each place has the count of those that are at or below it.
pub record SoundBirths (bs : List (Birth ℕ)) (ts : List Shape) (ls : List ℕ) : Type 0 where
  pub housed : (i : ℕ) → i < length bs → (birth_at bs i).at < length ts
  pub homely : (i : ℕ) → i < length bs → target_sort (shape_at ts (birth_at bs i).at).sort ≡ false
  pub only : (i j : ℕ) → i < length bs → j < length bs → (birth_at bs i).live ≡ true → (birth_at bs j).live ≡ true → (birth_at bs i).process ≡ (birth_at bs j).process → i ≡ j
  pub live : (x : ℕ) → x < length ts → slice_index ls x ≡ count_by (counts_at (parents_of ts) x) bs

-- The rows: each has eight words; a target needs only earlier ones, and all that these need.
pub record SoundRows (rows : List (List ℕ)) : Type 0 where
  pub whole : (t : ℕ) → t < length rows → length (words rows t) ≡ 8
  pub lower : (t u : ℕ) → t < length rows → u < 512 → needs rows t u ≡ true → u < t
  pub chained : (t u v : ℕ) → t < length rows → u < 512 → v < 512 → needs rows t u ≡ true → needs rows u v ≡ true → needs rows t v ≡ true

-- y is the place of a target of the make m
pub record TargetOf (ts : List Shape) (m y : ℕ) : Type 0 where
  pub within : y < length ts
  pub sort : (shape_at ts y).sort ≡ target
  pub parent : (shape_at ts y).parent ≡ m

-- The makes and their targets: each make has slots of its own, as many as there is room for targets, in which its targets stand; each target has
-- a row.
pub record SoundSlots (ts : List Shape) (cs : List ℕ) (makes targets width : ℕ) (slots : List ℕ) : Type 0 where
  pub row : (x : ℕ) → x < length ts → (shape_at ts x).sort ≡ target → (shape_at ts x).row < targets
  pub ordinal : (x : ℕ) → x < length ts → (shape_at ts x).sort ≡ make → (shape_at ts x).ordinal < makes
  pub apart : (x y : ℕ) → x < length ts → y < length ts → (shape_at ts x).sort ≡ make → (shape_at ts y).sort ≡ make → (shape_at ts x).ordinal ≡ (shape_at ts y).ordinal → x ≡ y
  pub few : (x : ℕ) → slice_index cs x ≤ targets
  pub slotted : (x k : ℕ) → x < length ts → (shape_at ts x).sort ≡ make → k < slice_index cs x → TargetOf ts x (slice_index slots ((shape_at ts x).ordinal * width + k))

-- The room.
pub record SoundRoom (s : Build) : Type 0 where
  pub births : length s.births ≤ s.room.births
  pub makes : s.makes ≤ s.room.makes
  pub targets : length s.rows ≤ s.room.targets
  pub most_births : s.room.births ≤ 4096
  pub most_makes : s.room.makes ≤ 64
  pub most_targets : s.room.targets ≤ 512
  pub slots : length s.slots ≡ s.room.makes * s.room.targets
  pub places : length s.places ≤ 1 + length s.births + s.makes + length s.rows

pub record Sound (s : Build) : Type 0 where
  pub number : s.number ≤ last_number
  pub tree : SoundTree (shapes s.places)
  pub times : SoundTimes s.number (shapes s.places) (lives s.places) (starts s.places) (ends s.places)
  pub births : SoundBirths s.births (shapes s.places) (lives s.places)
  pub rows : SoundRows s.rows
  pub slots : SoundSlots (shapes s.places) (counts s.places) s.makes (length s.rows) s.room.targets s.slots
  pub room : SoundRoom s
