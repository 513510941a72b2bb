-- The form of a path: as a test that computes, and as facts in words.
use Rattle.std.specs.Prelude.{◌≡◌, ℕ, ◌+◌, ◌-◌, ◌<◌, ◌≤◌, Bool, false, not, ◌&&◌, ◌||◌, List, [], ◌∷◌, length, ◌==◌, ◌≢◌, nat_le, slice_index}

-- the byte "/"
abbrev pub slash : ℕ
slash = 47

-- the most bytes that a path has
abbrev pub longest : ℕ
longest = 255

-- the last byte; 0 where there is none
abbrev pub last : List ℕ → ℕ
last bs = slice_index bs (length bs - 1)

-- the form in words
pub record WellFormed (bs : List ℕ) : Type 0 where
  -- it has 1 to 255 bytes
  pub some : 1 ≤ length bs
  pub short : length bs ≤ longest
  -- it begins with a slash
  pub absolute : slice_index bs 0 ≡ slash
  -- no byte is 0
  pub no_zero : (k : ℕ) → k < length bs → slice_index bs k ≢ 0
  -- no two neighbours are slashes
  pub no_double : (k : ℕ) → k + 1 < length bs → slice_index bs k ≡ slash → slice_index bs (k + 1) ≢ slash
  -- it ends in a slash only if that is all
  pub no_trailing : 1 < length bs → last bs ≢ slash

-- whether a byte stands among others
abbrev pub has : ℕ → List ℕ → Bool
has x [] = false
has x (b ∷ bs) = b == x || has x bs

-- whether two slashes stand side by side
abbrev pub doubled : List ℕ → Bool
doubled [] = false
doubled (b ∷ bs) = (b == slash && slice_index bs 0 == slash) || doubled bs

-- whether a slash comes first, and none comes last unless it is the only byte
abbrev pub ends_right : List ℕ → Bool
ends_right bs = slice_index bs 0 == slash && (length bs == 1 || not (last bs == slash))

-- the form as a test
abbrev pub wellformed : List ℕ → Bool
wellformed bs = nat_le (length bs) longest && ends_right bs && not (has 0 bs) && not (doubled bs)
