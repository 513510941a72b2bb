-- The rows of prerequisites: for each target, by its number over all makes, eight words of 64 bits. Row t has the bit u exactly if target u is a
-- prerequisite of target t, directly or through others.
use Rattle.std.specs.Prelude.{ℕ, ◌/◌, ◌%◌, ◌^◌, Bool, List, [], map, replicate, fold, bit_or, slice_index, slice_index_or, slice_set}
use Rattle.std.specs.List.{range_with_len}
use Rattle.order.specs.Bits.{bit}

-- the row of target t
abbrev pub words : List (List ℕ) → ℕ → List ℕ
words rows t = slice_index_or rows t []

-- whether a row has the bit of target u
abbrev pub has_bit : List ℕ → ℕ → Bool
has_bit row u = bit (slice_index row (u / 64)) (u % 64)

-- whether target t needs target u
abbrev pub needs : List (List ℕ) → ℕ → ℕ → Bool
needs rows t u = has_bit (words rows t) u

-- a row with another joined to it, word by word
abbrev pub with_row : List ℕ → List ℕ → List ℕ
with_row row more = map (λ i. bit_or (slice_index row i) (slice_index more i)) (range_with_len 0 8)

-- a row with one bit more
abbrev pub with_bit : List ℕ → ℕ → List ℕ
with_bit row u = slice_set row (u / 64) (bit_or (slice_index row (u / 64)) (2 ^ (u % 64)))

-- a row with target u and all that it needs
abbrev pub joined : List (List ℕ) → List ℕ → ℕ → List ℕ
joined rows row u = with_bit (with_row row (words rows u)) u

-- the row of a new target with these prerequisites
abbrev pub joined_row : List (List ℕ) → List ℕ → List ℕ
joined_row rows us = fold (joined rows) (replicate 8 0) us
