-- A row of bits, held in a number.
use Rattle.std.specs.Prelude.{ℕ, ◌/◌, ◌%◌, ◌^◌, Bool, ◌==◌}

-- whether the row has the bit i
abbrev pub bit : ℕ → ℕ → Bool
bit row i = row / 2 ^ i % 2 == 1
