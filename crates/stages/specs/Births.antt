-- The births of a stage order. Their table has them oldest first, and the place of a birth is its count from 1; a search goes through
-- them newest first.
use Rattle.std.specs.Prelude.{ℕ, ◌-◌, Bool, false, not, ◌&&◌, List, ◌==◌, slice_index_or}
use Rattle.std.specs.List.{list_any}
use Rattle.births.specs.declared.Birth.{Birth}

-- whether any process lives, in the births newest first
abbrev pub any_live : List (Birth ℕ) → Bool
any_live xs = list_any (λ x. x.live) xs

-- the stage of a place, in the table
abbrev pub stage_at : List (Birth ℕ) → ℕ → ℕ
stage_at xs place = (slice_index_or xs (place - 1) (record { process = 0; at = 0; live = false })).at

-- a birth after the death of a process: one of that process lives no more
abbrev pub ended : ℕ → Birth ℕ → Birth ℕ
ended p x = record { process = x.process; at = x.at; live = x.live && not (x.process == p) }
