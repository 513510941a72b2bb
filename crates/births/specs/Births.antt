-- The births that an order keeps.
use Rattle.std.specs.Prelude.{ℕ, Bool, cond, ◌&&◌, List, [], ◌∷◌, length, Some, None, Option, ◌==◌}
use Rattle.births.specs.declared.Birth.{Birth}

-- a birth of the process, which lives on
abbrev pub is_live : {T : Type 0} → Birth T → ℕ → Bool
is_live b p = b.live && b.process == p

-- the birth of a live process, by its place in the table, in the births newest first
abbrev pub live_birth : {T : Type 0} → List (Birth T) → ℕ → Option ℕ
live_birth [] p = None
live_birth (b ∷ bs) p = cond (is_live b p) (Some (length bs)) (live_birth bs p)
