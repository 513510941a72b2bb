-- Chains through pairs of a post and an await, as a test that can be run. The pairs stand newest first here, and a pair's count from 0
-- is how many older ones there are.
use Rattle.std.specs.Prelude.{ℕ, ◌^◌, Bool, false, cond, ◌&&◌, ◌||◌, List, [], ◌∷◌, length, ◌==◌, bit_or}
use Rattle.order.specs.declared.Timestamp.{Timestamp}
use Rattle.order.specs.Bits.{bit}
use Rattle.order.specs.Meaning.{Meaning}
use Rattle.flags.specs.declared.pair.Pair.{Pair}

-- a and b are one timestamp
abbrev pub same : Timestamp → Timestamp → Bool
same a b = a.number == b.number && a.place == b.place

-- a is b, or is before it
abbrev pub leads : Meaning → Timestamp → Timestamp → Bool
leads x a b = same a b || x.before a b

-- the bits of the pairs whose await is, or is before, this post
abbrev pub row : Meaning → Timestamp → List Pair → ℕ
row x post [] = 0
row x post (y ∷ ys) = cond (leads x y.wait post) (bit_or (row x post ys) (2 ^ length ys)) (row x post ys)

-- a pair that leads on to b: its await does, or a newer pair that does so wants it
abbrev pub leads_on : Meaning → Timestamp → ℕ → Pair → List Pair → Bool
leads_on x b wanted y ys = bit wanted (length ys) || leads x y.wait b

-- whether a leads to b through pairs, where some are wanted already
abbrev pub through : Meaning → Timestamp → Timestamp → ℕ → List Pair → Bool
through x a b wanted [] = false
through x a b wanted (y ∷ ys) =
    (leads_on x b wanted y ys && leads x a y.post)
    || through x a b (cond (leads_on x b wanted y ys) (bit_or wanted y.earlier) wanted) ys
