-- How a log is written.
use Rattle.std.specs.Prelude.{ℕ, zero, suc, ◌/◌, ◌%◌, ◌^◌, ◌<◌, cond, List, [], ◌∷◌, ◌++◌, length}
use Rattle.std.specs.List.{flat_map, AllByRecursion}
use Rattle.trace_log.specs.Item.{Item, birth, make, target, death, read, write, exists, removal, post, await}

-- n in k bytes, the most significant first
abbrev pub big : ℕ → ℕ → List ℕ
big zero n = []
big (suc k) n = big k (n / 256) ++ (n % 256 ∷ [])

-- a record after its length: its letter, then its fields; a path is the rest
abbrev pub body : Item → List ℕ
body (birth p q t) = 66 ∷ big 4 p ++ (big 4 q ++ big 2 t)
body (make p) = 77 ∷ big 4 p
body (target p ts) = 84 ∷ big 4 p ++ (big 1 (length ts) ++ flat_map (big 2) ts)
body (death p) = 68 ∷ big 4 p
body (read p d i path) = 82 ∷ big 4 p ++ (big 4 d ++ (big 8 i ++ path))
body (write p d i path) = 87 ∷ big 4 p ++ (big 4 d ++ (big 8 i ++ path))
body (exists p path) = 75 ∷ big 4 p ++ path
body (removal p d i last path) = 85 ∷ big 4 p ++ (big 4 d ++ (big 8 i ++ (big 1 (cond last 1 0) ++ path)))
body (post p f) = 70 ∷ big 4 p ++ big 1 f
body (await p f) = 65 ∷ big 4 p ++ big 1 f

-- a record: its length in two bytes, then that many bytes
abbrev pub encode : Item → List ℕ
encode i = big 2 (length (body i)) ++ body i

-- a log: its version, then its records
abbrev pub log_of : List Item → List ℕ
log_of items = 1 ∷ flat_map encode items

-- each number fits its field
abbrev pub Small : Item → Type 0
Small (birth p q t) = (p < 2 ^ 32) × (q < 2 ^ 32) × (t < 2 ^ 16)
Small (make p) = p < 2 ^ 32
Small (target p ts) = (p < 2 ^ 32) × (length ts < 2 ^ 8) × AllByRecursion (λ t. t < 2 ^ 16) ts
Small (death p) = p < 2 ^ 32
Small (read p d i path) = (p < 2 ^ 32) × (d < 2 ^ 32) × (i < 2 ^ 64)
Small (write p d i path) = (p < 2 ^ 32) × (d < 2 ^ 32) × (i < 2 ^ 64)
Small (exists p path) = p < 2 ^ 32
Small (removal p d i last path) = (p < 2 ^ 32) × (d < 2 ^ 32) × (i < 2 ^ 64)
Small (post p f) = (p < 2 ^ 32) × (f < 2 ^ 8)
Small (await p f) = (p < 2 ^ 32) × (f < 2 ^ 8)

-- a record that can be written: its numbers fit their fields, and its length two bytes
abbrev pub Writable : Item → Type 0
Writable i = Small i × (length (body i) < 2 ^ 16)
