-- Lists that grow at their end, read newest first.
use Rattle.std.proofs.Common.{◌≡◌, ℕ, ◌+◌, ◌<◌, ◌≤◌, List, [], ◌∷◌, ◌++◌, map, reverse, length, get_or, take, refl, ap, ◌∙◌}
use mathlib.Core.List.{reverse_aux}
use Rattle.std.proofs.lemmas.List.{reverse-append, take_more, length-reverse, length-take-le}

-- one more at the end is one more in front
pub newest_push : {X : Type 0} (xs : List X) (x : X) → reverse (xs ++ x ∷ []) ≡ x ∷ reverse xs
newest_push xs x = reverse-append xs (x ∷ [])

-- A loop that goes from the start up, and what it has passed.
pub newest_next : {X Y : Type 0} (F : List X → Y) (xs : List X) (i : ℕ) (d : X) → i < length xs → F (reverse (take (i + 1) xs)) ≡ F (get_or xs i d ∷ reverse (take i xs))
newest_next F xs i d within = ap (λ ys. F (reverse ys)) (take_more xs i d within) ∙ ap F (newest_push (take i xs) (get_or xs i d))

-- how many are left
pub length_newest : {X : Type 0} (xs : List X) (i : ℕ) → i ≤ length xs → length (reverse (take i xs)) ≡ i
length_newest xs i within = length-reverse (take i xs) ∙ length-take-le i xs within

map_turned : {X Y : Type 0} (f : X → Y) (xs rest : List X) → reverse_aux (map f xs) (map f rest) ≡ map f (reverse_aux xs rest)
map_turned f [] rest = refl
map_turned f (x ∷ xs) rest = map_turned f xs (x ∷ rest)

pub newest_map : {X Y : Type 0} (f : X → Y) (xs : List X) → reverse (map f xs) ≡ map f (reverse xs)
newest_map f xs = map_turned f xs []
