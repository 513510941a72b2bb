-- The search for a key.
use Rattle.std.specs.Prelude.{ℕ, ◌<◌, Bool, true, false, ◌&&◌, List, length, Option, MatchOption, ◌==◌}
use Rattle.std.specs.List.{HoldsAt, AllWithin}
use Rattle.histories.specs.declared.keys.InodePair.{InodePair}

-- The place of the first element that is answered true, with all before it answered false; none where all are.
abbrev pub Finds : {X : Type 0} → (X → Bool → Type 0) → List X → Option ℕ → Type 0
Finds answers xs r =
    MatchOption r (AllWithin (λ x. answers x false) xs 0 (length xs))
    (λ i. (i < length xs) × HoldsAt (λ x. answers x true) xs i × AllWithin (λ x. answers x false) xs 0 i)

-- whether two inode pairs are equal
abbrev pub same_pair : InodePair → InodePair → Bool
same_pair p q = p.device == q.device && p.inode == q.inode
