-- What a search finds is the first place that passes a test.
use Rattle.std.proofs.Common.{◌≡◌, ℕ, Bool, true, false, List, map, length, Some, None, Option, position, unwrap_or, refl, arith}
use Rattle.std.proofs.lemmas.Bool.Decides.{nat_tests}
use Rattle.std.proofs.lemmas.Iterator.{index_from_first}
use Rattle.std.proofs.lemmas.List.{length-map}
use Rattle.std.specs.List.{position_or_len}
use Rattle.histories.specs.Keys.{Finds}

-- where each answer is the test's
pub found_position : {X Y : Type 0} (key : X → Y) (test : Y → Bool) (answers : X → Bool → Type 0) (xs : List X) (r : Option ℕ) → Finds answers xs r
    → ((x : X) (b : Bool) → answers x b → test (key x) ≡ b) → r ≡ position test (map key xs)
found_position {X} key test answers xs r found is = at r found (first r found)
  where
    before : List X → ℕ
    before ys = position_or_len test (map key ys)

    first : (r : Option ℕ) → Finds answers xs r → before xs ≡ unwrap_or r (length xs)
    first r found =
        index_from_first before (λ x. answers x true) (λ x. answers x false) refl (λ x ys yes. rw (is x true yes) refl) (λ x ys no. rw (is x false no) (omega arith)) xs r found

    at : (r : Option ℕ) → Finds answers xs r → before xs ≡ unwrap_or r (length xs) → r ≡ position test (map key xs)
    at None found e = let same = length-map xs key in grind (arith, nat_tests)
    at (Some i) found e = let same = length-map xs key in let within = found.0 in grind (arith, nat_tests)
