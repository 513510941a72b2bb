-- The loop that makes a row: what one turn does.
use Rattle.std.proofs.Common.{◌≡◌, ℕ, ◌+◌, ◌*◌, ◌%◌, ◌^◌, ◌<◌, ◌≤◌, Bool, true, false, cond, List, reverse, length, get_or, take, sym, ◌∙◌, arith}
use lib.Bits.{bit_or}
use Rattle.std.proofs.lemmas.Nat.{one_shl}
use Rattle.order.proofs.Newest.{newest_next, length_newest}
use Rattle.order.specs.declared.Timestamp.{Timestamp}
use Rattle.order.specs.Meaning.{Meaning}
use Rattle.flags.specs.declared.pair.Pair.{Pair}
use Rattle.flags.specs.Chains.{leads, row}

-- one pair more for the row, in its two ways
module _ (x : Meaning) (post : Timestamp) (xs : List Pair) (i : ℕ) (d : Pair) (within : i < length xs) where
  row_next : (o : Bool) → leads x (get_or xs i d).wait post ≡ o
      → row x post (reverse (take (i + 1) xs)) ≡ cond o (bit_or (row x post (reverse (take i xs))) (2 ^ i)) (row x post (reverse (take i xs)))
  row_next o is =
      newest_next (row x post) xs i d within
      ∙ λ j. cond (is j) (bit_or (row x post (reverse (take i xs))) (2 ^ length_newest xs i (omega arith) j)) (row x post (reverse (take i xs)))

  pub row_with : (n : ℕ) → length xs ≤ 32 → true ≡ leads x (get_or xs i d).wait post → n ≡ row x post (reverse (take i xs)) → bit_or n (1 * 2 ^ i % 2 ^ 32) ≡ row x post (reverse (take (i + 1) xs))
  row_with n few is so_far = (λ j. bit_or (so_far j) (one_shl i 32 (omega arith) j)) ∙ sym (row_next true (sym is))

  pub row_without : (n : ℕ) → false ≡ leads x (get_or xs i d).wait post → n ≡ row x post (reverse (take i xs)) → n ≡ row x post (reverse (take (i + 1) xs))
  row_without n is so_far = so_far ∙ sym (row_next false (sym is))
