-- Bytes put together from their parts.
use Rattle.std.proofs.Common.{◌≡◌, ℕ, ◌*◌, ◌^◌, ◌<◌, ◌≤◌, List, ◌∷◌, ◌++◌, length, take, drop, zero, suc, sym, refl, ap, ◌∙◌, append_assoc, append-nil, arith}
use Rattle.std.specs.List.{flat_map, AllByRecursion}
use Rattle.std.proofs.lemmas.List.{nil_from_length, take_all, take-append-drop, drop-drop}
use Rattle.std.specs.Simd.{first_chunks}
use Rattle.trace_log.specs.Item.{target}
use Rattle.trace_log.specs.Format.{big, body, Small}
use Rattle.trace_log.proofs.Numbers.{length_joined}

-- a front, and what the rest is
pub then : {bs r : List ℕ} (a b : List ℕ) → bs ≡ a ++ r → r ≡ b → bs ≡ a ++ b
then a b e f = e ∙ ap (λ r. a ++ r) f

-- numbers, and the pairs of their bytes
pub record Joined (pairs : List (List ℕ)) (xs : List ℕ) : Type 0 where
  pub split : flat_map (λ p. p) pairs ≡ flat_map (big 2) xs
  pub small : AllByRecursion (λ x. x < 2 ^ 16) xs

-- pairs one after the other
pub pairs_split : (k : ℕ) (bs : List ℕ) → bs ≡ flat_map (λ p. p) (first_chunks 2 k bs) ++ drop (k * 2) bs
pairs_split zero bs = refl
pairs_split (suc k) bs =
    let others = flat_map (λ p. p) (first_chunks 2 k (drop 2 bs)) in
    sym (take-append-drop 2 bs) ∙ ap (λ l. take 2 bs ++ l) (pairs_split k (drop 2 bs) ∙ ap (λ l. others ++ l) (drop-drop (k * 2) 2 bs ∙ ap (λ n. drop n bs) (omega arith)))
    ∙ sym (append_assoc (take 2 bs) others (drop (suc k * 2) bs))

-- pairs that no byte is left of
pub joined_all : (bs : List ℕ) (ps : List (List ℕ)) (xs left : List ℕ) (i k : ℕ) → ps ≡ first_chunks 2 k bs → left ≡ drop (k * 2) bs → length left ≡ 0 → Joined (take i ps) xs → length ps ≤ i → bs ≡ flat_map (big 2) xs
joined_all bs ps xs left i k are rest none h all =
    pairs_split k bs ∙ sym (λ j. flat_map (λ p. p) (are j) ++ rest j) ∙ ap (λ l. flat_map (λ p. p) ps ++ l) (nil_from_length left none) ∙ append-nil (flat_map (λ p. p) ps)
    ∙ ap (flat_map (λ p. p)) (sym (take_all i ps all)) ∙ h.split

-- a target's bytes: process, count, and as many numbers
module _ (fs r rest : List ℕ) (p n : ℕ) (e : fs ≡ big 4 p ++ r) (f : r ≡ big 1 n ++ rest) (long : length rest ≡ 2 * n) (few : n < 2 ^ 8) where
  pub target_body : (ts : List ℕ) → rest ≡ flat_map (big 2) ts → AllByRecursion (λ t. t < 2 ^ 16) ts → p < 2 ^ 32 → ((84 ∷ fs) ≡ body (target p ts)) × Small (target p ts)
  target_body ts is small s =
      let same : n ≡ length ts = omega (arith, ap length is, length_joined ts) in
      let count : r ≡ big 1 (length ts) ++ flat_map (big 2) ts = f ∙ (λ i. big 1 (same i) ++ is i) in
      (ap (λ xs. 84 ∷ xs) (then (big 4 p) _ e count), (s, omega arith, small))
