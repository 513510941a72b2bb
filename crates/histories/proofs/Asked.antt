-- What a new access is asked against, and what the answers tell.
use Rattle.std.proofs.Common.{◌≡◌, suc, Bool, true, false, cond, eqb, not, ◌⊎◌, List, [], ◌∷◌, ◌++◌, reverse, length, Some, None, Option, refl, subst, inl, inr, arith}
use Rattle.std.proofs.lemmas.Bool.{cases_Bool, cond_both, eqb-true, eqb-false}
use Rattle.std.proofs.lemmas.List.Elements.{All-cons, All-nil, All-contains}
use Rattle.std.proofs.lemmas.List.Sorted.{Contains-permutation, IsPermutation-reverse, IsPermutation-sym}
use Rattle.std.specs.Bool.{then_some}
use Rattle.std.specs.List.{All, Contains}
use Rattle.std.specs.Option.{option_or, option_to_list}
use Rattle.order.specs.declared.Timestamp.{Timestamp}
use Rattle.histories.specs.Histories.{Kept, asked, first_failing}

pub contains_none : {X : Type 0} (x : X) → Contains [] x → ⊥
contains_none x h = omega (arith, h.1)

contains_head : {X : Type 0} (x : X) (xs : List X) → Contains (x ∷ xs) x
contains_head x xs = (0, omega arith, refl)

contains_tail : {X : Type 0} (y : X) (xs : List X) (x : X) → Contains xs x → Contains (y ∷ xs) x
contains_tail y xs x h = (suc h.0, omega (arith, h.1), h.2)

contains_one : {X : Type 0} (xs : List X) → (length xs ≡ 0 → ⊥) → (x : X) × Contains xs x
contains_one [] some = absurd (some refl)
contains_one (x ∷ xs) some = (x, contains_head x xs)

-- an Option as a list
pub contains_some : {X : Type 0} (o : Option X) (x : X) → o ≡ Some x → Contains (option_to_list o) x
contains_some None x e = cc
contains_some (Some y) x e = let same : y ≡ x = cc in subst (Contains (y ∷ [])) same (contains_head y [])

pub some_contains : {X : Type 0} (o : Option X) (x : X) → Contains (option_to_list o) x → o ≡ Some x
some_contains None x h = absurd (contains_none x h)
some_contains (Some y) x h = All-contains (λ z. Some y ≡ Some z) (y ∷ []) x (All-cons (λ z. Some y ≡ Some z) y [] refl (All-nil _)) h

-- what comes of each answer
module _ (before : Timestamp → Timestamp → Bool) (x : Timestamp) where
  pub all_passed : (ts : List Timestamp) → first_failing before ts x ≡ None → All (λ t. before t x ≡ true) ts
  all_passed [] e = All-nil _
  all_passed (t ∷ ts) e = go (before t x) refl e (all_passed ts)
    where
      go : (b : Bool) → before t x ≡ b → cond b (first_failing before ts x) (Some t) ≡ None → (first_failing before ts x ≡ None → All (λ u. before u x ≡ true) ts) → All (λ u. before u x ≡ true) (t ∷ ts)
      go true is e rest = All-cons (λ u. before u x ≡ true) t ts is (rest e)
      go false is e rest = cc

  pub one_failed : (ts : List Timestamp) {f : Timestamp} → first_failing before ts x ≡ Some f → Contains ts f × (before f x ≡ false)
  one_failed [] e = cc
  one_failed (t ∷ ts) {f} e = go (before t x) refl e (one_failed ts)
    where
      go : (b : Bool) → before t x ≡ b → cond b (first_failing before ts x) (Some t) ≡ Some f → (first_failing before ts x ≡ Some f → Contains ts f × (before f x ≡ false)) → Contains (t ∷ ts) f × (before f x ≡ false)
      go true is e rest = let h = rest e in (contains_tail t ts f h.0, h.1)
      go false is e rest = let same : t ≡ f = cc in subst (λ u. Contains (t ∷ ts) u × (before u x ≡ false)) same (contains_head t ts, is)

  -- one check more: what failed first stays
  pub one_more : (ts : List Timestamp) (t : Timestamp) → first_failing before (ts ++ t ∷ []) x ≡ option_or (first_failing before ts x) (then_some (not (before t x)) t)
  one_more [] t = elim (cases_Bool (before t x)) [ inl y ↦ rw y refl | inr n ↦ rw n refl ]
  one_more (u ∷ us) t = elim (cases_Bool (before u x)) [ inl y ↦ rw y (one_more us t) | inr n ↦ rw n refl ]

-- whom a critical access is asked against
module _ (k : Kept) where
  -- each noncritical one since the last critical one
  pub asks_since : (t : Timestamp) → Contains k.since t → Contains (asked true k) t
  asks_since t h =
      cond_both (eqb (length k.since) 0) (option_to_list k.critical) (reverse k.since) (λ ts. Contains ts t)
      (λ e. absurd (omega (arith, h.1, eqb-true (length k.since) 0 e)))
      (λ _. Contains-permutation k.since (reverse k.since) t (IsPermutation-reverse k.since) h)

  -- if there is none, the last critical one
  pub asks_last : (c : Timestamp) → k.critical ≡ Some c → ((t : Timestamp) × Contains k.since t × Contains (asked true k) t) ⊎ Contains (asked true k) c
  asks_last c e =
      cond_both (eqb (length k.since) 0) (option_to_list k.critical) (reverse k.since) (λ ts. ((t : Timestamp) × Contains k.since t × Contains ts t) ⊎ Contains ts c)
      (λ _. inr (contains_some k.critical c e))
      (λ some. let one = contains_one k.since (eqb-false (length k.since) 0 some) in inl (one.0, one.1, Contains-permutation k.since (reverse k.since) one.0 (IsPermutation-reverse k.since) one.1))

  -- and nobody else
  pub asks_only : (t : Timestamp) → Contains (asked true k) t → Contains k.since t ⊎ (k.critical ≡ Some t)
  asks_only t =
      cond_both (eqb (length k.since) 0) (option_to_list k.critical) (reverse k.since) (λ ts. Contains ts t → Contains k.since t ⊎ (k.critical ≡ Some t))
      (λ _ h. inr (some_contains k.critical t h))
      (λ _ h. inl (Contains-permutation (reverse k.since) k.since t (IsPermutation-sym k.since (reverse k.since) (IsPermutation-reverse k.since)) h))
