-- The search for a live process, from the newest birth down.
use Rattle.std.proofs.Common.{◌≡◌, ℕ, ◌+◌, Bool, true, false, List, [], ◌∷◌, ◌++◌, reverse, length, Some, None, MatchOption, Option, IsSomeAnd, sym, refl, ap, subst, ◌∙◌, arith, Iter, Bor}
use denote.Param.Members.{Mut}
use Rattle.std.specs.Fn.{Called}
use Rattle.std.specs.Iterator.{Yields, YieldsThen}
use Rattle.std.specs.List.{FoldsTo}
use Rattle.std.specs.Slice.Iter.{iter_rest, iter_steps_back}
use Rattle.std.proofs.lemmas.Bool.{cond-true, cond-false}
use Rattle.std.proofs.lemmas.List.{reverse-append, length-reverse, length_push}
use Rattle.births.specs.declared.Birth.{Birth}
use Rattle.births.specs.Births.{is_live, live_birth}

module _ {T F : Type 0} (g : Mut F (Bor (Birth T) × Unit {0}) Bool) (f : F) (p : ℕ) (tells : (x : Bor (Birth T)) (b : Bool) (q : F) → Called g f (x, tt) b q → (q ≡ f) × (b ≡ is_live x.now p)) where
  abbrev Call : Bool → F → Bor (Birth T) → F → Type 0
  Call b q x w = Called g q (x, tt) b w

  -- the newest birth, and those before it
  newest : (s t : Iter (Birth T)) (x : Birth T) → iter_rest s ≡ iter_rest t ++ x ∷ [] → live_birth (reverse (iter_rest s)) p ≡ live_birth (x ∷ reverse (iter_rest t)) p
  newest s t x e = ap (λ xs. live_birth (reverse xs) p) e ∙ ap (λ ys. live_birth ys p) (reverse-append (iter_rest t) (x ∷ []))

  -- the births that the search passed over
  passed : (s t : Iter (Birth T)) (xs : List (Bor (Birth T))) (h : F) → Yields iter_steps_back s xs t → FoldsTo (Call false) f xs h
      → (h ≡ f) × (live_birth (reverse (iter_rest s)) p ≡ live_birth (reverse (iter_rest t)) p) × (length (iter_rest s) ≡ length (iter_rest t) + length xs)
  passed s t [] h yields calls = (sym calls, ap (λ u. live_birth (reverse (iter_rest u)) p) yields, omega (arith, ap (λ u. length (iter_rest u)) yields))
  passed s t (x ∷ xs) h yields calls =
      let told = tells x false calls.0 calls.1 in
      let rest = passed yields.0 t xs h yields.2 (subst (λ q. FoldsTo (Call false) q xs h) told.0 calls.2) in
      let size : length (iter_rest s) ≡ length (iter_rest yields.0) + 1 = ap length yields.1 ∙ length_push (iter_rest yields.0) x.now in
      (rest.0, newest s yields.0 x.now yields.1 ∙ cond-false (is_live x.now p) _ _ (sym told.1) ∙ rest.1, omega (arith, rest.2))

  nobody : (xs : List (Birth T)) → length xs ≡ 0 → live_birth (reverse xs) p ≡ None
  nobody [] none = refl
  nobody (x ∷ xs) none = absurd (omega arith)

  -- what it found
  pub found : (s : Iter (Birth T)) (r : Option ℕ) (xs : List (Bor (Birth T))) (o : Option (Bor (Birth T))) (h : F) (u : Iter (Birth T)) → YieldsThen iter_steps_back s xs o u → FoldsTo (Call false) f xs h
      → MatchOption o (r ≡ None) (λ x. IsSomeAnd r (λ i. i + 1 + length xs ≡ length (iter_rest s)) × ((w : F) × Call true h x w)) → r ≡ live_birth (reverse (iter_rest s)) p
  found s r xs None h u yields calls end = end ∙ sym ((passed s yields.0 xs h yields.1 calls).1 ∙ nobody (iter_rest yields.0) yields.2.0)
  found s None xs (Some x) h u yields calls end = absurd end.0
  found s (Some i) xs (Some x) h u yields calls end =
      let before = passed s yields.0 xs h yields.1 calls in
      let told = tells x true end.1.0 (subst (λ q. Call true q x end.1.0) before.0 end.1.1) in
      let size : length (reverse (iter_rest u)) ≡ i = omega (arith, length-reverse (iter_rest u), end.0, before.2, ap length yields.2, length_push (iter_rest u) x.now) in
      sym (before.1 ∙ newest yields.0 u x.now yields.2 ∙ cond-true (is_live x.now p) _ _ (sym told.1) ∙ ap Some size)
