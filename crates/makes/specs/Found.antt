-- The search for a live process: what it tells, and who lives after each event.
use Rattle.std.specs.Prelude.{◌≡◌, ℕ, ◌<◌, Bool, true, false, cond, not, ◌&&◌, ◌||◌, ◌⊎◌, List, [], ◌∷◌, ◌++◌, reverse, length, is_some, Some, None, Decides, Option, MatchOption, ◌==◌, ◌≢◌, slice_set, refl}
use Rattle.std.proofs.Common.{inl, inr, ⊎_elim, sym, ap, subst, ◌∙◌, arith}
use Rattle.std.proofs.lemmas.List.{length_push, length-set, length-reverse, reverse-append, reverse-reverse, get_or-set_same, get_or-set_other}
use Rattle.std.proofs.lemmas.Bool.{false≢true, eqb-true, eq-eqb, and_from, and_parts, cases_eq}
use Rattle.std.proofs.lemmas.Bool.Decides.{same_from_decides, Decides-eqb, Decides-not, Decides-and, Decides-or, Decides-like}
use Rattle.births.specs.declared.Birth.{Birth}
use Rattle.births.specs.Births.{is_live, live_birth}
use Rattle.makes.specs.Places.{no_birth, birth_at}
use Rattle.makes.specs.Lodgers.{birth_old, birth_new, birth_cases}

-- the birth i is that of the live process p
pub record Found (bs : List (Birth ℕ)) (p i : ℕ) : Type 0 where
  pub within : i < length bs
  pub live : (birth_at bs i).live ≡ true
  pub process : (birth_at bs i).process ≡ p

-- nobody of that number lives
abbrev pub Nobody : List (Birth ℕ) → ℕ → Type 0
Nobody bs p = (i : ℕ) → Found bs p i → ⊥

found_kept : (bs : List (Birth ℕ)) (b : Birth ℕ) {p i : ℕ} → Found bs p i → Found (bs ++ b ∷ []) p i
found_kept bs b {p} {i} f = record {
  within = let n = length_push bs b in let h = f.within in omega arith;
  live = ap (λ (y : Birth ℕ). y.live) (birth_old bs b i f.within) ∙ f.live;
  process = ap (λ (y : Birth ℕ). y.process) (birth_old bs b i f.within) ∙ f.process;
}

found_last : (bs : List (Birth ℕ)) (b : Birth ℕ) (p : ℕ) → b.live ≡ true → b.process ≡ p → Found (bs ++ b ∷ []) p (length bs)
found_last bs b p l e = record {
  within = let n = length_push bs b in omega arith;
  live = ap (λ (y : Birth ℕ). y.live) (birth_new bs b) ∙ l;
  process = ap (λ (y : Birth ℕ). y.process) (birth_new bs b) ∙ e;
}

-- a birth of the longer table is an old one or the new one
found_cases : (bs : List (Birth ℕ)) (b : Birth ℕ) {p i : ℕ} → Found (bs ++ b ∷ []) p i → Found bs p i ⊎ ((b.live ≡ true) × (b.process ≡ p))
found_cases bs b {p} {i} f =
    birth_cases bs b (λ j y. y.live ≡ true → y.process ≡ p → Found bs p j ⊎ ((b.live ≡ true) × (b.process ≡ p)))
    (λ j h l e. inl (record { within = h; live = l; process = e })) (λ l e. inr (l, e)) i f.within f.live f.process

-- in the births newest first
turned_more : (b : Birth ℕ) (bs : List (Birth ℕ)) → reverse (b ∷ bs) ≡ reverse bs ++ b ∷ []
turned_more b bs = reverse-append (b ∷ []) bs

tells : (ys : List (Birth ℕ)) (p : ℕ) → MatchOption (live_birth ys p) (Nobody (reverse ys) p) (λ i. Found (reverse ys) p i)
tells [] p = λ i f. let h = f.within in omega arith
tells (b ∷ bs) p = subst (λ xs. MatchOption (live_birth (b ∷ bs) p) (Nobody xs p) (λ i. Found xs p i)) (sym (turned_more b bs)) (go (is_live b p) refl (live_birth bs p) (tells bs p))
  where
    go : (t : Bool) → is_live b p ≡ t → (o : Option ℕ) → MatchOption o (Nobody (reverse bs) p) (λ i. Found (reverse bs) p i)
        → MatchOption (cond t (Some (length bs)) o) (Nobody (reverse bs ++ b ∷ []) p) (λ i. Found (reverse bs ++ b ∷ []) p i)
    go true e o h =
        let parts = and_parts b.live _ e in
        subst (Found (reverse bs ++ b ∷ []) p) (length-reverse bs) (found_last (reverse bs) b p parts.0 (eqb-true b.process p parts.1))
    go false e None h = λ i f. ⊎_elim (h i) (λ new. false≢true (sym e ∙ and_from _ _ new.0 (eq-eqb b.process p new.1))) (found_cases (reverse bs) b f)
    go false e (Some i) h = found_kept (reverse bs) b h

pub found_tells : (bs : List (Birth ℕ)) (p : ℕ) → MatchOption (live_birth (reverse bs) p) (Nobody bs p) (λ i. Found bs p i)
found_tells bs p = subst (λ xs. MatchOption (live_birth (reverse bs) p) (Nobody xs p) (λ i. Found xs p i)) (reverse-reverse bs) (tells (reverse bs) p)

pub live_decides : (bs : List (Birth ℕ)) (p : ℕ) → Decides (is_some (live_birth (reverse bs) p)) ((i : ℕ) × Found bs p i)
live_decides bs p = go (live_birth (reverse bs) p) (found_tells bs p)
  where
    go : (o : Option ℕ) → MatchOption o (Nobody bs p) (λ i. Found bs p i) → Decides (is_some o) ((i : ℕ) × Found bs p i)
    go None none = (λ e. absurd (false≢true e), λ f. absurd (none f.0 f.1))
    go (Some i) f = (λ e. (i, f), λ g. refl)

-- Who lives after a birth, after a process has moved, and after a death.
pub lives_born : (bs : List (Birth ℕ)) (p x q : ℕ) → is_some (live_birth (reverse (bs ++ record { process = p; at = x; live = true } ∷ [])) q) ≡ (p == q || is_some (live_birth (reverse bs) q))
lives_born bs p x q =
    let b : Birth ℕ = record { process = p; at = x; live = true } in
    same_from_decides _ _ (live_decides (bs ++ b ∷ []) q)
    (Decides-like _
    (⊎_elim (λ e. (length bs, found_last bs b q refl e)) (λ f. (f.0, found_kept bs b f.1)))
    (λ f. ⊎_elim (λ old. inr (f.0, old)) (λ new. inl new.1) (found_cases bs b f.1))
    (Decides-or _ _ (Decides-eqb p q) (live_decides bs q)))

module _ (bs : List (Birth ℕ)) (i : ℕ) (b : Birth ℕ) (within : i < length bs) where
  -- another home changes nothing
  pub lives_moved : b.live ≡ (birth_at bs i).live → b.process ≡ (birth_at bs i).process → (q : ℕ) → is_some (live_birth (reverse (slice_set bs i b)) q) ≡ is_some (live_birth (reverse bs) q)
  lives_moved l e q =
      same_from_decides _ _ (live_decides (slice_set bs i b) q)
      (Decides-like _
      (λ f. (
        f.0,
        record {
          within = let n = length-set bs i b in let h = f.1.within in omega arith;
          live = (seen f.0).0 ∙ f.1.live;
          process = (seen f.0).1 ∙ f.1.process;
        },
      ))
      (λ f. (
        f.0,
        record {
          within = let n = length-set bs i b in let h = f.1.within in omega arith;
          live = sym (seen f.0).0 ∙ f.1.live;
          process = sym (seen f.0).1 ∙ f.1.process;
        },
      ))
      (live_decides bs q))
    where
      seen : (j : ℕ) → ((birth_at (slice_set bs i b) j).live ≡ (birth_at bs j).live) × ((birth_at (slice_set bs i b) j).process ≡ (birth_at bs j).process)
      seen j =
          ⊎_elim
          (λ is.
          let at = ap (birth_at (slice_set bs i b)) is ∙ get_or-set_same bs i b no_birth within in
          (ap (λ (y : Birth ℕ). y.live) at ∙ l ∙ ap (λ k. (birth_at bs k).live) (sym is), ap (λ (y : Birth ℕ). y.process) at ∙ e ∙ ap (λ k. (birth_at bs k).process) (sym is)))
          (λ ne. let at = get_or-set_other bs i j b no_birth ne in (ap (λ (y : Birth ℕ). y.live) at, ap (λ (y : Birth ℕ). y.process) at))
          (cases_eq j i)

  -- the dead one lives no more, the others as before
  module _ (p : ℕ) (dead : b.live ≡ false) (own : Found bs p i)
      (only : (j k : ℕ) → j < length bs → k < length bs → (birth_at bs j).live ≡ true → (birth_at bs k).live ≡ true → (birth_at bs j).process ≡ (birth_at bs k).process → j ≡ k) where
    pub lives_died : (q : ℕ) → is_some (live_birth (reverse (slice_set bs i b)) q) ≡ (not (p == q) && is_some (live_birth (reverse bs) q))
    lives_died q =
        same_from_decides _ _ (live_decides (slice_set bs i b) q)
        (Decides-like _ (λ h. (h.1.0, still h.0 h.1.1)) (λ f. back f.0 f.1) (Decides-and _ _ (Decides-not _ (Decides-eqb p q)) (live_decides bs q)))
      where
        still : {j : ℕ} → (p ≢ q) → Found bs q j → Found (slice_set bs i b) q j
        still {j} other f =
            let ne : j ≡ i → ⊥ = λ is. other (sym own.process ∙ ap (λ k. (birth_at bs k).process) (sym is) ∙ f.process) in
            let at = get_or-set_other bs i j b no_birth ne in
            record {
              within = let n = length-set bs i b in let h = f.within in omega arith;
              live = ap (λ (y : Birth ℕ). y.live) at ∙ f.live;
              process = ap (λ (y : Birth ℕ). y.process) at ∙ f.process;
            }

        back : (j : ℕ) → Found (slice_set bs i b) q j → (p ≢ q) × ((k : ℕ) × Found bs q k)
        back j f =
            ⊎_elim
            (λ is. absurd (false≢true (sym (ap (λ (y : Birth ℕ). y.live) (ap (birth_at (slice_set bs i b)) is ∙ get_or-set_same bs i b no_birth within) ∙ dead) ∙ f.live)))
            (λ ne.
            let at = get_or-set_other bs i j b no_birth ne in
            let old : Found bs q j = record {
              within = let n = length-set bs i b in let h = f.within in omega arith;
              live = sym (ap (λ (y : Birth ℕ). y.live) at) ∙ f.live;
              process = sym (ap (λ (y : Birth ℕ). y.process) at) ∙ f.process;
            } in
            (λ e. ne (only j i old.within within old.live own.live (old.process ∙ sym e ∙ sym own.process)), (j, old)))
            (cases_eq j i)
