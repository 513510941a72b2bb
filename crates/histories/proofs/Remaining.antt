-- Which attempts remain as a directory is used once more.
use Rattle.std.proofs.Common.{◌≡◌, ℕ, ◌<◌, ◌≤◌, ◌⊎◌, List, [], ◌∷◌, ◌++◌, length, get_or, sym, refl, ◌∙◌, subst, inl, inr, ⊎_elim, arith}
use Rattle.std.proofs.lemmas.List.{length_push, get_or_push, get_or_append_left}
use Rattle.std.proofs.lemmas.Bool.{cases_lt}
use Rattle.order.specs.declared.Timestamp.{Timestamp}
use Rattle.histories.specs.Found.{Remains}
use Rattle.histories.specs.Lookups.{Use, attempted, removed}

module _ (us : List Use) (u : Use) where
  at_old : (n : ℕ) (d : Use) → n < length us → get_or (us ++ u ∷ []) n d ≡ get_or us n d
  at_old n d l = get_or_append_left us (u ∷ []) d n l

  pub at_new : (d : Use) → get_or (us ++ u ∷ []) (length us) d ≡ u
  at_new d = get_or_push us u d (length us) refl

  -- at a place of the old list
  pub remains_on : (i : ℕ) (t : Timestamp) → i ≤ length us → Remains us i t → Remains (us ++ u ∷ []) i t
  remains_on i t within h =
      let less = h.earlier in
      record {
        j = h.j;
        earlier = h.earlier;
        attempt = λ d. at_old h.j d (omega arith) ∙ h.attempt d;
        kept = λ n d lo hi e. h.kept n d lo hi (sym (at_old n d (omega arith)) ∙ e);
      }

  pub remains_back : (i : ℕ) (t : Timestamp) → i ≤ length us → Remains (us ++ u ∷ []) i t → Remains us i t
  remains_back i t within h =
      let less = h.earlier in
      record {
        j = h.j;
        earlier = h.earlier;
        attempt = λ d. sym (at_old h.j d (omega arith)) ∙ h.attempt d;
        kept = λ n d lo hi e. h.kept n d lo hi (at_old n d (omega arith) ∙ e);
      }

  -- at the end of the new list
  pub remains_stays : (t : Timestamp) → (u ≡ removed → ⊥) → Remains us (length us) t → Remains (us ++ u ∷ []) (length (us ++ u ∷ [])) t
  remains_stays t not h =
      let size = length_push us u in
      let less = h.earlier in
      record {
        j = h.j;
        earlier = omega arith;
        attempt = λ d. at_old h.j d less ∙ h.attempt d;
        kept = λ n d lo hi e.
            ⊎_elim
            (λ (old : n < length us). h.kept n d lo old (sym (at_old n d old) ∙ e))
            (λ (new : length us ≤ n). let last : n ≡ length us = omega arith in not (sym (at_new d) ∙ subst (λ m. get_or (us ++ u ∷ []) m d ≡ removed) last e))
            (cases_lt n (length us));
      }

  pub remains_cases : (t : Timestamp) → Remains (us ++ u ∷ []) (length (us ++ u ∷ [])) t → (u ≡ attempted t) ⊎ ((u ≡ removed → ⊥) × Remains us (length us) t)
  remains_cases t h =
      let size = length_push us u in
      let less = h.earlier in
      ⊎_elim
      (λ (old : h.j < length us).
      inr (
        λ e. h.kept (length us) u old (omega arith) (at_new u ∙ e),
        record {
          j = h.j;
          earlier = old;
          attempt = λ d. sym (at_old h.j d old) ∙ h.attempt d;
          kept = λ n d lo hi e. h.kept n d lo (omega arith) (at_old n d hi ∙ e);
        },
      ))
      (λ (new : length us ≤ h.j). let last : h.j ≡ length us = omega arith in inl (sym (at_new u) ∙ subst (λ m. get_or (us ++ u ∷ []) m u ≡ attempted t) last (h.attempt u)))
      (cases_lt h.j (length us))

pub remains_new : (us : List Use) (t : Timestamp) → Remains (us ++ attempted t ∷ []) (length (us ++ attempted t ∷ [])) t
remains_new us t =
    let size = length_push us (attempted t) in
    record { j = length us; earlier = omega arith; attempt = at_new us (attempted t); kept = λ n d lo hi e. absurd (omega arith) }
