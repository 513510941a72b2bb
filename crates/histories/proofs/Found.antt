-- Why a directory's failing pair tells of all lookups.
use Rattle.std.proofs.Common.{◌≡◌, ℕ, ◌-◌, ◌<◌, ◌≤◌, Bool, true, false, cond, ◌||◌, List, [], ◌∷◌, ◌++◌, length, get_or, Some, None, sym, refl, ap, ◌∙◌, subst, inl, inr, ⊎_elim, arith}
use Rattle.std.proofs.lemmas.List.Elements.{All-contains, All-head, All-tail, Contains-append_left, Contains-get_or, Contains-push, Contains-push_cases}
use Rattle.std.proofs.lemmas.List.Folds.{Any-from_list_any, list_any_at}
use Rattle.std.proofs.lemmas.Option.{slice_get_within, get_or_from_slice_get, slice_get-get_or}
use Rattle.std.proofs.lemmas.List.{get_or_append_left, length_push}
use Rattle.std.proofs.lemmas.Bool.{both_ways, false≢true, cases_lt, cases_Bool, cond-true, cond-false}
use Rattle.std.specs.List.{All, Contains}
use Rattle.order.specs.declared.Timestamp.{Timestamp}
use Rattle.order.specs.Meaning.{Meaning}
use Rattle.histories.specs.declared.accesses.Race.{Race}
use Rattle.histories.specs.Found.{Known, Looked, none, moved, more, Remains, LooksRight, AllRight, FailedLookup, Found}
use Rattle.histories.specs.Histories.{first_race}
use Rattle.histories.specs.Lookups.{Use, looked_up, attempted, removed, KeptAttempts, any_before, newest, failed_lookup, used}
use Rattle.histories.proofs.Asked.{contains_none}
use Rattle.histories.proofs.First.{Steady, steady_self, steady_on, first_none, first_some, decides_failed, cases_failed}
use Rattle.histories.proofs.Remaining.{at_new, remains_on, remains_back, remains_stays, remains_cases, remains_new}

-- what the test of all attempts tells
any_false : (before : Timestamp → Timestamp → Bool) (x : Timestamp) (ts : List Timestamp) → any_before before ts x ≡ false → All (λ t. before t x ≡ false) ts
any_false before x ts passed k d l =
    ⊎_elim (λ yes. absurd (both_ways (any_before before ts x) passed (list_any_at (λ t. before t x) ts k d l yes))) (λ no. no) (cases_Bool (before (get_or ts k d) x))

any_same : (b p : Timestamp → Timestamp → Bool) (x : Timestamp) (ts : List Timestamp) → All (λ t. b t x ≡ p t x) ts → any_before b ts x ≡ any_before p ts x
any_same b p x [] h = refl
any_same b p x (t ∷ ts) h =
    let one = All-head (λ u. b u x ≡ p u x) t ts h in
    let rest = any_same b p x ts (All-tail (λ u. b u x ≡ p u x) t ts h) in
    λ i. one i || rest i

-- the newest attempt
newest_in : (ts : List Timestamp) {t : Timestamp} → newest ts ≡ Some t → Contains ts t
newest_in ts {t} e = (length ts - 1, slice_get_within ts (length ts - 1) t e, get_or_from_slice_get ts (length ts - 1) t t e)

no_newest : (ts : List Timestamp) → newest ts ≡ None → (t : Timestamp) → Contains ts t → ⊥
no_newest ts e t h = let some = slice_get-get_or ts (length ts - 1) t (omega (arith, h.1)) in cc

module _ (before : Timestamp → Timestamp → Bool) where
  record Sound (us : List Use) (k : KeptAttempts) : Type 0 where
    all : (t : Timestamp) → Remains us (length us) t → Contains k.remaining t
    only : (t : Timestamp) → Contains k.remaining t → Remains us (length us) t
    shown : (r : Race) → k.failed ≡ Some r → FailedLookup before us r
    clean : k.failed ≡ None → AllRight before us

  -- a failed lookup stays one
  failed_stays : (us : List Use) (u : Use) (r : Race) → FailedLookup before us r → FailedLookup before (us ++ u ∷ []) r
  failed_stays us u r h =
      let size = length_push us u in
      let inside = h.within in
      record {
        i = h.i;
        within = omega arith;
        lookup = λ d. get_or_append_left us (u ∷ []) d h.i inside ∙ h.lookup d;
        attempt = remains_on us u h.i r.earlier (omega arith) h.attempt;
        unordered = λ t m. h.unordered t (remains_back us u h.i t (omega arith) m);
      }

  -- the lookups so far, and the new use if it is one
  right_push : (us : List Use) (u : Use) → AllRight before us → ((x : Timestamp) → u ≡ looked_up x → LooksRight before (us ++ u ∷ []) (length us) x) → AllRight before (us ++ u ∷ [])
  right_push us u old new i x within at =
      let size = length_push us u in
      ⊎_elim
      (λ (inside : i < length us).
      ⊎_elim
      (λ none. inl (λ t m. none t (remains_back us u i t (omega arith) m)))
      (λ one. inr (one.0, remains_on us u i one.0 (omega arith) one.1, one.2))
      (old i x inside (λ d. sym (get_or_append_left us (u ∷ []) d i inside) ∙ at d)))
      (λ (end : length us ≤ i).
      let last : i ≡ length us = omega arith in
      subst (λ n. LooksRight before (us ++ u ∷ []) n x) (sym last) (new x (sym (at_new us u u) ∙ subst (λ n. get_or (us ++ u ∷ []) n u ≡ looked_up x) last (at u))))
      (cases_lt i (length us))

  module _ (us : List Use) (k : KeptAttempts) (s : Sound us k) where
    -- a lookup that passes
    looks_right : (x : Timestamp) → failed_lookup before k.remaining x ≡ None → LooksRight before (us ++ looked_up x ∷ []) (length us) x
    looks_right x e =
        ⊎_elim
        (λ yes. let h = Any-from_list_any (λ t. before t x) k.remaining yes in inr (h.1, remains_on us (looked_up x) (length us) h.1 (omega arith) (s.only h.1 (h.0, h.2, h.3)), h.4))
        (λ no.
        let none : newest k.remaining ≡ None = sym (cond-false (any_before before k.remaining x) None (newest k.remaining) no) ∙ e in
        inl (λ t m. no_newest k.remaining none t (s.all t (remains_back us (looked_up x) (length us) t (omega arith) m))))
        (cases_Bool (any_before before k.remaining x))

    -- a lookup that fails
    looks_wrong : (x t : Timestamp) → failed_lookup before k.remaining x ≡ Some t → FailedLookup before (us ++ looked_up x ∷ []) (record { earlier = t; later = x })
    looks_wrong x t e =
        ⊎_elim
        (λ yes. let off = cond-true (any_before before k.remaining x) None (newest k.remaining) yes in cc)
        (λ no.
        let some : newest k.remaining ≡ Some t = sym (cond-false (any_before before k.remaining x) None (newest k.remaining) no) ∙ e in
        let size = length_push us (looked_up x) in
        record {
          i = length us;
          within = omega arith;
          lookup = at_new us (looked_up x);
          attempt = remains_on us (looked_up x) (length us) t (omega arith) (s.only t (newest_in k.remaining some));
          unordered = λ v m. All-contains (λ w. before w x ≡ false) k.remaining v (any_false before x k.remaining no) (s.all v (remains_back us (looked_up x) (length us) v (omega arith) m));
        })
        (cases_Bool (any_before before k.remaining x))

    sound_after : (u : Use) → Sound (us ++ u ∷ []) (used before k u)
    sound_after (looked_up x) = record {
      all = λ t m. ⊎_elim (λ e. cc) (λ h. s.all t h.1) (remains_cases us (looked_up x) t m);
      only = λ t h. remains_stays us (looked_up x) t (λ e. cc) (s.only t h);
      shown = first_some (FailedLookup before (us ++ looked_up x ∷ [])) k.failed (failed_lookup before k.remaining x) x
          (λ r e. failed_stays us (looked_up x) r (s.shown r e)) (looks_wrong x);
      clean = λ e.
          let h = first_none k.failed (failed_lookup before k.remaining x) x e in
          right_push us (looked_up x) (s.clean h.0) (λ y same. let eq : x ≡ y = cc in subst (LooksRight before (us ++ looked_up x ∷ []) (length us)) eq (looks_right x h.1));
    }
    sound_after (attempted x) = record {
      all = λ t m.
          ⊎_elim
          (λ e. let same : x ≡ t = cc in subst (Contains (k.remaining ++ x ∷ [])) same (Contains-push k.remaining x))
          (λ h. Contains-append_left k.remaining (x ∷ []) t (s.all t h.1))
          (remains_cases us (attempted x) t m);
      only = λ t h.
          ⊎_elim
          (λ old. remains_stays us (attempted x) t (λ e. cc) (s.only t old))
          (λ new. subst (Remains (us ++ attempted x ∷ []) (length (us ++ attempted x ∷ []))) new (remains_new us x))
          (Contains-push_cases k.remaining x t h);
      shown = λ r e. failed_stays us (attempted x) r (s.shown r e);
      clean = λ e. right_push us (attempted x) (s.clean e) (λ y same. cc);
    }
    sound_after removed = record {
      all = λ t m. ⊎_elim (λ e. cc) (λ h. absurd (h.0 refl)) (remains_cases us removed t m);
      only = λ t h. absurd (contains_none t h);
      shown = λ r e. failed_stays us removed r (s.shown r e);
      clean = λ e. right_push us removed (s.clean e) (λ y same. cc);
    }

-- a use leaves the same by two orders that agree on what remains
same_used : (b p : Timestamp → Timestamp → Bool) (k : KeptAttempts) (u : Use) → ((x : Timestamp) → u ≡ looked_up x → any_before b k.remaining x ≡ any_before p k.remaining x) → used b k u ≡ used p k u
same_used b p k (looked_up x) same = ap (λ c. record { remaining = k.remaining; failed = first_race k.failed (cond c None (newest k.remaining)) x }) (same x refl)
same_used b p k (attempted x) same = refl
same_used b p k removed same = refl

known_after : (x : Meaning) (b : Timestamp → Timestamp → Bool) (k : KeptAttempts) (u : Use) → Known x u → ((t : Timestamp) → Contains k.remaining t → x.known t ≡ true) → (t : Timestamp) → Contains (used b k u).remaining t → x.known t ≡ true
known_after x b k (looked_up y) known old t h = old t h
known_after x b k (attempted y) known old t h = ⊎_elim (old t) (λ new. subst (λ v. x.known v ≡ true) new known) (Contains-push_cases k.remaining y t h)
known_after x b k removed known old t h = absurd (contains_none t h)

known_lookup : (x : Meaning) (u : Use) (y : Timestamp) → u ≡ looked_up y → Known x u → x.known y ≡ true
known_lookup x u y same known = subst (Known x) same known

module _ (z : Meaning) where
  run_sound : {x : Meaning} {us : List Use} {k : KeptAttempts} → Looked x us k → Steady x z → ((t : Timestamp) → Contains k.remaining t → x.known t ≡ true) × Sound z.before us k
  run_sound none on = (
    λ t h. absurd (contains_none t h),
    record {
      all = λ t m. let less = m.earlier in absurd (omega arith);
      only = λ t h. absurd (contains_none t h);
      shown = λ r e. let w : ◌≡◌ {A = ℕ} 0 1 = cc in absurd (omega arith);
      clean = λ _ i x within at. absurd (omega arith);
    },
  )
  run_sound (moved {x = x} {y = y} run step) on = let h = run_sound run (steady_on x y z step on) in (λ t has. step.known_stays t (h.0 t has), h.1)
  run_sound (more {x = x} {us = us} {k = k} run u known) on =
      let h = run_sound run on in
      let same : used z.before k u ≡ used x.before k u =
      same_used z.before x.before k u
      (λ y e. any_same z.before x.before y k.remaining
      (λ n d l. let t = get_or k.remaining n d in on.before_stays t y (h.0 t (Contains-get_or k.remaining n d l)) (known_lookup x u y e known))) in
      (known_after x x.before k u known h.0, subst (Sound z.before (us ++ u ∷ [])) same (sound_after z.before us k h.1 u))

-- a failed lookup, and all of them in order: not both
never_both : (before : Timestamp → Timestamp → Bool) (us : List Use) (r : Race) → FailedLookup before us r → AllRight before us → ⊥
never_both before us r h right =
    ⊎_elim
    (λ none. none r.earlier h.attempt)
    (λ one. false≢true (sym (h.unordered one.0 one.1) ∙ one.2))
    (right h.i r.later h.within h.lookup)

pub looked_found : (x : Meaning) {us : List Use} {k : KeptAttempts} → Looked x us k → Found x.before us k.failed
looked_found x {us} {k} run =
    let s = (run_sound x run (steady_self x)).1 in
    record {
      clean = decides_failed k.failed s.clean (λ r e. never_both x.before us r (s.shown r e));
      shown = cases_failed (FailedLookup x.before us) k.failed s.shown;
    }
