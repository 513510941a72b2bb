-- Why the checks of a history are enough: the critical-access argument.
use Rattle.std.proofs.Common.{◌≡◌, ℕ, ◌+◌, ◌*◌, ◌<◌, ◌≤◌, Bool, true, false, cond, eqb, ◌⊎◌, List, [], ◌∷◌, ◌++◌, reverse, length, get_or, Some, None, Option, sym, refl, ap, ◌∙◌, subst, subst₂, inl, inr, ⊎_elim, arith}
use Rattle.std.proofs.lemmas.List.Elements.{All-contains, All-head, All-tail, Contains-append_left, Contains-get_or, Contains-push, Contains-push_cases}
use Rattle.std.proofs.lemmas.List.{length_push, length-reverse, get_or_append_left, get_or_default, get_or_push}
use Rattle.std.proofs.lemmas.Bool.{false≢true, cond_both, or_cases, or_left, or_right}
use Rattle.std.specs.List.{All, Contains}
use Rattle.std.specs.Option.{option_to_list}
use Rattle.order.specs.declared.Timestamp.{Timestamp}
use Rattle.order.specs.Meaning.{Meaning, Lawful}
use Rattle.histories.specs.declared.accesses.Access.{Access}
use Rattle.histories.specs.declared.accesses.Kind.{Kind}
use Rattle.histories.specs.declared.accesses.Kind.TheVariants.{Read}
use Rattle.histories.specs.declared.accesses.Race.{Race}
use Rattle.histories.specs.Histories.{Kept, asked, first_failing, first_race, found, after}
use Rattle.histories.specs.Judged.{Entered, none, moved, more, conflict, InOrder, RaceOf, Judged}
use Rattle.histories.proofs.Asked.{contains_none, contains_some, some_contains, all_passed, one_failed, asks_since, asks_last, asks_only}
use Rattle.histories.proofs.First.{Steady, steady_self, steady_on, first_none, first_some, decides_failed, cases_failed}
use Rattle.std.proofs.lemmas.List.Quantifiers.{all_pairs_push}

module _ (critical : Kind → Bool) (before : Timestamp → Timestamp → Bool) where
  -- an access of the list, with this timestamp
  abbrev From : List Access → Timestamp → Type 0
  From es t = (e : Access) × Contains es e × (e.at ≡ t)

  -- a critical one
  abbrev FromCritical : List Access → Timestamp → Type 0
  FromCritical es t = (e : Access) × Contains es e × (e.at ≡ t) × (critical e.kind ≡ true)

  -- one of the list that conflicts with a new one
  abbrev Rival : List Access → Access → Timestamp → Type 0
  Rival es a t = (e : Access) × Contains es e × (e.at ≡ t) × (conflict critical e a ≡ true)

  -- An access is past if it waits for the next critical one, or is the last critical one or before it.
  abbrev Past : Kept → Access → Type 0
  Past k e = ((critical e.kind ≡ false) × Contains k.since e.at) ⊎ ((c : Timestamp) × (k.critical ≡ Some c) × ((e.at ≡ c) ⊎ (before e.at c ≡ true)))

  -- two accesses, the earlier first: if they conflict, they are in order
  abbrev Fits : Access → Access → Type 0
  Fits e f = conflict critical e f ≡ true → before e.at f.at ≡ true

  -- while no check has failed
  record Clean (es : List Access) (k : Kept) : Type 0 where
    ordered : InOrder critical before es
    past : (e : Access) → Contains es e → Past k e
    since_last : (c t : Timestamp) → k.critical ≡ Some c → Contains k.since t → before c t ≡ true

  record Sound (es : List Access) (k : Kept) : Type 0 where
    last_from : (c : Timestamp) → k.critical ≡ Some c → FromCritical es c
    since_from : (t : Timestamp) → Contains k.since t → From es t
    shown : (r : Race) → k.failed ≡ Some r → RaceOf critical before es r
    clean : k.failed ≡ None → Clean es k

  -- a race stays one
  race_stays : (es : List Access) (a : Access) (r : Race) → RaceOf critical before es r → RaceOf critical before (es ++ a ∷ []) r
  race_stays es a r h =
      let size = length_push es a in
      let at : (n : ℕ) → n < length es → (d : Access) → get_or (es ++ a ∷ []) n d ≡ get_or es n d = λ n l d. get_or_append_left es (a ∷ []) d n l in
      let less = h.rising in
      let inside = h.within in
      let fi : h.i < length es = omega arith in
      record {
        i = h.i;
        j = h.j;
        rising = h.rising;
        within = omega arith;
        earlier = λ d. ap (λ e. e.at) (at h.i fi d) ∙ h.earlier d;
        later = λ d. ap (λ e. e.at) (at h.j inside d) ∙ h.later d;
        conflicting = λ d. subst₂ (λ e f. conflict critical e f ≡ true) (sym (at h.i fi d)) (sym (at h.j inside d)) (h.conflicting d);
        unordered = h.unordered;
      }

  module _ (chained : (a b c : Timestamp) → before a b ≡ true → before b c ≡ true → before a c ≡ true) (es : List Access) (k : Kept) (s : Sound es k) (a : Access) where
    -- a new race
    race_new : (t : Timestamp) → Rival es a t → before t a.at ≡ false → RaceOf critical before (es ++ a ∷ []) (record { earlier = t; later = a.at })
    race_new t v unordered =
        let size = length_push es a in
        let i = v.1.0 in
        let inside : i < length es = v.1.1 in
        let old : (d : Access) → get_or (es ++ a ∷ []) i d ≡ v.0 = λ d. get_or_append_left es (a ∷ []) d i inside ∙ get_or_default es i d v.0 inside ∙ v.1.2 in
        let new : (d : Access) → get_or (es ++ a ∷ []) (length es) d ≡ a = λ d. get_or_push es a d (length es) refl in
        record {
          i = i;
          j = length es;
          rising = inside;
          within = omega arith;
          earlier = λ d. ap (λ e. e.at) (old d) ∙ v.2;
          later = λ d. ap (λ e. e.at) (new d);
          conflicting = λ d. subst₂ (λ e f. conflict critical e f ≡ true) (sym (old d)) (sym (new d)) v.3;
          unordered = unordered;
        }

    -- each whom the new one is asked against conflicts with it
    rival : (c : Bool) → critical a.kind ≡ c → (t : Timestamp) → Contains (asked c k) t → Rival es a t
    rival true is t h =
        ⊎_elim
        (λ w. let f = s.since_from t w in (f.0, f.1, f.2, or_right (critical f.0.kind) _ is))
        (λ w. let f = s.last_from t w in (f.0, f.1, f.2, or_left _ _ f.3))
        (asks_only k t h)
    rival false is t h = let f = s.last_from t (some_contains k.critical t h) in (f.0, f.1, f.2, or_left _ _ f.3)

    -- all checks passed
    module _ (cl : Clean es k) where
      upto : (e : Access) (c : Timestamp) → (e.at ≡ c) ⊎ (before e.at c ≡ true) → before c a.at ≡ true → before e.at a.at ≡ true
      upto e c (inl same) h = subst (λ t. before t a.at ≡ true) (sym same) h
      upto e c (inr less) h = chained e.at c a.at less h

      -- then each earlier one that conflicts with the new one is before it
      before_new : (c : Bool) → critical a.kind ≡ c → All (λ t. before t a.at ≡ true) (asked c k) → (e : Access) → Contains es e → conflict critical e a ≡ true → before e.at a.at ≡ true
      before_new true is passed e h _ =
          ⊎_elim
          (λ w. All-contains (λ t. before t a.at ≡ true) (asked true k) e.at passed (asks_since k e.at w.1))
          (λ w. upto e w.0 w.2
          (⊎_elim
          (λ v. chained w.0 v.0 a.at (cl.since_last w.0 v.0 w.1 v.1) (All-contains (λ t. before t a.at ≡ true) (asked true k) v.0 passed v.2))
          (λ v. All-contains (λ t. before t a.at ≡ true) (asked true k) w.0 passed v)
          (asks_last k w.0 w.1)))
          (cl.past e h)
      before_new false is passed e h conflicting =
          ⊎_elim
          (λ w. absurd (⊎_elim (λ y. false≢true (sym w.0 ∙ y)) (λ y. false≢true (sym is ∙ y)) (or_cases _ _ conflicting)))
          (λ w. upto e w.0 w.2 (All-contains (λ t. before t a.at ≡ true) (option_to_list k.critical) w.0 passed (contains_some k.critical w.0 w.1)))
          (cl.past e h)

      still_clean : (c : Bool) → critical a.kind ≡ c → All (λ t. before t a.at ≡ true) (asked c k) → Clean (es ++ a ∷ []) (after before c k a.at)
      still_clean true is passed = record {
        ordered = all_pairs_push Fits es a cl.ordered (λ k d l. before_new true is passed (get_or es k d) (Contains-get_or es k d l));
        past = λ e h.
            inr (
              a.at,
              refl,
              ⊎_elim
                  (λ old. inr (before_new true is passed e old (or_right (critical e.kind) _ is)))
                  (λ new. inl (ap (λ f. f.at) (sym new)))
                  (Contains-push_cases es a e h),
            );
        since_last = λ c t _ h. absurd (omega (arith, h.1));
      }
      still_clean false is passed = record {
        ordered = all_pairs_push Fits es a cl.ordered (λ k d l. before_new false is passed (get_or es k d) (Contains-get_or es k d l));
        past = λ e h.
            ⊎_elim
            (λ old. ⊎_elim (λ w. inl (w.0, Contains-append_left k.since (a.at ∷ []) e.at w.1)) inr (cl.past e old))
            (λ new. inl (subst (λ f. (critical f.kind ≡ false) × Contains (k.since ++ a.at ∷ []) f.at) new (is, Contains-push k.since a.at)))
            (Contains-push_cases es a e h);
        since_last = λ c t last h.
            ⊎_elim
            (λ old. cl.since_last c t last old)
            (λ new. subst (λ u. before c u ≡ true) new (All-contains (λ t. before t a.at ≡ true) (option_to_list k.critical) c passed (contains_some k.critical c last)))
            (Contains-push_cases k.since a.at t h);
      }

    -- one access more
    module _ (c : Bool) (is : critical a.kind ≡ c) where
      shown_after : (r : Race) → first_race k.failed (first_failing before (asked c k) a.at) a.at ≡ Some r → RaceOf critical before (es ++ a ∷ []) r
      shown_after =
          first_some (RaceOf critical before (es ++ a ∷ [])) k.failed (first_failing before (asked c k) a.at) a.at
          (λ r e. race_stays es a r (s.shown r e))
          (λ t e. let f = one_failed before a.at (asked c k) e in race_new t (rival c is t f.0) f.1)

      clean_after : first_race k.failed (first_failing before (asked c k) a.at) a.at ≡ None → Clean (es ++ a ∷ []) (after before c k a.at)
      clean_after e =
          let h = first_none k.failed (first_failing before (asked c k) a.at) a.at e in
          still_clean (s.clean h.0) c is (all_passed before a.at (asked c k) h.1)

    sound_after : (c : Bool) → critical a.kind ≡ c → Sound (es ++ a ∷ []) (after before c k a.at)
    sound_after true is = record {
      last_from = λ t e. let same : a.at ≡ t = cc in (a, Contains-push es a, same, is);
      since_from = λ t h. absurd (omega (arith, h.1));
      shown = shown_after true is;
      clean = clean_after true is;
    }
    sound_after false is = record {
      last_from = λ t e. let f = s.last_from t e in (f.0, Contains-append_left es (a ∷ []) f.0 f.1, f.2, f.3);
      since_from = λ t h.
          ⊎_elim
          (λ old. let f = s.since_from t old in (f.0, Contains-append_left es (a ∷ []) f.0 f.1, f.2))
          (λ new. (a, Contains-push es a, new))
          (Contains-push_cases k.since a.at t h);
      shown = shown_after false is;
      clean = clean_after false is;
    }

-- the answers decide what is kept
same_failing : (b p : Timestamp → Timestamp → Bool) (x : Timestamp) (ts : List Timestamp) → All (λ t. b t x ≡ p t x) ts → first_failing b ts x ≡ first_failing p ts x
same_failing b p x [] h = refl
same_failing b p x (t ∷ ts) h = let rest = same_failing b p x ts (All-tail (λ u. b u x ≡ p u x) t ts h) in let one = All-head (λ u. b u x ≡ p u x) t ts h in λ i. cond (one i) (rest i) (Some t)

same_after : (b p : Timestamp → Timestamp → Bool) (c : Bool) (k : Kept) (x : Timestamp) → first_failing b (asked c k) x ≡ first_failing p (asked c k) x → after b c k x ≡ after p c k x
same_after b p true k x e = ap (λ f. record { critical = Some x; since = []; failed = first_race k.failed f x }) e
same_after b p false k x e = ap (λ f. record { critical = k.critical; since = k.since ++ x ∷ []; failed = first_race k.failed f x }) e

module _ (critical : Kind → Bool) (z : Meaning) (lawful : Lawful z) where
  -- all accesses are known, and what is kept is sound by the order as it is in the end
  run_sound : {x : Meaning} {es : List Access} {k : Kept} {n : ℕ} → Entered critical x es k n → Steady x z
      → ((e : Access) → Contains es e → x.known e.at ≡ true) × Sound critical z.before es k
  run_sound none on = (
    λ e h. absurd (contains_none e h),
    record {
      last_from = λ t e. cc;
      since_from = λ t h. absurd (contains_none t h);
      shown = λ r e. cc;
      clean = λ _. record {
        ordered = λ i j d less within. absurd (omega arith);
        past = λ e h. absurd (contains_none e h);
        since_last = λ c t _ h. absurd (contains_none t h);
      };
    },
  )
  run_sound (moved {x = x} {y = y} run step) on = let h = run_sound run (steady_on x y z step on) in (λ e has. step.known_stays e.at (h.0 e has), h.1)
  run_sound (more {x = x} {es = es} {k = k} run a known) on =
      let h = run_sound run on in
      let c = critical a.kind in
      let steady : (t : Timestamp) → Contains (asked c k) t → z.before t a.at ≡ x.before t a.at =
      λ t has. let v = rival critical z.before lawful.chained es k h.1 a c refl t has in
      on.before_stays t a.at (subst (λ u. x.known u ≡ true) v.2 (h.0 v.0 v.1)) known in
      let same : first_failing z.before (asked c k) a.at ≡ first_failing x.before (asked c k) a.at =
      same_failing z.before x.before a.at (asked c k) (λ n d l. steady (get_or (asked c k) n d) (Contains-get_or (asked c k) n d l)) in (
        λ e has. ⊎_elim (h.0 e) (λ new. subst (λ f. x.known f.at ≡ true) new known) (Contains-push_cases es a e has),
        subst (Sound critical z.before (es ++ a ∷ [])) (same_after z.before x.before c k a.at same)
            (sound_after critical z.before lawful.chained es k h.1 a c refl),
      )

-- each check of an access is paid for: one by itself, one by each noncritical access that it relieves
length_some : {X : Type 0} (o : Option X) → length (option_to_list o) ≤ 1
length_some None = omega arith
length_some (Some x) = omega arith

pub few_step : (b : Timestamp → Timestamp → Bool) (c : Bool) (k : Kept) (x : Timestamp) → (found b c k x).checks + length (after b c k x).since ≤ length k.since + 2
few_step b true k x =
    cond_both (eqb (length k.since) 0) (option_to_list k.critical) (reverse k.since) (λ ts. length ts + 0 ≤ length k.since + 2)
    (λ _. omega (arith, length_some k.critical))
    (λ _. omega (arith, length-reverse k.since))
few_step b false k x = omega (arith, length_some k.critical, length_push k.since x)

run_few : (critical : Kind → Bool) {x : Meaning} {es : List Access} {k : Kept} {n : ℕ} → Entered critical x es k n → n + length k.since ≤ 2 * length es
run_few critical none = omega arith
run_few critical (moved run step) = run_few critical run
run_few critical (more {x = x} {es = es} {k = k} run a known) =
    omega (arith, run_few critical run, few_step x.before (critical a.kind) k a.at, length_push es a)

-- a race among the accesses, and all in order: not both
never_both : (critical : Kind → Bool) (before : Timestamp → Timestamp → Bool) (es : List Access) {r : Race} → RaceOf critical before es r → InOrder critical before es → ⊥
never_both critical before es {r} h ordered =
    let a : Access = record { kind = Read; at = r.earlier } in
    false≢true (sym h.unordered ∙ subst₂ (λ t u. before t u ≡ true) (h.earlier a) (h.later a) (ordered h.i h.j a h.rising h.within (h.conflicting a)))

pub judged : (critical : Kind → Bool) (x : Meaning) → Lawful x → {es : List Access} {k : Kept} {n : ℕ} → Entered critical x es k n → Judged critical x.before es k.failed n
judged critical x lawful {es} {k} {n} run =
    let s = (run_sound critical x lawful run (steady_self x)).1 in
    record {
      clean = decides_failed k.failed (λ e. (s.clean e).ordered) (λ r e. never_both critical x.before es (s.shown r e));
      shown = cases_failed (RaceOf critical x.before es) k.failed s.shown;
      few = omega (arith, run_few critical run);
    }
