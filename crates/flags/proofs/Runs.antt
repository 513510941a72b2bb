-- The pairs over whole runs.
use Rattle.std.proofs.Common.{◌≡◌, ℕ, ◌-◌, ◌≤◌, Bool, true, false, not, ◌||◌, leb, ◌⊎◌, List, [], ◌∷◌, reverse, length, get_or, is_some, IfOk, Some, None, Ok, Err, Option, Result, sym, refl, ap, ◌∙◌, subst, inl, inr, ⊎_elim, arith}
use Rattle.std.proofs.ByRecursion.{has_append_left, has_push, has_push_cases}
use Rattle.std.proofs.lemmas.Result.{IfOk-at_ok}
use Rattle.std.proofs.lemmas.Bool.{false≢true, leb-true, and_parts, or_parts, not-false}
use Rattle.faults.specs.declared.OrderFault.{OrderFault}
use Rattle.faults.specs.declared.OrderFault.TheVariants.{BadFlag, AwaitsFull}
use Rattle.order.proofs.Checks.{passing}
use Rattle.order.proofs.Runs.{ran_same}
use Rattle.order.specs.declared.Timestamp.{Timestamp}
use Rattle.order.specs.Events.{Told, birth, make, target, death, post, await}
use Rattle.order.specs.Machine.{Machine}
use Rattle.order.specs.Runs.{Call, tell, stamp, Ran, none, told, given}
use Rattle.flags.specs.declared.pair.Pair.{Pair}
use Rattle.flags.specs.Chains.{row}
use Rattle.flags.specs.Machine.{Flagged, new_flags, flagged, is_flag, post_of, keep_below, keep_post, keep_pair, await_after, tell_flagged, stamp_kept}
use Rattle.flags.specs.Runs.{Gave, now, earlier, Posted, Awaited, PairsTold}
use Rattle.flags.specs.Law.{set_cases, none_posted, posted}

-- The state tells the calls: its pairs, and the post of each flag.
record ToldCalls (m : Machine) (s : m.State) (calls : List Call) (t : Flagged m.State) : Type 0 where
  posts : (f : ℕ) (k : Timestamp) → 1 ≤ f → get_or t.posts (f - 1) None ≡ Some k → Posted m s calls f k
  pairs : PairsTold m s calls t.pairs

-- whether the call is an await
abbrev is_await : Call → Bool
is_await (tell (birth p q t)) = false
is_await (tell (make p)) = false
is_await (tell (target p ts)) = false
is_await (tell (death p)) = false
is_await (tell (post p f)) = false
is_await (tell (await p f)) = true
is_await (stamp p) = false

module _ (m : Machine) (s : m.State) where
  -- one call more takes nothing away
  posted_still : {calls : List Call} {f : ℕ} {k : Timestamp} (c : Call) → Posted m s calls f k → Posted m s (c ∷ calls) f k
  posted_still c h = (h.0, earlier h.1)

  awaited_still : {calls : List Call} {f : ℕ} {k : Timestamp} (c : Call) → Awaited m s calls f k → Awaited m s (c ∷ calls) f k
  awaited_still c h = (h.0, earlier h.1)

  -- what the newest call gave, where the run before it led
  Fresh : ℕ → Timestamp → List Call → Type 0
  Fresh p k calls = (t : Flagged m.State) × (b : m.State) × Ran (flagged m) (new_flags s) calls t × (m.stamp t.below p ≡ Ok (k, b))

  gave_cases : {p : ℕ} {c d : Call} {k : Timestamp} {calls : List Call} → Gave m s p c k (d ∷ calls) → ((c ≡ d) × Fresh p k calls) ⊎ Gave m s p c k calls
  unfolding Fresh
  gave_cases (now {t = t} {b = b} r e) = inl (refl, (t, b, r, e))
  gave_cases (earlier g) = inr g

  -- a call that is no await leaves the pairs, and the posts too if it is no post
  pairs_kept : {calls : List Call} {pairs : List Pair} (c : Call) → is_await c ≡ false → PairsTold m s calls pairs → PairsTold m s (c ∷ calls) pairs
  pairs_kept {calls} c other h = record {
    each = λ y i. let r = h.each y i in (r.0, posted_still c r.1, awaited_still c r.2);
    all = λ f k a. let r = h.all f k (⊎_elim (λ n. absurd (false≢true (sym other ∙ sym (ap is_await n.0)))) (λ g. (a.0, g)) (gave_cases a.1)) in (r.0, r.1, r.2, posted_still c r.3);
  }

  all_kept : {calls : List Call} {t : Flagged m.State} (c : Call) → is_await c ≡ false → (b : m.State) → ToldCalls m s calls t
      → ToldCalls m s (c ∷ calls) (record { below = b; posts = t.posts; pairs = t.pairs })
  all_kept c other b h = record { posts = λ f k low e. posted_still c (h.posts f k low e); pairs = pairs_kept c other h.pairs }

  below_told : {calls : List Call} (t : Flagged m.State) (c : Call) → is_await c ≡ false → ToldCalls m s calls t → (r : Result m.State OrderFault) → IfOk (keep_below t r) (ToldCalls m s (c ∷ calls))
  below_told t c other h (Ok b) = all_kept c other b h
  below_told t c other h (Err f) = tt

  post_told : {calls : List Call} (t : Flagged m.State) (p f : ℕ) → 1 ≤ f → Ran (flagged m) (new_flags s) calls t → ToldCalls m s calls t
      → (r : Result (Timestamp × m.State) OrderFault) → m.stamp t.below p ≡ r → IfOk (keep_post t f r) (ToldCalls m s (tell (post p f) ∷ calls))
  post_told t p f low ran h (Err e) is = tt
  post_told {calls} t p f low ran h (Ok r) is = record {
    posts = λ g k low' e.
        ⊎_elim
        (λ new.
        let at = new.0 in
        let held = new.1 in
        let same : r.0 ≡ k = cc in
        let flag : f ≡ g = omega arith in
        subst (λ n. Posted m s (tell (post p f) ∷ calls) n k) flag (subst (Posted m s (tell (post p f) ∷ calls) f) same (p, now ran is)))
        (λ old. posted_still (tell (post p f)) (h.posts g k low' old))
        (set_cases t.posts (f - 1) (g - 1) (Some r.0) e);
    pairs = pairs_kept (tell (post p f)) refl h.pairs;
  }

  -- the newest call gave one timestamp
  fresh_same : {calls : List Call} (t : Flagged m.State) (p : ℕ) → Ran (flagged m) (new_flags s) calls t → (r : Timestamp × m.State) → m.stamp t.below p ≡ Ok r → {k : Timestamp} → Fresh p k calls → r.0 ≡ k
  unfolding Fresh
  fresh_same t p ran r is {k} f =
      let both = sym is ∙ ap (λ u. m.stamp u.below p) (ran_same (flagged m) (new_flags s) ran f.2) ∙ f.3 in
      let pair : r ≡ (k, f.1) = cc in
      ap (λ z. z.0) pair

  await_told : {calls : List Call} (t : Flagged m.State) (p f : ℕ) (k : Timestamp) → Posted m s calls f k → Ran (flagged m) (new_flags s) calls t → ToldCalls m s calls t
      → (r : Result (Timestamp × m.State) OrderFault) → m.stamp t.below p ≡ r → IfOk (keep_pair m t k r) (ToldCalls m s (tell (await p f) ∷ calls))
  await_told t p f k was ran h (Err e) is = tt
  await_told {calls} t p f k was ran h (Ok r) is =
      let c = tell (await p f) in
      let new : Pair = record { post = k; wait = r.0; earlier = row (m.means r.1) k (reverse t.pairs) } in
      record {
        posts = λ g j low e. posted_still c (h.posts g j low e);
        pairs = record {
          each = λ y i.
              ⊎_elim
              (λ old. let q = h.pairs.each y old in (q.0, posted_still c q.1, awaited_still c q.2))
              (λ e. subst (λ z. (g : ℕ) × Posted m s (c ∷ calls) g z.post × Awaited m s (c ∷ calls) g z.wait) e (f, posted_still c was, (p, now ran is)))
              (has_push_cases t.pairs new y i);
          all = λ g j a.
              ⊎_elim
              (λ fresh.
              let call = fresh.0 in
              let flag : f ≡ g = cc in
              let process : a.0 ≡ p = cc in
              (new, has_push t.pairs new, fresh_same t p ran r is (subst (λ q. Fresh q j calls) process fresh.1), subst (λ n. Posted m s (c ∷ calls) n k) flag (posted_still c was)))
              (λ old. let q = h.pairs.all g j (a.0, old) in (q.0, has_append_left t.pairs (new ∷ []) q.0 q.1, q.2, posted_still c q.3))
              (gave_cases a.1);
        };
      }

  event_told : {calls : List Call} (t : Flagged m.State) (e : Told) → Ran (flagged m) (new_flags s) calls t → ToldCalls m s calls t → IfOk (tell_flagged m t e) (ToldCalls m s (tell e ∷ calls))
  event_told t (birth p q st) ran h = below_told t (tell (birth p q st)) refl h _
  event_told t (make p) ran h = below_told t (tell (make p)) refl h _
  event_told t (target p ts) ran h = below_told t (tell (target p ts)) refl h _
  event_told t (death p) ran h = below_told t (tell (death p)) refl h _
  event_told {calls} t (post p f) ran h =
      passing (ToldCalls m s (tell (post p f) ∷ calls)) ((not (is_flag f) || is_some (post_of t f), BadFlag) ∷ []) (keep_post t f (m.stamp t.below p))
      (λ passed.
      let flag = not-false (is_flag f) (or_parts (not (is_flag f)) _ passed.0).0 in
      post_told t p f (leb-true 1 f (and_parts (leb 1 f) _ flag).0) ran h (m.stamp t.below p) refl)
  event_told {calls} t (await p f) ran h = go (post_of t f) refl
    where
      go : (o : Option Timestamp) → post_of t f ≡ o → IfOk (await_after m t p o) (ToldCalls m s (tell (await p f) ∷ calls))
      go None is = tt
      go (Some k) is =
          let q = posted (is_flag f) _ is in
          passing (ToldCalls m s (tell (await p f) ∷ calls)) ((leb 32 (length t.pairs), AwaitsFull) ∷ []) (keep_pair m t k (m.stamp t.below p))
          (λ _. await_told t p f k (h.posts f k (leb-true 1 f (and_parts (leb 1 f) _ q.0).0) q.1) ran h (m.stamp t.below p) refl)

  stamp_told : {calls : List Call} (t : Flagged m.State) (p : ℕ) → ToldCalls m s calls t → (r : Result (Timestamp × m.State) OrderFault) → IfOk (stamp_kept t r) (λ (u : Timestamp × Flagged m.State). ToldCalls m s (stamp p ∷ calls) u.1)
  stamp_told t p h (Ok r) = all_kept (stamp p) refl r.1 h
  stamp_told t p h (Err f) = tt

  told_calls : {calls : List Call} {t : Flagged m.State} → Ran (flagged m) (new_flags s) calls t → ToldCalls m s calls t
  told_calls none = record {
    posts = λ f k low e. absurd (none_posted 32 (f - 1) e);
    pairs = record { each = λ y i. absurd (omega arith); all = λ f k a. elim a.1 [ ] };
  }
  told_calls (told {calls = cs} {t = t} {e = e} r ok) = IfOk-at_ok (ToldCalls m s (tell e ∷ cs)) ok (event_told t e r (told_calls r))
  told_calls (given {calls = cs} {t = t} {p = p} r ok) = IfOk-at_ok (λ (u : Timestamp × Flagged m.State). ToldCalls m s (stamp p ∷ cs) u.1) ok (stamp_told t p (told_calls r) (m.stamp t.below p))

  pub pairs_run : (calls : List Call) (t : Flagged m.State) → Ran (flagged m) (new_flags s) calls t → PairsTold m s calls t.pairs
  pairs_run calls t ran = (told_calls ran).pairs
