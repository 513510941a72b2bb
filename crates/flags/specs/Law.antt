-- The flags layer keeps the law of orders, over any machine that does.
use Rattle.std.specs.Prelude.{◌≡◌, ℕ, zero, suc, ◌+◌, ◌-◌, ◌<◌, Bool, true, false, cond, not, ◌||◌, ◌⊎◌, List, [], ◌∷◌, ◌++◌, reverse, length, replicate, is_some, is_ok, IfOk, Some, None, Ok, Err, Option, Result, ◌≢◌, nat_le, slice_index_or, slice_set, refl}
use Rattle.std.proofs.Common.{inl, inr, ⊎_elim, sym, ap, subst, ◌∙◌, arith}
use Rattle.std.proofs.ByRecursion.{has_append_left, has_push_cases}
use Rattle.std.proofs.lemmas.Result.{IfOk-at_ok}
use Rattle.std.specs.Result.{result_err}
use Rattle.std.specs.List.{AllByRecursion}
use Rattle.faults.specs.declared.OrderFault.{OrderFault}
use Rattle.faults.specs.declared.OrderFault.TheVariants.{BadFlag, AwaitsFull}
use Rattle.order.proofs.Checks.{passing, refused_after}
use Rattle.order.proofs.Newest.{newest_push}
use Rattle.order.proofs.Stamps.{stamp_ended}
use Rattle.order.specs.declared.Timestamp.{Timestamp}
use Rattle.order.specs.Events.{Told, birth, make, target, death, post, await}
use Rattle.order.specs.Machine.{Machine}
use Rattle.order.specs.Meaning.{Advanced, last_number}
use Rattle.order.specs.Right.{Right, EventTaken, StampGiven}
use Rattle.flags.specs.declared.pair.Pair.{Pair}
use Rattle.flags.specs.Chains.{row}
use Rattle.flags.specs.Machine.{Flagged, new_flags, SoundPair, SoundPairs, Sound, flagged, flag_meaning, keep_below, keep_post, keep_pair, is_flag, post_of, tell_flagged, await_after, stamp_kept}
use Rattle.flags.specs.Through.{flag_lawful, flag_advanced, sound_stays}

-- a post that is held is the one just kept, at its place, or was held before
pub set_cases : {X : Type 0} (xs : List (Option X)) (j i : ℕ) (v : Option X) {k : X} → slice_index_or (slice_set xs j v) i None ≡ Some k → ((j ≡ i) × (v ≡ Some k)) ⊎ (slice_index_or xs i None ≡ Some k)
set_cases [] j i v e = inr e
set_cases (x ∷ xs) zero zero v e = inl (refl, e)
set_cases (x ∷ xs) zero (suc i) v e = inr e
set_cases (x ∷ xs) (suc j) zero v e = inr e
set_cases (x ∷ xs) (suc j) (suc i) v e = ⊎_elim (λ h. inl (ap suc h.0, h.1)) inr (set_cases xs j i v e)

-- a flag that was posted is a flag
pub posted : (b : Bool) (o : Option Timestamp) {k : Timestamp} → cond b o None ≡ Some k → (b ≡ true) × (o ≡ Some k)
posted true o e = (refl, e)
posted false o e = cc

module _ (m : Machine) (right : Right m) (s : Flagged m.State) (v : Sound m s) where
  -- the order below moved on, and the pairs stayed
  same_pairs : (b : m.State) → m.valid b → Advanced (m.means s.below) (m.means b) → Advanced (flag_meaning (m.means s.below) s.pairs) (flag_meaning (m.means b) s.pairs)
  same_pairs b vb on =
      let ax = right.lawful s.below v.below in
      let ay = right.lawful b vb in
      flag_advanced (m.means s.below) (m.means b) ax ay on s.pairs s.pairs v.pairs
      (sound_stays (m.means s.below) (m.means b) ax ay on (reverse s.pairs) v.pairs) (λ z h. h) (λ z h. inl h)

  pairs_stay : (b : m.State) → m.valid b → Advanced (m.means s.below) (m.means b) → SoundPairs (m.means b) (reverse s.pairs)
  pairs_stay b vb on = sound_stays (m.means s.below) (m.means b) (right.lawful s.below v.below) (right.lawful b vb) on (reverse s.pairs) v.pairs

  -- an event of the order below
  below_taken : (e : Told) (r : Result m.State OrderFault) → m.tell s.below e ≡ r → IfOk (keep_below s r) (EventTaken (flagged m) s e)
  below_taken e (Err f) is = tt
  below_taken e (Ok b) is =
      let h = right.taken s.below e b v.below is in
      record {
        advanced = same_pairs b h.valid h.advanced;
        lives = h.lives;
        valid = record {
          below = h.valid;
          posts = λ i k e. h.advanced.known_stays k (v.posts i k e);
          pairs = pairs_stay b h.valid h.advanced;
        };
      }

  post_taken : (p f : ℕ) (r : Result (Timestamp × m.State) OrderFault) → m.stamp s.below p ≡ r → IfOk (keep_post s f r) (EventTaken (flagged m) s (post p f))
  post_taken p f (Err e) is = tt
  post_taken p f (Ok r) is =
      let h = right.given s.below p r.0 r.1 v.below is in
      record {
        advanced = same_pairs r.1 h.valid h.advanced;
        lives = h.lives;
        valid = record {
          below = h.valid;
          posts = λ i k e.
              ⊎_elim
              (λ new. let held = new.1 in let same : r.0 ≡ k = cc in subst (λ t. (m.means r.1).known t ≡ true) same h.known)
              (λ old. h.advanced.known_stays k (v.posts i k old))
              (set_cases s.posts (f - 1) i (Some r.0) e);
          pairs = pairs_stay r.1 h.valid h.advanced;
        };
      }

  -- every await so far is below the next number
  older : (n : ℕ) → n ≡ (m.means s.below).number + 1 → (ys : List Pair) → SoundPairs (m.means s.below) ys → AllByRecursion (λ z. z.wait.number < n) ys
  older n is [] q = tt
  older n is (z ∷ ys) q = (let r = ((right.lawful s.below v.below).ranged z.wait q.0.wait_known).1 in omega arith, older n is ys q.1)

  await_taken : (p f : ℕ) (k : Timestamp) → (m.means s.below).known k ≡ true → (r : Result (Timestamp × m.State) OrderFault) → m.stamp s.below p ≡ r → IfOk (keep_pair m s k r) (EventTaken (flagged m) s (await p f))
  await_taken p f k known (Err e) is = tt
  await_taken p f k known (Ok r) is =
      let x = m.means s.below in
      let y = m.means r.1 in
      let h = right.given s.below p r.0 r.1 v.below is in
      let ax = right.lawful s.below v.below in
      let ay = right.lawful r.1 h.valid in
      let low = (ax.ranged k known).1 in
      let num = h.newest in
      let new : Pair = record { post = k; wait = r.0; earlier = row y k (reverse s.pairs) } in
      let sound : SoundPair y new (reverse s.pairs) = record {
        post_known = h.advanced.known_stays k known;
        wait_known = h.known;
        rising = omega arith;
        newest = older r.0.number num (reverse s.pairs) v.pairs;
        earlier = refl;
      } in
      let all : SoundPairs y (reverse (s.pairs ++ new ∷ [])) = subst (SoundPairs y) (sym (newest_push s.pairs new)) (sound, pairs_stay r.1 h.valid h.advanced) in
      record {
        advanced = flag_advanced x y ax ay h.advanced s.pairs (s.pairs ++ new ∷ []) v.pairs all (λ z i. has_append_left s.pairs (new ∷ []) z i)
            (λ z i. ⊎_elim inl (λ e. inr (let n = ap (λ w. w.wait.number) e in omega arith)) (has_push_cases s.pairs new z i));
        lives = h.lives;
        valid = record { below = h.valid; posts = λ i j e. h.advanced.known_stays j (v.posts i j e); pairs = all };
      }

  await_after_taken : (p f : ℕ) (o : Option Timestamp) → post_of s f ≡ o → IfOk (await_after m s p o) (EventTaken (flagged m) s (await p f))
  await_after_taken p f None is = tt
  await_after_taken p f (Some k) is =
      passing (EventTaken (flagged m) s (await p f)) ((nat_le 32 (length s.pairs), AwaitsFull) ∷ []) (keep_pair m s k (m.stamp s.below p))
      (λ _. await_taken p f k (v.posts (f - 1) k (posted (is_flag f) _ is).1) (m.stamp s.below p) refl)

  event_taken : (e : Told) → IfOk (tell_flagged m s e) (EventTaken (flagged m) s e)
  event_taken (birth p q t) = below_taken (birth p q t) _ refl
  event_taken (make p) = below_taken (make p) _ refl
  event_taken (target p ts) = below_taken (target p ts) _ refl
  event_taken (death p) = below_taken (death p) _ refl
  event_taken (post p f) =
      passing (EventTaken (flagged m) s (post p f)) ((not (is_flag f) || is_some (post_of s f), BadFlag) ∷ []) (keep_post s f (m.stamp s.below p))
      (λ _. post_taken p f (m.stamp s.below p) refl)
  event_taken (await p f) = await_after_taken p f (post_of s f) refl

  stamp_taken : (p : ℕ) (r : Result (Timestamp × m.State) OrderFault) → m.stamp s.below p ≡ r → IfOk (stamp_kept s r) (λ (t : Timestamp × Flagged m.State). StampGiven (flagged m) s t.0 t.1)
  stamp_taken p (Err f) is = tt
  stamp_taken p (Ok r) is =
      let h = right.given s.below p r.0 r.1 v.below is in
      record {
        advanced = same_pairs r.1 h.valid h.advanced;
        lives = h.lives;
        valid = record {
          below = h.valid;
          posts = λ i k e. h.advanced.known_stays k (v.posts i k e);
          pairs = pairs_stay r.1 h.valid h.advanced;
        };
        newest = h.newest;
        known = h.known;
      }

  -- at the last number
  refused_below : (r : Result m.State OrderFault) → is_ok r ≡ false → is_ok (keep_below s r) ≡ false
  refused_below (Ok b) e = e
  refused_below (Err f) e = refl

  refused_post : (f : ℕ) (r : Result (Timestamp × m.State) OrderFault) → is_ok r ≡ false → is_ok (keep_post s f r) ≡ false
  refused_post f (Ok b) e = e
  refused_post f (Err g) e = refl

  refused_pair : (k : Timestamp) (r : Result (Timestamp × m.State) OrderFault) → is_ok r ≡ false → is_ok (keep_pair m s k r) ≡ false
  refused_pair k (Ok b) e = e
  refused_pair k (Err g) e = refl

  await_ended : (p : ℕ) → is_ok (m.stamp s.below p) ≡ false → (o : Option Timestamp) → is_ok (await_after m s p o) ≡ false
  await_ended p e None = refl
  await_ended p e (Some k) = refused_after ((nat_le 32 (length s.pairs), AwaitsFull) ∷ []) _ (refused_pair k (m.stamp s.below p) e)

  event_ended : (m.means s.below).number ≡ last_number → (e : Told) → is_ok (tell_flagged m s e) ≡ false
  event_ended l (birth p q t) = refused_below _ (right.ended s.below (birth p q t) v.below l)
  event_ended l (make p) = refused_below _ (right.ended s.below (make p) v.below l)
  event_ended l (target p ts) = refused_below _ (right.ended s.below (target p ts) v.below l)
  event_ended l (death p) = refused_below _ (right.ended s.below (death p) v.below l)
  event_ended l (post p f) =
      refused_after ((not (is_flag f) || is_some (post_of s f), BadFlag) ∷ []) _ (refused_post f (m.stamp s.below p) (stamp_ended m right s.below p v.below l))
  event_ended l (await p f) = await_ended p (stamp_ended m right s.below p v.below l) (post_of s f)

  stamp_fault_kept : (r : Result (Timestamp × m.State) OrderFault) → result_err (stamp_kept s r) ≡ result_err r
  stamp_fault_kept (Ok r) = refl
  stamp_fault_kept (Err f) = refl

pub flagged_right : (m : Machine) → Right m → Right (flagged m)
flagged_right m right = record {
  lawful = λ s v. flag_lawful (m.means s.below) (right.lawful s.below v.below) s.pairs v.pairs;
  taken = λ s e t v ok. IfOk-at_ok (EventTaken (flagged m) s e) ok (event_taken m right s v e);
  ended = λ s e v l. event_ended m right s v l e;
  given = λ s p k t v ok. IfOk-at_ok (λ (r : Timestamp × Flagged m.State). StampGiven (flagged m) s r.0 r.1) ok (stamp_taken m right s v p (m.stamp s.below p) refl);
  refused = λ s p v. stamp_fault_kept m right s v (m.stamp s.below p) ∙ right.refused s.below p v.below;
  somebody = λ s v. right.somebody s.below v.below;
}

pub none_posted : {X : Type 0} (n i : ℕ) {k : X} → slice_index_or (replicate n None) i None ≢ Some k
none_posted zero i e = cc
none_posted (suc n) zero e = cc
none_posted (suc n) (suc i) e = none_posted n i e

-- a new layer over a valid order is valid
pub new_sound : (m : Machine) (s : m.State) → m.valid s → (t : Flagged m.State) → t ≡ new_flags s → Sound m t
new_sound m s v t is = subst (Sound m) (sym is) (record { below = v; posts = λ i k e. absurd (none_posted 32 i e); pairs = tt })
