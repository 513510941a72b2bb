-- What the law of orders says of whole runs.
use Rattle.std.proofs.Common.{◌≡◌, ℕ, ◌+◌, Bool, false, ◌⊎◌, List, ◌∷◌, length, Ok, Decides, Result, sym, refl, ap, ◌∙◌, inl, inr, ⊎_elim, arith}
use Rattle.std.proofs.lemmas.Result.{MatchResult-at_ok}
use Rattle.std.proofs.lemmas.Bool.{false≢true}
use Rattle.std.proofs.lemmas.Bool.Decides.{Decides-eqb, Decides-not, Decides-and, Decides-or, Decides-like, Decides-at}
use Rattle.std.specs.Result.{result_unwrap_or}
use Rattle.faults.specs.declared.OrderFault.{OrderFault}
use Rattle.order.specs.declared.Timestamp.{Timestamp}
use Rattle.order.specs.Events.{Told, birth, make, target, death, post, await}
use Rattle.order.specs.Machine.{Machine, Tells}
use Rattle.order.specs.Meaning.{lives_after}
use Rattle.order.specs.Right.{Right}
use Rattle.order.specs.Runs.{Call, tell, stamp, stamp_state, after_call, after, Ran, none, told, given, Bears, Ends, Alive, born, still}

-- one call more: its process is born by it, or lived and did not end by it
AliveBy : ℕ → Call → Type 0 → Type 0
AliveBy p c A = Bears p c ⊎ (A × (Ends p c → ⊥))

alive_more : (p : ℕ) (c : Call) (calls : List Call) → AliveBy p c (Alive p calls) → Alive p (c ∷ calls)
unfolding AliveBy
alive_more p c calls (inl h) = born h
alive_more p c calls (inr h) = still h.0 h.1

alive_last : {p : ℕ} {c : Call} {calls : List Call} → Alive p (c ∷ calls) → AliveBy p c (Alive p calls)
unfolding AliveBy
alive_last (born h) = inl h
alive_last (still a n) = inr (a, n)

-- a call that neither bears nor ends
untouched : {A : Type 0} (b : Bool) → Decides b A → Decides b (⊥ ⊎ (A × (⊥ → ⊥)))
untouched b = Decides-like b (λ a. inr (a, λ x. x)) (⊎_elim absurd (λ h. h.0))

after_decides : (e : Told) (lives : ℕ → Bool) (p : ℕ) {A : Type 0} → Decides (lives p) A → Decides (lives_after e lives p) (AliveBy p (tell e) A)
unfolding AliveBy
after_decides (birth q parent t) lives p d =
    Decides-or _ _ (Decides-eqb q p) (Decides-like (lives p) (λ a. (a, λ x. x)) (λ h. h.0) d)
after_decides (death q) lives p d =
    Decides-like _ (λ h. inr (h.1, h.0)) (⊎_elim absurd (λ h. (h.1, h.0))) (Decides-and _ _ (Decides-not _ (Decides-eqb q p)) d)
after_decides (make q) lives p d = untouched _ d
after_decides (target q ts) lives p d = untouched _ d
after_decides (post q f) lives p d = untouched _ d
after_decides (await q f) lives p d = untouched _ d

-- one call more, as a contract tells it
pub told_more : (m : Machine) (s : m.State) {calls : List Call} {t u : m.State} {U : Type 0} {r : Result U OrderFault} {v : U} (e : Told) {e' : Told} → Ran m s calls t → e' ≡ e
    → Tells (m.tell t e') r t u → r ≡ Ok v → Ran m s (tell e ∷ calls) u
told_more m s {t = t} {u = u} e ran is answer ok = told ran (ap (m.tell t) (sym is) ∙ MatchResult-at_ok (λ _. _ ≡ Ok u) _ _ ok answer)

-- the same calls lead to the same state
pub ran_same : (m : Machine) (s : m.State) {calls : List Call} {t u : m.State} → Ran m s calls t → Ran m s calls u → t ≡ u
ran_same m s none none = refl
ran_same m s (told {e = e} r ok) (told r' ok') = let both = sym ok ∙ ap (λ z. m.tell z e) (ran_same m s r r') ∙ ok' in cc
ran_same m s (given {u = u} {p = p} {k = k} r ok) (given {u = u'} {k = k'} r' ok') =
    let both = sym ok ∙ ap (λ z. m.stamp z p) (ran_same m s r r') ∙ ok' in
    let pair : ◌≡◌ {A = Timestamp × m.State} (k, u) (k', u') = cc in
    ap (λ z. z.1) pair

-- a run leads where its calls lead
pub ran_after : (m : Machine) (s : m.State) {calls : List Call} {t : m.State} → Ran m s calls t → t ≡ after m s calls
ran_after m s none = refl
ran_after m s (told {calls = cs} {t = t} {e = e} r ok) = sym (ap (λ z. result_unwrap_or z t) ok) ∙ ap (λ z. after_call m z (tell e)) (ran_after m s r)
ran_after m s (given {calls = cs} {t = t} {p = p} r ok) = sym (ap (stamp_state t) ok) ∙ ap (λ z. after_call m z (stamp p)) (ran_after m s r)

module _ (m : Machine) (right : Right m) (s : m.State) (valid : m.valid s) where
  -- a run leads to valid states
  pub ran_valid : {calls : List Call} {t : m.State} → Ran m s calls t → m.valid t
  ran_valid none = valid
  ran_valid (told r e) = (right.taken _ _ _ (ran_valid r) e).valid
  ran_valid (given r e) = (right.given _ _ _ _ (ran_valid r) e).valid

  -- each accepted call takes one number
  pub ran_counted : {calls : List Call} {t : m.State} → Ran m s calls t → (m.means t).number ≡ (m.means s).number + length calls
  ran_counted none = omega arith
  ran_counted (told r e) = let h = (right.taken _ _ _ (ran_valid r) e).advanced.counted in let i = ran_counted r in omega arith
  ran_counted (given r e) = let h = (right.given _ _ _ _ (ran_valid r) e).advanced.counted in let i = ran_counted r in omega arith

  -- who lives, where nobody lived at first
  pub ran_lives : ((p : ℕ) → (m.means s).lives p ≡ false) → {calls : List Call} {t : m.State} → Ran m s calls t → (p : ℕ) → Decides ((m.means t).lives p) (Alive p calls)
  unfolding AliveBy
  ran_lives nobody none p = (λ e. absurd (false≢true (sym (nobody p) ∙ e)), λ a. elim a [ ])
  ran_lives nobody (told {calls = cs} {t = t'} {e = e} r ok) p =
      Decides-at _ _ ((right.taken _ _ _ (ran_valid r) ok).lives p)
      (Decides-like _ (alive_more p (tell e) cs) alive_last (after_decides e (m.means t').lives p (ran_lives nobody r p)))
  ran_lives nobody (given {calls = cs} {p = q} r ok) p =
      Decides-at _ _ ((right.given _ _ _ _ (ran_valid r) ok).lives p)
      (Decides-like _ (alive_more p (stamp q) cs) alive_last (untouched _ (ran_lives nobody r p)))
