-- The stage order over whole runs: the state tells the accepted calls.
use Rattle.std.proofs.Common.{◌≡◌, ℕ, suc, ◌+◌, ◌-◌, Bool, true, false, cond, eqb, List, [], ◌∷◌, ◌++◌, map, reverse, length, get_or, IfOk, Some, None, Decides, Option, sym, refl, ap, ◌∙◌, subst, inl, inr, ⊎_elim, add-one, arith}
use Rattle.std.proofs.lemmas.List.{length-map, length_push, length-reverse, map_push, get_or-map}
use Rattle.std.proofs.lemmas.Result.{IfOk-at_ok}
use Rattle.std.proofs.lemmas.Bool.{eqb-true, eqb-false}
use Rattle.faults.specs.declared.OrderFault.TheVariants.{UsedUp}
use Rattle.order.proofs.Checks.{passing}
use Rattle.order.proofs.Newest.{newest_push, newest_map}
use Rattle.order.proofs.Runs.{ran_lives}
use Rattle.order.specs.declared.Timestamp.{Timestamp}
use Rattle.order.specs.Events.{Told, birth, make, target, death, post, await}
use Rattle.order.specs.Runs.{Call, tell, stamp, Ran, none, told, given, Alive}
use Rattle.births.specs.declared.Birth.{Birth}
use Rattle.births.specs.Births.{live_birth}
use Rattle.stages.specs.Births.{stage_at, ended}
use Rattle.stages.specs.Machine.{Staged, stages, start, next, known_in, before_in, lives_in, birth_checks, death_checks, tell_stage, stamp_at}
use Rattle.stages.specs.Runs.{SinceStart, births_in, stage_in, Placed, born, still, Known, Before}
use Rattle.stages.specs.Law.{known_parts, known_from, before_parts, before_from, stages_right}
use Rattle.stages.specs.Places.{birth_ended}

-- what a birth shows of itself for good
seen : Birth ℕ → ℕ × ℕ
seen x = (x.process, x.at)

-- The state tells the calls: how many they were, the births among them, and the latest birth of each live process.
record TellsCalls (calls : List Call) (s : Staged) : Type 0 where
  counted : s.number ≡ length calls
  births : map seen s.births ≡ births_in calls
  placed : (p i : ℕ) → live_birth (reverse s.births) p ≡ Some i → Placed p calls (i + 1)

seen_ended : (p : ℕ) (xs : List (Birth ℕ)) → map seen (map (ended p) xs) ≡ map seen xs
unfolding seen
seen_ended p [] = refl
seen_ended p (x ∷ xs) = ap (λ ys. (x.process, x.at) ∷ ys) (seen_ended p xs)

count_is : {calls : List Call} {s : Staged} → TellsCalls calls s → length s.births ≡ length (births_in calls)
count_is {calls} {s} h = sym (length-map s.births seen) ∙ ap length h.births

-- the newest birth gives its process the newest place, and leaves the others where they were
module _ {calls : List Call} (s : Staged) (h : TellsCalls calls s) (p parent stage q i : ℕ) where
  place_born : (b : Bool) → eqb p q ≡ b → cond b (Some (length (reverse s.births))) (live_birth (reverse s.births) q) ≡ Some i → Placed q (tell (birth p parent stage) ∷ calls) (i + 1)
  place_born true is e =
      let new : length (reverse s.births) ≡ i = cc in
      let size : length (births_in calls ++ (p, stage) ∷ []) ≡ i + 1 = omega (arith, length_push (births_in calls) (p, stage), length-reverse s.births, count_is h) in
      subst (Placed q (tell (birth p parent stage) ∷ calls)) size (born (eqb-true p q is))
  place_born false is e = still (eqb-false p q is) (h.placed q i e)

  place_dead : (b : Bool) → cond b None (live_birth (reverse s.births) q) ≡ Some i → Placed q (tell (death p) ∷ calls) (i + 1)
  place_dead true e = cc
  place_dead false e = still (λ x. x) (h.placed q i e)

after_birth : {calls : List Call} (s : Staged) (p parent stage : ℕ) → TellsCalls calls s → TellsCalls (tell (birth p parent stage) ∷ calls) (next s (s.births ++ record { process = p; at = stage; live = true } ∷ []))
unfolding seen
after_birth s p parent stage h =
    let x : Birth ℕ = record { process = p; at = stage; live = true } in
    record {
      counted = add-one s.number ∙ ap suc h.counted;
      births = map_push seen s.births x ∙ ap (λ ys. ys ++ (p, stage) ∷ []) h.births;
      placed = λ q i e. place_born s h p parent stage q i (eqb p q) refl (sym (ap (λ ys. live_birth ys q) (newest_push s.births x)) ∙ e);
    }

after_death : {calls : List Call} (s : Staged) (p : ℕ) → TellsCalls calls s → TellsCalls (tell (death p) ∷ calls) (next s (map (ended p) s.births))
after_death s p h = record {
  counted = add-one s.number ∙ ap suc h.counted;
  births = seen_ended p s.births ∙ h.births;
  placed = λ q i e.
      place_dead s h p 0 0 q i (eqb p q) (sym (ap (λ ys. live_birth ys q) (newest_map (ended p) s.births) ∙ birth_ended (reverse s.births) p q) ∙ e);
}

after_event : {calls : List Call} (s : Staged) (e : Told) → TellsCalls calls s → IfOk (tell_stage s e) (TellsCalls (tell e ∷ calls))
after_event {calls} s (birth p parent stage) h = passing (TellsCalls (tell (birth p parent stage) ∷ calls)) (birth_checks s p parent stage) _ (λ _. after_birth s p parent stage h)
after_event {calls} s (death p) h = passing (TellsCalls (tell (death p) ∷ calls)) (death_checks s p) _ (λ _. after_death s p h)
after_event s (make p) h = tt
after_event s (target p ts) h = tt
after_event s (post p f) h = tt
after_event s (await p f) h = tt

-- what a timestamp leaves
Left : Staged → Timestamp × Staged → Type 0
Left s r = r.1 ≡ next s s.births

left : (s : Staged) (o : Option ℕ) → IfOk (stamp_at s o) (Left s)
unfolding Left
left s None = tt
left s (Some i) = passing (Left s) ((eqb s.number 1000000, UsedUp) ∷ []) _ (λ _. refl)

after_stamp : {calls : List Call} (s : Staged) (p : ℕ) → TellsCalls calls s → TellsCalls (stamp p ∷ calls) (next s s.births)
after_stamp s p h = record {
  counted = add-one s.number ∙ ap suc h.counted;
  births = h.births;
  placed = λ q i e. still (λ x. x) (h.placed q i e);
}

tells_calls : (room : ℕ) {calls : List Call} {s : Staged} → Ran stages (start room) calls s → TellsCalls calls s
unfolding Left
tells_calls room none = record { counted = refl; births = refl; placed = λ p i e. cc }
tells_calls room (told {calls = cs} {t = t} {e = e} r ok) = IfOk-at_ok (TellsCalls (tell e ∷ cs)) ok (after_event t e (tells_calls room r))
tells_calls room (given {calls = cs} {t = t} {p = p} r ok) =
    let state = IfOk-at_ok (Left t) ok (left t (live_birth (reverse t.births) p)) in
    subst (TellsCalls (stamp p ∷ cs)) (sym state) (after_stamp t p (tells_calls room r))

module _ (calls : List Call) (s : Staged) (since : SinceStart calls s) where
  tells : TellsCalls calls s
  tells = tells_calls since.0 since.1

  number_run : s.number ≡ length calls
  number_run = tells.counted

  pub lives_run : (p : ℕ) → Decides (lives_in s p) (Alive p calls)
  lives_run = ran_lives stages stages_right (start since.0) (omega arith) (λ _. refl) since.1

  pub known_run : (a : Timestamp) → Decides (known_in s a) (Known calls a)
  known_run a =
      let n = tells.counted in
      let k = count_is tells in (
        λ e. let h = known_parts s a e in record { from_one = h.0; counted = omega arith; placed = h.2; born = omega arith },
        λ h. known_from s a h.from_one (omega arith) h.placed (omega arith),
      )

  stage_is : (a : Timestamp) → known_in s a ≡ true → stage_at s.births a.place ≡ stage_in calls a.place
  unfolding seen
  stage_is a known =
      let h = known_parts s a known in
      let at : ℕ = a.place - 1 in
      sym (ap (λ (y : ℕ × ℕ). y.1) (ap (λ ys. get_or ys at (0, 0)) (sym tells.births) ∙ get_or-map seen s.births at _ (0, 0) (omega arith)))

  pub before_run : (a b : Timestamp) → Decides (before_in s a b) (Before calls a b)
  before_run a b = (
    λ e.
        let h = before_parts s a b e in
        let x = stage_is a h.0 in
        let y = stage_is b h.1 in
        record { first = (known_run a).0 h.0; second = (known_run b).0 h.1; lower = h.2; staged = ⊎_elim inl (λ l. inr (omega arith)) h.3 },
    λ h.
        let ka = (known_run a).1 h.first in
        let kb = (known_run b).1 h.second in
        let x = stage_is a ka in
        let y = stage_is b kb in
        before_from s a b (ka, kb, h.lower, ⊎_elim inl (λ l. inr (omega arith)) h.staged),
  )

  pub stamp_run : (p i : ℕ) → Some i ≡ live_birth (reverse s.births) p → (s.number + 1 ≡ length calls + 1) × Placed p calls (i + 1)
  stamp_run p i here = (ap (λ n. n + 1) number_run, tells.placed p i (sym here))
