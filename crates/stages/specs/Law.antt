-- The stage order keeps the law of orders.
use Rattle.std.specs.Prelude.{◌≡◌, ℕ, ◌+◌, ◌-◌, ◌<◌, ◌≤◌, Bool, true, false, cond, ◌&&◌, ◌||◌, ◌⊎◌, List, [], ◌∷◌, ◌++◌, map, reverse, length, is_some, IfSome, is_ok, IfOk, Some, None, Ok, Option, ◌==◌, nat_le, nat_lt, refl}
use Rattle.std.proofs.Common.{inl, inr, ⊎_elim, sym, ap, subst, ◌∙◌, arith}
use Rattle.std.proofs.lemmas.List.{length-map, length_push, get_or_append_left, get_or-map, length-reverse}
use Rattle.std.proofs.lemmas.Result.{IfOk-at_ok}
use Rattle.std.proofs.lemmas.Bool.{eqb-true, eq-eqb, ltb-true, lt-ltb, leb-true, le-leb, and_from, and_parts, or_cases, or_left, or_right}
use Rattle.std.specs.Result.{result_err}
use Rattle.faults.specs.declared.OrderFault.TheVariants.{NotLive, UsedUp}
use Rattle.order.proofs.Checks.{passing, refusing, still_counted}
use Rattle.order.proofs.Newest.{newest_push, newest_map}
use Rattle.order.specs.declared.Timestamp.{Timestamp}
use Rattle.order.specs.Events.{Told, birth, make, target, death, post, await}
use Rattle.order.specs.Machine.{refused_if}
use Rattle.order.specs.Meaning.{Lawful, Advanced, last_number}
use Rattle.order.specs.Right.{Right, EventTaken, StampGiven}
use Rattle.births.specs.declared.Birth.{Birth}
use Rattle.births.specs.Births.{live_birth}
use Rattle.stages.specs.Births.{stage_at, ended}
use Rattle.stages.specs.Machine.{Staged, stages, next, known_in, before_in, birth_checks, death_checks, tell_stage, stamp_at}
use Rattle.stages.specs.Places.{some_cond, none_cond, live_within, birth_ended, any_decides}

-- what a known timestamp tells
pub known_parts : (s : Staged) (a : Timestamp) → known_in s a ≡ true → (1 ≤ a.number) × (a.number ≤ s.number) × (1 ≤ a.place) × (a.place ≤ length s.births)
known_parts s a e =
    let p = and_parts (nat_le 1 a.number) _ e in
    let q = and_parts (nat_le a.number s.number) _ p.1 in
    let r = and_parts (nat_le 1 a.place) _ q.1 in
    (leb-true _ _ p.0, leb-true _ _ q.0, leb-true _ _ r.0, leb-true _ _ r.1)

pub known_from : (s : Staged) (a : Timestamp) → 1 ≤ a.number → a.number ≤ s.number → 1 ≤ a.place → a.place ≤ length s.births → known_in s a ≡ true
known_from s a h i j k = and_from _ _ (le-leb 1 a.number h) (and_from _ _ (le-leb a.number _ i) (and_from _ _ (le-leb 1 a.place j) (le-leb a.place _ k)))

-- what before tells: both are known, the first has the lower number, and the places agree or its stage is lower
abbrev pub Ordered : Staged → Timestamp → Timestamp → Type 0
Ordered s a b = (known_in s a ≡ true) × (known_in s b ≡ true) × (a.number < b.number) × ((a.place ≡ b.place) ⊎ (stage_at s.births a.place < stage_at s.births b.place))

pub before_parts : (s : Staged) (a b : Timestamp) → before_in s a b ≡ true → Ordered s a b
before_parts s a b e =
    let p = and_parts (known_in s a) _ e in
    let q = and_parts (known_in s b) _ p.1 in
    let r = and_parts (nat_lt a.number b.number) _ q.1 in
    (p.0, q.0, ltb-true _ _ r.0, ⊎_elim (λ h. inl (eqb-true _ _ h)) (λ h. inr (ltb-true _ _ h)) (or_cases (a.place == b.place) _ r.1))

pub before_from : (s : Staged) (a b : Timestamp) → Ordered s a b → before_in s a b ≡ true
before_from s a b h =
    and_from _ _ h.0 (and_from _ _ h.1 (and_from _ _ (lt-ltb _ _ h.2)
    (⊎_elim (λ e. or_left _ _ (eq-eqb a.place b.place e)) (λ l. or_right _ _ (lt-ltb _ _ l)) h.3)))

joined : (f : ℕ → ℕ) (p q r : ℕ) → (p ≡ q) ⊎ (f p < f q) → (q ≡ r) ⊎ (f q < f r) → (p ≡ r) ⊎ (f p < f r)
joined f p q r (inl e) (inl d) = inl (e ∙ d)
joined f p q r (inl e) (inr l) = inr (subst (λ n. f n < f r) (sym e) l)
joined f p q r (inr l) (inl d) = inr (subst (λ n. f p < f n) d l)
joined f p q r (inr l) (inr m) = inr (omega arith)

stages_lawful : (s : Staged) → s.number ≤ last_number → Lawful (stages.means s)
stages_lawful s v = record {
  upward = λ a b e. (before_parts s a b e).2;
  chained = λ a b c e d.
      let p = before_parts s a b e in
      let q = before_parts s b c d in
      before_from s a c (p.0, q.1, omega arith, joined (stage_at s.births) a.place b.place c.place p.3 q.3);
  between = λ a b e. let p = before_parts s a b e in (p.0, p.1);
  ranged = λ a e. let p = known_parts s a e in (p.0, p.1);
  limited = v;
}

-- A later state: one number more, and each place that there was with the stage that it had.
module _ (s : Staged) (births : List (Birth ℕ)) (more : length s.births ≤ length births)
    (same : (k : ℕ) → 1 ≤ k → k ≤ length s.births → stage_at births k ≡ stage_at s.births k) where
  known_later : (a : Timestamp) → known_in s a ≡ true → known_in (next s births) a ≡ true
  known_later a e = let p = known_parts s a e in known_from (next s births) a p.0 (omega arith) p.2 (omega arith)

  advanced : Advanced (stages.means s) (stages.means (next s births))
  advanced = record {
    counted = refl;
    known_stays = known_later;
    before_stays = λ a b ka kb.
        let p = known_parts s a ka in
        let q = known_parts s b kb in
        let ea = known_later a ka ∙ sym ka in
        let eb = known_later b kb ∙ sym kb in
        let sa = same a.place p.2 p.3 in
        let sb = same b.place q.2 q.3 in
        λ i. ea i && (eb i && (nat_lt a.number b.number && (a.place == b.place || nat_lt (sa i) (sb i))));
  }

-- each accepted event, by what its checks tell
event_taken : (s : Staged) (e : Told) → s.number ≤ last_number → IfOk (tell_stage s e) (EventTaken stages s e)
event_taken s (birth p parent stage) v =
    let x : Birth ℕ = record { process = p; at = stage; live = true } in
    passing (EventTaken stages s (birth p parent stage)) (birth_checks s p parent stage) (Ok (next s (s.births ++ x ∷ []))) (λ passed. record {
      advanced = advanced s (s.births ++ x ∷ []) (omega (arith, length_push s.births x))
          (λ k low high. ap (λ y. y.at) (get_or_append_left s.births (x ∷ []) _ (k - 1) (omega arith)));
      lives = λ q. ap (λ ys. is_some (live_birth ys q)) (newest_push s.births x) ∙ some_cond (p == q) _ (live_birth (reverse s.births) q);
      valid = still_counted s.number v passed.1.1.0;
    })
event_taken s (death p) v =
    passing (EventTaken stages s (death p)) (death_checks s p) (Ok (next s (map (ended p) s.births))) (λ passed. record {
      advanced = advanced s (map (ended p) s.births) (omega (arith, length-map s.births (ended p)))
          (λ k low high. ap (λ y. y.at) (get_or-map (ended p) s.births (k - 1) _ _ (omega arith)));
      lives = λ q. ap (λ ys. is_some (live_birth ys q)) (newest_map (ended p) s.births)
          ∙ ap is_some (birth_ended (reverse s.births) p q) ∙ none_cond (p == q) (live_birth (reverse s.births) q);
      valid = still_counted s.number v passed.1.0;
    })
event_taken s (make p) v = tt
event_taken s (target p ts) v = tt
event_taken s (post p f) v = tt
event_taken s (await p f) v = tt

-- at the last number the numbers are used up, if no check before that one refuses
event_ended : (s : Staged) (e : Told) → s.number ≡ last_number → is_ok (tell_stage s e) ≡ false
event_ended s (birth p parent stage) e = refusing (birth_checks s p parent stage) _ 2 (eq-eqb s.number last_number e)
event_ended s (death p) e = refusing (death_checks s p) _ 1 (eq-eqb s.number last_number e)
event_ended s (make p) e = refl
event_ended s (target p ts) e = refl
event_ended s (post p f) e = refl
event_ended s (await p f) e = refl

-- a timestamp, by where its process lives
stamp_given : (s : Staged) (o : Option ℕ) → s.number ≤ last_number → IfSome o (λ i. i < length (reverse s.births)) → IfOk (stamp_at s o) (λ r. StampGiven stages s r.0 r.1)
stamp_given s None v h = tt
stamp_given s (Some i) v h =
    passing (λ (r : Timestamp × Staged). StampGiven stages s r.0 r.1) ((s.number == last_number, UsedUp) ∷ []) _ (λ passed. record {
      advanced = advanced s s.births (omega arith) (λ _ _ _. refl);
      lives = λ _. refl;
      valid = still_counted s.number v passed.0;
      newest = refl;
      known = known_from (next s s.births) (record { number = s.number + 1; place = i + 1 }) (omega arith) (omega arith) (omega arith) (omega (arith, length-reverse s.births));
    })

stamp_refused : (s : Staged) (o : Option ℕ) → result_err (stamp_at s o) ≡ cond (is_some o) (cond (s.number == last_number) (Some UsedUp) None) (Some NotLive)
stamp_refused s None = refl
stamp_refused s (Some i) = go (s.number == last_number)
  where
    go : (b : Bool) → result_err {T = Timestamp × Staged} (refused_if b UsedUp (Ok (record { number = s.number + 1; place = i + 1 }, next s s.births))) ≡ cond b (Some UsedUp) None
    go true = refl
    go false = refl

pub stages_right : Right stages
stages_right = record {
  lawful = stages_lawful;
  taken = λ s e t v ok. IfOk-at_ok (EventTaken stages s e) ok (event_taken s e v);
  ended = λ s e v last. event_ended s e last;
  given = λ s p k t v ok. IfOk-at_ok (λ r. StampGiven stages s r.0 r.1) ok (stamp_given s (live_birth (reverse s.births) p) v (live_within (reverse s.births) p));
  refused = λ s p v. stamp_refused s (live_birth (reverse s.births) p);
  somebody = λ s v. any_decides (reverse s.births);
}
