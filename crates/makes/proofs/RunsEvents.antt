-- What each accepted event did to the state.
use Rattle.std.proofs.Common.{◌≡◌, ℕ, ◌+◌, ◌<◌, ◌≤◌, Bool, true, false, cond, not, ◌&&◌, eqb, ltb, ◌⊎◌, List, [], ◌∷◌, length, IfSome, IfOk, Some, None, Ok, Option, sym, refl, ◌∙◌, inl, inr, arith, MatchOption}
use Rattle.std.proofs.lemmas.Bool.{false≢true, eqb-true, eqb-false, ltb-false, leb-false, not-false, or_parts}
use Rattle.std.specs.Option.{option_map}
use Rattle.faults.specs.declared.OrderFault.TheVariants.{UsedUp}
use Rattle.order.proofs.Checks.{passing, still_counted}
use Rattle.order.specs.Events.{Told, birth, make, target, death, post, await}
use Rattle.order.specs.Meaning.{last_number}
use Rattle.makes.specs.Machine.{Build, found, lives_in, home_of, parent_home, born, born_at, with_step, turned_make, declared, died, birth_checks, birth_from, make_checks, make_from, target_checks, target_from, death_from, tell_make_order}
use Rattle.makes.specs.Places.{is_make, targets_of, kind_at, stand, birth_at, all_declared}
use Rattle.makes.specs.Sound.{Sound}
use Rattle.makes.specs.Deaths.{died_later}
use Rattle.makes.specs.Entries.{ParentHome, home_within, born_later}
use Rattle.makes.specs.Found.{Found, Nobody, found_tells, live_decides}
use Rattle.makes.specs.Later.{Later}
use Rattle.makes.specs.Steps.{stepped_later}
use Rattle.makes.specs.Turns.{turned_later, declared_later}

-- the home of a parent: the session, or that of a live process
abbrev pub Parent : Build → ℕ → ℕ → Type 0
Parent s q h = ((q ≡ 0) × (h ≡ 0)) ⊎ ((i : ℕ) × (q ≡ 0 → ⊥) × Found s.births q i × ((birth_at s.births i).at ≡ h))

pub data Did (s : Build) : Told → Build → Type 0 where
  did_born : {p q t h : ℕ} → eqb t 0 ≡ true → Parent s q h → Nobody s.births p → Did s (birth p q t) (born_at s p s.places (stand s.places h))
  did_step : {p q t h : ℕ} → eqb t 0 ≡ false → Parent s q h → is_make (kind_at s.places h) ≡ true → t ≤ targets_of (kind_at s.places h) → Nobody s.births p
      → Did s (birth p q t) (born_at s p (with_step s h t) (length s.places))
  did_make : {p i : ℕ} → Found s.births p i → is_make (kind_at s.places (birth_at s.births i).at) ≡ false → Did s (make p) (turned_make s i)
  did_target : {p i h : ℕ} {ks : List ℕ} → Found s.births p i → (birth_at s.births i).at ≡ h → is_make (kind_at s.places h) ≡ true
      → all_declared (targets_of (kind_at s.places h)) ks ≡ true → length s.rows < s.room.targets → Did s (target p ks) (declared s h ks)
  did_death : {p i : ℕ} → Found s.births p i → Did s (death p) (died s i)

-- the event did this, and the state after it is a later one
abbrev pub Done : Build → Told → Build → Type 0
Done s e u = Did s e u × Later s u

module _ (s : Build) (sound : Sound s) where
  parent_found : (q : ℕ) → IfSome (parent_home s q) (Parent s q)
  parent_found q = go (eqb q 0) refl
    where
      home : (q ≡ 0 → ⊥) → (o : Option ℕ) → MatchOption o (Nobody s.births q) (λ i. Found s.births q i) → IfSome (option_map (λ i. (birth_at s.births i).at) o) (Parent s q)
      home ne None h = tt
      home ne (Some i) h = inr (i, ne, h, refl)

      go : (b : Bool) → eqb q 0 ≡ b → IfSome (cond b (Some 0) (home_of s q)) (Parent s q)
      go true e = inl (eqb-true q 0 e, refl)
      go false e = home (eqb-false q 0 e) (found s q) (found_tells s.births q)

  pub parent_home_is : {q h : ℕ} → Parent s q h → ParentHome s h
  parent_home_is (inl e) = inl e.1
  parent_home_is (inr e) = inr (e.0, e.2.within, e.2.live, e.3)

  nobody_lives : (p : ℕ) → lives_in s p ≡ false → Nobody s.births p
  nobody_lives p e i f = false≢true (sym e ∙ (live_decides s.births p).1 (i, f))

  birth_did : (p q t : ℕ) (o : Option ℕ) → IfSome o (Parent s q) → IfOk (birth_from s p t o) (Done s (birth p q t))
  birth_did p q t None h = tt
  birth_did p q t (Some h) parent =
      passing (Done s (birth p q t)) (birth_checks s p h t) (Ok (born s p h t)) (λ passed. go (eqb t 0) refl
      (nobody_lives p (or_parts (eqb p 0) (lives_in s p) passed.0).1) passed.1.0 passed.1.1.0 (leb-false _ _ passed.1.1.1.0)
      (still_counted s.number sound.number passed.1.1.1.1.0))
    where
      go : (b : Bool) → eqb t 0 ≡ b → Nobody s.births p
          → (not b && not (is_make (kind_at s.places h))) ≡ false → ltb (targets_of (kind_at s.places h)) t ≡ false → length s.births < s.room.births → s.number + 1 ≤ last_number
          → Done s (birth p q t) (cond b (born_at s p s.places (stand s.places h)) (born_at s p (with_step s h t) (length s.places)))
      go true e nobody is declared-t room more =
          (did_born e parent nobody, born_later s sound more p h (parent_home_is parent) room (λ i w l f. nobody i (record { within = w; live = l; process = f })))
      go false e nobody is declared-t room more =
          let ne = eqb-false t 0 e in
          let made-is = not-false (is_make (kind_at s.places h)) is in
          let few = ltb-false _ _ declared-t in (
            did_step e parent made-is few nobody,
            stepped_later s sound more p h t (parent_home_is parent) room (λ i w l f. nobody i (record { within = w; live = l; process = f })) made-is (omega arith) few,
          )

  make_did : (p : ℕ) (o : Option ℕ) → MatchOption o (Nobody s.births p) (λ i. Found s.births p i) → IfOk (make_from s o) (Done s (make p))
  make_did p None h = tt
  make_did p (Some i) f =
      passing (Done s (make p)) (make_checks s (birth_at s.births i).at) (Ok (turned_make s i)) (λ passed.
      let more = still_counted s.number sound.number passed.1.1.1.0 in
      (did_make f passed.0, turned_later s sound more i f.within f.live passed.0 (leb-false _ _ passed.1.0) (leb-false _ _ passed.1.1.0)))

  target_did : (p : ℕ) (ks : List ℕ) (o : Option ℕ) → MatchOption o (Nobody s.births p) (λ i. Found s.births p i) → IfOk (target_from s ks (option_map (λ i. (birth_at s.births i).at) o)) (Done s (target p ks))
  target_did p ks None h = tt
  target_did p ks (Some i) f =
      let h = (birth_at s.births i).at in
      passing (Done s (target p ks)) (target_checks s (birth_at s.births i).at ks) (Ok (declared s (birth_at s.births i).at ks)) (λ passed.
      let more = still_counted s.number sound.number passed.1.1.1.0 in
      let within = home_within s sound h (inr (i, f.within, f.live, refl)) in
      let is = not-false _ passed.0 in
      let all = not-false _ passed.1.0 in
      let room = leb-false _ _ passed.1.1.0 in
      (did_target f refl is all room, declared_later s sound more h ks within is all room))

  death_did : (p : ℕ) (o : Option ℕ) → MatchOption o (Nobody s.births p) (λ i. Found s.births p i) → IfOk (death_from s o) (Done s (death p))
  death_did p None h = tt
  death_did p (Some i) f =
      passing (Done s (death p)) ((eqb s.number last_number, UsedUp) ∷ []) (Ok (died s i)) (λ passed.
      (did_death f, died_later s sound (still_counted s.number sound.number passed.0) i f.within f.live))

  pub event_did : (e : Told) → IfOk (tell_make_order s e) (Done s e)
  event_did (birth p q t) = birth_did p q t (parent_home s q) (parent_found q)
  event_did (make p) = make_did p (found s p) (found_tells s.births p)
  event_did (target p ks) = target_did p ks (found s p) (found_tells s.births p)
  event_did (death p) = death_did p (found s p) (found_tells s.births p)
  event_did (post p f) = tt
  event_did (await p f) = tt
