-- The make order keeps the law of orders.
use Rattle.std.specs.Prelude.{◌≡◌, ℕ, suc, ◌+◌, ◌<◌, ◌≤◌, Bool, true, false, cond, not, ◌&&◌, List, [], ◌∷◌, length, is_some, IfSome, is_ok, IfOk, Some, None, Ok, Decides, count_by, Option, MatchOption, ◌==◌, ◌≢◌, nat_lt, refl}
use Rattle.std.proofs.Common.{inl, inr, ⊎_elim, sym, ap, ◌∙◌, arith}
use Rattle.std.proofs.lemmas.Result.{IfOk-at_ok}
use Rattle.std.proofs.lemmas.Bool.{false≢true, eqb-false, eq-eqb, ltb-true, ltb-false, lt-ltb, leb-false, not-false, or_parts, and_parts, cases_Bool}
use Rattle.std.specs.Option.{option_map}
use Rattle.std.specs.Result.{result_err}
use Rattle.faults.specs.declared.OrderFault.TheVariants.{NotLive, UsedUp}
use Rattle.order.proofs.Checks.{passing, refusing, still_counted}
use Rattle.order.specs.declared.Timestamp.{Timestamp}
use Rattle.order.specs.Events.{Told, birth, make, target, death, post, await}
use Rattle.order.specs.Machine.{refused_if}
use Rattle.order.specs.Meaning.{last_number}
use Rattle.order.specs.Right.{Right, EventTaken, StampGiven}
use Rattle.births.specs.declared.Birth.{Birth}
use Rattle.makes.specs.Machine.{Build, found, lives_in, home_of, parent_home, born, born_at, with_step, turned_make, declared, died, counted, birth_checks, birth_from, make_checks, make_from, target_checks, target_from, death_from, tell_make_order, stamp_from}
use Rattle.makes.specs.Order.{make_machine}
use Rattle.makes.specs.Places.{is_make, targets_of, place_at, kind_at, stand, parents, birth_at}
use Rattle.makes.specs.Sound.{counts_at, Sound}
use Rattle.makes.specs.Deaths.{counted_sound, counted_later, died_sound, died_later}
use Rattle.makes.specs.Entries.{ParentHome, home_within, stand_within, born_sound, born_later, stand_is_stand}
use Rattle.makes.specs.Found.{Found, Nobody, found_tells, live_decides, lives_born, lives_moved, lives_died}
use Rattle.makes.specs.Later.{advanced}
use Rattle.makes.specs.Lawful.{make_lawful, known_from}
use Rattle.makes.specs.Lodgers.{lodger_counts}
use Rattle.makes.specs.Shapes.{count_by_cons}
use Rattle.makes.specs.Steps.{stepped_sound, stepped_later}
use Rattle.makes.specs.TreeLemmas.{holds_decides, root_holds}
use Rattle.makes.specs.Turns.{turned_sound, turned_later, declared_sound, declared_later}
use Rattle.makes.specs.Views.{live_is}

module _ (s : Build) (sound : Sound s) where
  -- what a parent's home is
  parent_tells : (q : ℕ) → IfSome (parent_home s q) (ParentHome s)
  parent_tells q = go (q == 0)
    where
      home : (o : Option ℕ) → MatchOption o (Nobody s.births q) (λ i. Found s.births q i) → IfSome (option_map (λ i. (birth_at s.births i).at) o) (ParentHome s)
      home None h = tt
      home (Some i) h = inr (i, h.within, h.live, refl)

      go : (b : Bool) → IfSome (cond b (Some 0) (home_of s q)) (ParentHome s)
      go true = inl refl
      go false = home (found s q) (found_tells s.births q)

  home_tells : (p : ℕ) → IfSome (home_of s p) (ParentHome s)
  home_tells p = go (found s p) (found_tells s.births p)
    where
      go : (o : Option ℕ) → MatchOption o (Nobody s.births p) (λ i. Found s.births p i) → IfSome (option_map (λ i. (birth_at s.births i).at) o) (ParentHome s)
      go None h = tt
      go (Some i) h = inr (i, h.within, h.live, refl)

  nobody_from : (p : ℕ) → lives_in s p ≡ false → (i : ℕ) → i < length s.births → (birth_at s.births i).live ≡ true → (birth_at s.births i).process ≢ p
  nobody_from p e i h l q = false≢true (sym e ∙ (live_decides s.births p).1 (i, record { within = h; live = l; process = q }))

  -- each accepted event, by what its checks tell
  birth_taken : (p q t : ℕ) (o : Option ℕ) → IfSome o (ParentHome s) → IfOk (birth_from s p t o) (EventTaken make_machine s (birth p q t))
  birth_taken p q t None h = tt
  birth_taken p q t (Some h) parent =
      passing (EventTaken make_machine s (birth p q t)) (birth_checks s p h t) (Ok (born s p h t)) (λ passed. go (t == 0) refl
      (nobody_from p (or_parts (p == 0) (lives_in s p) passed.0).1) passed.1.0 passed.1.1.0 (leb-false _ _ passed.1.1.1.0)
      (still_counted s.number sound.number passed.1.1.1.1.0))
    where
      go : (b : Bool) → (t == 0) ≡ b → ((i : ℕ) → i < length s.births → (birth_at s.births i).live ≡ true → (birth_at s.births i).process ≢ p)
          → (not b && not (is_make (kind_at s.places h))) ≡ false → nat_lt (targets_of (kind_at s.places h)) t ≡ false → length s.births < s.room.births → s.number + 1 ≤ last_number
          → EventTaken make_machine s (birth p q t) (cond b (born_at s p s.places (stand s.places h)) (born_at s p (with_step s h t) (length s.places)))
      go true e nobody is declared-t room more = record {
        advanced = advanced s (born_at s p s.places (stand s.places h)) sound (born_later s sound more p h parent room nobody);
        lives = λ x. lives_born s.births p (stand s.places h) x;
        valid = born_sound s sound more p h parent room nobody;
      }
      go false e nobody is declared-t room more =
          let ne = eqb-false t 0 e in
          let made-is = not-false (is_make (kind_at s.places h)) is in
          let few = ltb-false _ _ declared-t in
          record {
            advanced = advanced s (born_at s p (with_step s h t) (length s.places)) sound (stepped_later s sound more p h t parent room nobody made-is (omega arith) few);
            lives = λ x. lives_born s.births p (length s.places) x;
            valid = stepped_sound s sound more p h t parent room nobody made-is (omega arith) few;
          }

  make_taken : (p : ℕ) (o : Option ℕ) → MatchOption o (Nobody s.births p) (λ i. Found s.births p i) → IfOk (make_from s o) (EventTaken make_machine s (make p))
  make_taken p None h = tt
  make_taken p (Some i) f =
      passing (EventTaken make_machine s (make p)) (make_checks s (birth_at s.births i).at) (Ok (turned_make s i)) (λ passed.
      let more = still_counted s.number sound.number passed.1.1.1.0 in
      let shallow = leb-false _ _ passed.1.0 in
      let room = leb-false _ _ passed.1.1.0 in
      record {
        advanced = advanced s (turned_make s i) sound (turned_later s sound more i f.within f.live passed.0 shallow room);
        lives = lives_moved s.births i (record { process = (birth_at s.births i).process; at = length s.places; live = (birth_at s.births i).live }) f.within refl refl;
        valid = turned_sound s sound more i f.within f.live passed.0 shallow room;
      })

  target_taken : (p : ℕ) (ks : List ℕ) (o : Option ℕ) → IfSome o (ParentHome s) → IfOk (target_from s ks o) (EventTaken make_machine s (target p ks))
  target_taken p ks None h = tt
  target_taken p ks (Some h) parent =
      passing (EventTaken make_machine s (target p ks)) (target_checks s h ks) (Ok (declared s h ks)) (λ passed.
      let more = still_counted s.number sound.number passed.1.1.1.0 in
      let within = home_within s sound h parent in
      let is = not-false _ passed.0 in
      let all = not-false _ passed.1.0 in
      let room = leb-false _ _ passed.1.1.0 in
      record {
        advanced = advanced s (declared s h ks) sound (declared_later s sound more h ks within is all room);
        lives = λ x. refl;
        valid = declared_sound s sound more h ks within is all room;
      })

  death_taken : (p : ℕ) (o : Option ℕ) → MatchOption o (Nobody s.births p) (λ i. Found s.births p i) → IfOk (death_from s o) (EventTaken make_machine s (death p))
  death_taken p None h = tt
  death_taken p (Some i) f =
      passing (EventTaken make_machine s (death p)) ((s.number == last_number, UsedUp) ∷ []) (Ok (died s i)) (λ passed.
      let more = still_counted s.number sound.number passed.0 in
      record {
        advanced = advanced s (died s i) sound (died_later s sound more i f.within f.live);
        lives = lives_died s.births i (record { process = (birth_at s.births i).process; at = (birth_at s.births i).at; live = false }) f.within p refl f sound.births.only;
        valid = died_sound s sound more i f.within f.live;
      })

  event_taken : (e : Told) → IfOk (tell_make_order s e) (EventTaken make_machine s e)
  event_taken (birth p q t) = birth_taken p q t (parent_home s q) (parent_tells q)
  event_taken (make p) = make_taken p (found s p) (found_tells s.births p)
  event_taken (target p ks) = target_taken p ks (home_of s p) (home_tells p)
  event_taken (death p) = death_taken p (found s p) (found_tells s.births p)
  event_taken (post p f) = tt
  event_taken (await p f) = tt

  -- a timestamp, by where its process is at home
  stamp_taken : (o : Option ℕ) → IfSome o (ParentHome s) → IfOk (stamp_from s o) (λ r. StampGiven make_machine s r.0 r.1)
  stamp_taken None h = tt
  stamp_taken (Some h) parent =
      passing (λ (r : Timestamp × Build). StampGiven make_machine s r.0 r.1) ((s.number == last_number, UsedUp) ∷ []) _ (λ passed.
      let more = still_counted s.number sound.number passed.0 in
      record {
        advanced = advanced s (counted s) sound (counted_later s sound more);
        lives = λ x. refl;
        valid = counted_sound s sound more;
        newest = refl;
        known = known_from (counted s) (record { number = s.number + 1; place = stand s.places h }) (record {
          from_one = omega arith;
          given = omega arith;
          within = stand_within s sound h parent;
          stands = stand_is_stand s sound h parent;
        });
      })

-- at the last number the numbers are used up, if no check before that one refuses
birth_ended : (s : Build) (p t : ℕ) (o : Option ℕ) → s.number ≡ last_number → is_ok (birth_from s p t o) ≡ false
birth_ended s p t None e = refl
birth_ended s p t (Some h) e = refusing (birth_checks s p h t) _ 4 (eq-eqb s.number last_number e)

make_ended : (s : Build) (o : Option ℕ) → s.number ≡ last_number → is_ok (make_from s o) ≡ false
make_ended s None e = refl
make_ended s (Some i) e = refusing (make_checks s (birth_at s.births i).at) _ 3 (eq-eqb s.number last_number e)

target_ended : (s : Build) (ks : List ℕ) (o : Option ℕ) → s.number ≡ last_number → is_ok (target_from s ks o) ≡ false
target_ended s ks None e = refl
target_ended s ks (Some h) e = refusing (target_checks s h ks) _ 3 (eq-eqb s.number last_number e)

death_ended : (s : Build) (o : Option ℕ) → s.number ≡ last_number → is_ok (death_from s o) ≡ false
death_ended s None e = refl
death_ended s (Some i) e = refusing ((s.number == last_number, UsedUp) ∷ []) _ 0 (eq-eqb s.number last_number e)

event_ended : (s : Build) (e : Told) → s.number ≡ last_number → is_ok (tell_make_order s e) ≡ false
event_ended s (birth p q t) e = birth_ended s p t (parent_home s q) e
event_ended s (make p) e = make_ended s (found s p) e
event_ended s (target p ks) e = target_ended s ks (home_of s p) e
event_ended s (death p) e = death_ended s (found s p) e
event_ended s (post p f) e = refl
event_ended s (await p f) e = refl

stamp_refused : (s : Build) (o : Option ℕ) → result_err (stamp_from s (option_map (λ i. (birth_at s.births i).at) o)) ≡ cond (is_some o) (cond (s.number == last_number) (Some UsedUp) None) (Some NotLive)
stamp_refused s None = refl
stamp_refused s (Some i) = go (s.number == last_number)
  where
    go : (b : Bool) → result_err {T = Timestamp × Build} (refused_if b UsedUp (Ok (record { number = s.number + 1; place = stand s.places (birth_at s.births i).at }, counted s))) ≡ cond b (Some UsedUp) None
    go true = refl
    go false = refl

-- some birth is counted
pub counted_some : (f : Birth ℕ → Bool) (bs : List (Birth ℕ)) → 0 < count_by f bs → (i : ℕ) × (i < length bs) × (f (birth_at bs i) ≡ true)
counted_some f [] h = absurd (omega arith)
counted_some f (b ∷ bs) h =
    ⊎_elim
    (λ e. (0, omega arith, e))
    (λ e.
    let c = count_by_cons f b bs in
    let z : ◌≡◌ {A = ℕ} (cond (f b) 1 0) 0 = ap (λ t. cond t 1 0) e in
    let r = counted_some f bs (omega arith) in
    (suc r.0, let w = r.1 in omega arith, r.2))
    (cases_Bool (f b))

-- somebody lives exactly if the session's count is not 0
somebody_lives : (s : Build) → Sound s → Decides (nat_lt 0 (place_at s.places 0).live) ((p : ℕ) × (lives_in s p ≡ true))
somebody_lives s sound =
    let l = sound.births.live 0 sound.tree.some in
    let e = live_is s.places 0 in (
      λ yes.
          let some = ltb-true _ _ yes in
          let r = counted_some (counts_at (parents s.places) 0) s.births (omega arith) in
          let p = and_parts (birth_at s.births r.0).live _ r.2 in
          ((birth_at s.births r.0).process, (live_decides s.births _).1 (r.0, record { within = r.1; live = p.0; process = refl })),
      λ h.
          let f = (live_decides s.births h.0).0 h.1 in
          let c = lodger_counts (parents s.places) s.births 0 f.0 f.1.within f.1.live
          ((holds_decides (parents s.places) sound.tree.earlier 0 (birth_at s.births f.0).at).1 (root_holds (parents s.places) sound.tree.earlier _)) in
          lt-ltb 0 _ (omega arith),
    )

pub make_right : Right make_machine
make_right = record {
  lawful = make_lawful;
  taken = λ s e t v ok. IfOk-at_ok (EventTaken make_machine s e) ok (event_taken s v e);
  ended = λ s e v last. event_ended s e last;
  given = λ s p k t v ok. IfOk-at_ok (λ r. StampGiven make_machine s r.0 r.1) ok (stamp_taken s v (home_of s p) (home_tells s v p));
  refused = λ s p v. stamp_refused s (found s p);
  somebody = somebody_lives;
}
