-- Over a run, each accepted call keeps the state's tree, processes and targets those that the calls tell.
use Rattle.std.proofs.Common.{◌≡◌, ℕ, ◌+◌, ◌*◌, ◌/◌, ◌<◌, ◌≤◌, Bool, true, false, cond, not, eqb, ◌⊎◌, List, [], ◌∷◌, ◌++◌, map, length, get_or, Some, None, Option, sym, refl, ap, ◌∙◌, subst, inl, inr, ⊎_elim, arith}
use Rattle.std.proofs.lemmas.Nat.{div-mul-add, mul-add-lt}
use Rattle.std.proofs.lemmas.List.{length-map, length_push, get_or_push, get_or_past, get_or_append_left, get_or-set_same, get_or-set_other}
use Rattle.std.proofs.lemmas.Bool.{false≢true, eqb-false, eq-eqb, ne_eqb, or_parts, and_cases, not-false, cond-true, cond-false, cases_eq, cases_lt}
use Rattle.order.specs.Events.{birth, make, target, death}
use Rattle.order.specs.Right.{EventTaken}
use Rattle.order.specs.Runs.{Call, tell, stamp}
use Rattle.makes.specs.declared.places.Place.{Place}
use Rattle.makes.specs.Machine.{Build, lives_in, born_at, with_step, turned_make, declared, died, counted, slots_from, target_at}
use Rattle.makes.specs.Order.{make_machine}
use Rattle.makes.specs.Places.{make as a_make, make_sort, is_make, targets_of, kind_at, Shape, shapes, shape_at, parents_of, counts, stand, birth_at}
use Rattle.makes.specs.Runs.{next_place, place_in, make_in, is_place, the, targets_in, target_in}
use Rattle.makes.specs.Sound.{Sound}
use Rattle.makes.specs.Entries.{more_shapes, more_counts, stand_within, stand_is_stand}
use Rattle.makes.specs.Found.{Found, Nobody, live_decides}
use Rattle.makes.specs.Columns.{new_step, new_make, new_target, made_shapes, grown_shapes}
use Rattle.makes.specs.Deaths.{died_shapes, died_counts}
use Rattle.makes.specs.Later.{Later}
use Rattle.makes.specs.Lodgers.{birth_cases, set_cases}
use Rattle.makes.proofs.RunsEvents.{Parent, parent_home_is}
use Rattle.makes.proofs.RunsPlaces.{step_shapes, step_counts, make_counts, target_count_own, target_count_other, Standing, Follows, stand_shape, own_shape, standing_on, stands_no_make, size, found_stands, housed, housed_at, found_make, parent_make, parent_within, parent_place, target_told, more_sorts, more_parents, new_shape, newest_stand, newest_own, counted_more, slotted_on, declared_on}
use Rattle.makes.specs.Shapes.{shape_is, in_shapes, count_is, make_shape}

-- a birth leaves the other processes where they are
others_stay : (calls : List Call) (p q t x : ℕ) → (p ≡ x → ⊥) → (place_in (tell (birth p q t) ∷ calls) x ≡ place_in calls x) × (make_in (tell (birth p q t) ∷ calls) x ≡ make_in calls x)
others_stay calls p q t x ne = (cond-false (eqb p x) _ _ (ne_eqb p x ne), cond-false (eqb p x) _ _ (ne_eqb p x ne))

-- A process born where its parent stands.
module _ {calls : List Call} (s : Build) (f : Follows calls s) (sound : Sound s) (p q t h : ℕ) (none_named : eqb t 0 ≡ true) (parent : Parent s q h) (nobody : Nobody s.births p) where
  abbrev born_state : Build
  born_state = born_at s p s.places (stand s.places h)

  module _ (later : Later s (born_at s p s.places (stand s.places h))) (taken : EventTaken make_machine s (birth p q t) (born_at s p s.places (stand s.places h))) where
    own_stand : Standing (tell (birth p q t) ∷ calls) born_state.places p (stand s.places h)
    own_stand =
        let home = stand s.places h in
        let lodged = parent_home_is s sound parent in
        let within = stand_within s sound h lodged in
        let no_make = stands_no_make _ (stand_is_stand s sound h lodged) in
        let kept = ap (λ (y : Shape). make_sort y.sort) (later.shape home within ∙ shape_is s.places home) ∙ no_make in
        record {
          place =
              cond-true (eqb p p) _ _ (eq-eqb p p refl) ∙ cond-true (eqb t 0) _ _ none_named ∙ parent_place f sound parent
              ∙ ap Some (sym (stand_shape born_state.places home ∙ cond-false _ _ _ kept));
          own = cond-true (eqb p p) _ _ (eq-eqb p p refl) ∙ sym (own_shape born_state.places home ∙ cond-false _ _ _ kept);
        }

    pub born_follows : Follows (tell (birth p q t) ∷ calls) (born_at s p s.places (stand s.places h))
    born_follows =
        let after = tell (birth p q t) ∷ calls in
        let home = stand s.places h in
        let same_counts : (x : ℕ) → get_or (counts born_state.places) x 0 ≡ get_or (counts s.places) x 0 = λ x. ap (λ cs. get_or cs x 0) (more_counts s.places home) in
        record {
          counted = counted_more s born_state f later;
          sorts = ap (map (λ (z : Shape). z.sort)) (more_shapes s.places home) ∙ f.sorts ∙ sym (cond-true (eqb t 0) _ _ none_named);
          tree = ap parents_of (more_shapes s.places home) ∙ f.tree ∙ sym (cond-true (eqb t 0) _ _ none_named);
          living =
              birth_cases s.births (record { process = p; at = home; live = true }) (λ i y. y.live ≡ true → Standing after born_state.places y.process y.at)
              (λ i w l.
              let w' : Found s.births (birth_at s.births i).process i = record { within = w; live = l; process = refl } in
              let on = others_stay calls p q t (birth_at s.births i).process (λ e. nobody i (record { within = w; live = l; process = sym e })) in
              standing_on {s = s} {t = born_state} later (housed f sound w') on.0 on.1 (f.living i w l))
              (λ l. own_stand);
          nobody = λ x e.
              let both = or_parts (eqb p x) (lives_in s x) (sym (taken.lives x) ∙ e) in
              let was = f.nobody x both.1 in
              let on = others_stay calls p q t x (eqb-false p x both.0) in
              (on.0 ∙ was.0, on.1 ∙ was.1);
          declared = declared_on s born_state f later same_counts;
          slotted = slotted_on s born_state f later same_counts refl refl;
        }

-- A process born at a new step.
module _ {calls : List Call} (s : Build) (f : Follows calls s) (sound : Sound s) (p q t h : ℕ) (named : eqb t 0 ≡ false) (parent : Parent s q h) (makes : is_make (kind_at s.places h) ≡ true)
    (few : t ≤ targets_of (kind_at s.places h)) (nobody : Nobody s.births p) where
  abbrev step_state : Build
  step_state = born_at s p (with_step s h t) (length s.places)

  module _ (later : Later s (born_at s p (with_step s h t) (length s.places))) (taken : EventTaken make_machine s (birth p q t) (born_at s p (with_step s h t) (length s.places))) where
    pub step_parent : target_at s h t ≡ target_in calls (the (make_in calls q)) t
    step_parent =
        let ne = eqb-false t 0 named in
        target_told f sound h t (parent_within f sound parent) makes (omega arith) few ∙ ap (λ o. target_in calls (the o) t) (sym (parent_make f sound parent makes))

    pub step_follows : Follows (tell (birth p q t) ∷ calls) (born_at s p (with_step s h t) (length s.places))
    step_follows =
        let after = tell (birth p q t) ∷ calls in
        let home = length s.places in
        let on_shapes = step_shapes s p h t in
        let same_counts : (x : ℕ) → get_or (counts step_state.places) x 0 ≡ get_or (counts s.places) x 0 = step_counts s p h t in
        record {
          counted = counted_more s step_state f later;
          sorts = more_sorts s step_state f later (new_step s h t) on_shapes ∙ sym (cond-false (eqb t 0) _ _ named);
          tree = more_parents s step_state f later (new_step s h t) on_shapes _ step_parent ∙ sym (cond-false (eqb t 0) _ _ named);
          living =
              birth_cases s.births (record { process = p; at = home; live = true }) (λ i y. y.live ≡ true → Standing after step_state.places y.process y.at)
              (λ i w l.
              let w' : Found s.births (birth_at s.births i).process i = record { within = w; live = l; process = refl } in
              let on = others_stay calls p q t (birth_at s.births i).process (λ e. nobody i (record { within = w; live = l; process = sym e })) in
              standing_on {s = s} {t = step_state} later (housed f sound w') on.0 on.1 (f.living i w l))
              (λ l. record {
                place =
                    cond-true (eqb p p) _ _ (eq-eqb p p refl) ∙ cond-false (eqb t 0) _ _ named
                    ∙ ap Some (size f sound ∙ sym (newest_stand s step_state f later (new_step s h t) on_shapes refl));
                own = cond-true (eqb p p) _ _ (eq-eqb p p refl) ∙ sym (newest_own s step_state f later (new_step s h t) on_shapes refl);
              });
          nobody = λ x e.
              let both = or_parts (eqb p x) (lives_in s x) (sym (taken.lives x) ∙ e) in
              let was = f.nobody x both.1 in
              let on = others_stay calls p q t x (eqb-false p x both.0) in
              (on.0 ∙ was.0, on.1 ∙ was.1);
          declared = declared_on s step_state f later same_counts;
          slotted = slotted_on s step_state f later same_counts refl refl;
        }

-- A process that turns out to be a make.
module _ {calls : List Call} (s : Build) (f : Follows calls s) (sound : Sound s) (p i : ℕ) (own : Found s.births p i) (no_make : is_make (kind_at s.places (birth_at s.births i).at) ≡ false) where
  abbrev made_state : Build
  made_state = turned_make s i

  stood : place_in calls p ≡ Some (birth_at s.births i).at
  stood = (found_stands f sound own).place ∙ ap Some (cond-false (is_make (kind_at s.places (birth_at s.births i).at)) _ _ no_make)

  module _ (later : Later s (turned_make s i)) (taken : EventTaken make_machine s (make p) (turned_make s i)) where
    pub make_follows : Follows (tell (make p) ∷ calls) (turned_make s i)
    make_follows =
        let after = tell (make p) ∷ calls in
        let home = length s.places in
        let y = new_make s i in
        let on_shapes = made_shapes s i in
        let same_counts : (x : ℕ) → get_or (counts made_state.places) x 0 ≡ get_or (counts s.places) x 0 = make_counts s i in
        let is-new = ap (λ (z : Shape). make_sort z.sort) (new_shape s made_state y on_shapes) in
        record {
          counted = counted_more s made_state f later;
          sorts = more_sorts s made_state f later y on_shapes;
          tree = more_parents s made_state f later y on_shapes _ (ap the (sym stood));
          living =
              set_cases s.births i (record { process = (birth_at s.births i).process; at = home; live = (birth_at s.births i).live }) own.within (λ j z. z.live ≡ true → Standing after made_state.places z.process z.at)
              (λ j w ne l.
              let w' : Found s.births (birth_at s.births j).process j = record { within = w; live = l; process = refl } in
              let other : p ≡ (birth_at s.births j).process → ⊥ = λ e. ne (sound.births.only j i w own.within l own.live (sym e ∙ sym own.process)) in
              standing_on {s = s} {t = made_state} later (housed f sound w') refl (cond-false (eqb p (birth_at s.births j).process) _ _ (ne_eqb p _ other)) (f.living j w l))
              (λ l. record {
                place =
                    ap (place_in calls) own.process ∙ stood
                    ∙ ap Some (sym (stand_shape made_state.places home ∙ cond-true _ _ _ is-new ∙ ap (λ (z : Shape). z.parent) (new_shape s made_state y on_shapes)));
                own =
                    cond-true (eqb p (birth_at s.births i).process) _ _ (eq-eqb p _ (sym own.process))
                    ∙ ap Some (size f sound) ∙ sym (own_shape made_state.places home ∙ cond-true _ _ _ is-new);
              });
          nobody = λ x e.
              let was = f.nobody x (sym (taken.lives x) ∙ e) in
              let other : p ≡ x → ⊥ = λ is. false≢true (sym (sym (taken.lives x) ∙ e) ∙ (live_decides s.births x).1 (i, subst (λ z. Found s.births z i) is own)) in
              (was.0, cond-false (eqb p x) _ _ (ne_eqb p x other) ∙ was.1);
          declared = declared_on s made_state f later same_counts;
          slotted = slotted_on s made_state f later same_counts refl refl;
        }

-- A death.
module _ {calls : List Call} (s : Build) (f : Follows calls s) (sound : Sound s) (p i : ℕ) (own : Found s.births p i) where
  abbrev dead_state : Build
  dead_state = died s i

  gone : (b : Bool) (o : Option ℕ) → (b ≡ true) ⊎ (o ≡ None) → cond b None o ≡ None
  gone true o h = refl
  gone false o (inl h) = absurd (false≢true h)
  gone false o (inr h) = h

  module _ (later : Later s (died s i)) (taken : EventTaken make_machine s (death p) (died s i)) where
    pub death_follows : Follows (tell (death p) ∷ calls) (died s i)
    death_follows =
        let after = tell (death p) ∷ calls in
        let same_counts : (x : ℕ) → get_or (counts dead_state.places) x 0 ≡ get_or (counts s.places) x 0 = λ x. ap (λ cs. get_or cs x 0) (died_counts s i) in
        record {
          counted = counted_more s dead_state f later;
          sorts = ap (map (λ (z : Shape). z.sort)) (died_shapes s i) ∙ f.sorts;
          tree = ap parents_of (died_shapes s i) ∙ f.tree;
          living =
              set_cases s.births i (record { process = (birth_at s.births i).process; at = (birth_at s.births i).at; live = false }) own.within (λ j z. z.live ≡ true → Standing after dead_state.places z.process z.at)
              (λ j w ne l.
              let w' : Found s.births (birth_at s.births j).process j = record { within = w; live = l; process = refl } in
              let other : p ≡ (birth_at s.births j).process → ⊥ = λ e. ne (sound.births.only j i w own.within l own.live (sym e ∙ sym own.process)) in
              let off = ne_eqb p (birth_at s.births j).process other in
              standing_on {s = s} {t = dead_state} later (housed f sound w') (cond-false _ _ _ off) (cond-false _ _ _ off) (f.living j w l))
              (λ l. absurd (false≢true l));
          nobody = λ x e.
              ⊎_elim
              (λ here. (gone (eqb p x) _ (inl (not-false (eqb p x) here)), gone (eqb p x) _ (inl (not-false (eqb p x) here))))
              (λ away. let was = f.nobody x away in (gone (eqb p x) _ (inr was.0), gone (eqb p x) _ (inr was.1)))
              (and_cases (not (eqb p x)) (lives_in s x) (sym (taken.lives x) ∙ e));
          declared = declared_on s dead_state f later same_counts;
          slotted = slotted_on s dead_state f later same_counts refl refl;
        }

-- A timestamp.
pub stamp_follows : {calls : List Call} (s : Build) (p : ℕ) → Follows calls s → Later s (counted s) → Follows (stamp p ∷ calls) (counted s)
stamp_follows s p f later = record {
  counted = counted_more s (counted s) f later;
  sorts = f.sorts;
  tree = f.tree;
  living = λ i w l. let st = f.living i w l in record { place = st.place; own = st.own };
  nobody = f.nobody;
  declared = f.declared;
  slotted = f.slotted;
}

-- A new target of the make h.
module _ {calls : List Call} (s : Build) (f : Follows calls s) (sound : Sound s) (p i h : ℕ) (ks : List ℕ) (own : Found s.births p i) (at : (birth_at s.births i).at ≡ h)
    (makes : is_make (kind_at s.places h) ≡ true) (room : length s.rows < s.room.targets) where
  abbrev grown_state : Build
  grown_state = declared s h ks

  -- the targets of the make h, and of the others
  own_targets : targets_in (tell (target p ks) ∷ calls) h ≡ targets_in calls h ++ next_place calls ∷ []
  own_targets = cond-true _ _ _ (ap (λ o. is_place o h) (found_make f sound own at makes) ∙ eq-eqb h h refl)

  other_targets : (m : ℕ) → (m ≡ h → ⊥) → targets_in (tell (target p ks) ∷ calls) m ≡ targets_in calls m
  other_targets m ne = cond-false _ _ _ (ap (λ o. is_place o m) (found_make f sound own at makes) ∙ ne_eqb h m (λ e. ne (sym e)))

  -- where the new target is put, and where the others are
  abbrev slot : ℕ
  slot = slots_from s h + targets_of (kind_at s.places h)

  slot_is : slot ≡ (shape_at (shapes s.places) h).ordinal * s.room.targets + get_or (counts s.places) h 0
  slot_is =
      ap (λ o. o * s.room.targets + targets_of (kind_at s.places h)) (sym (ap (λ (y : Shape). y.ordinal) (shape_is s.places h)))
      ∙ ap (λ c. (shape_at (shapes s.places) h).ordinal * s.room.targets + c) (sym (count_is s.places h))

  slot_within : slot < length s.slots
  slot_within =
      let o = sound.slots.ordinal h (in_shapes s.places (housed_at f sound own at)) (make_shape s.places h makes) in
      let c = sound.slots.few h in
      let mk = sound.room.makes in
      let len = sound.room.slots in
      let e = slot_is in
      let lt = mul-add-lt (shape_at (shapes s.places) h).ordinal s.room.targets (get_or (counts s.places) h 0) s.room.makes (omega arith) (omega arith) in
      omega arith

  -- a slot of another make, or an earlier one of this make, is another slot
  slot_other : (m k : ℕ) → m < length s.places → (shape_at (shapes s.places) m).sort ≡ a_make → k < get_or (counts s.places) m 0
      → (shape_at (shapes s.places) m).ordinal * s.room.targets + k ≡ slot → ⊥
  slot_other m k w makes-m low e =
      let few-m = sound.slots.few m in
      let few-h = sound.slots.few h in
      let same = e ∙ slot_is in
      let o = sym (div-mul-add (shape_at (shapes s.places) m).ordinal s.room.targets k (omega arith)) ∙ ap (λ n. n / s.room.targets) same
      ∙ div-mul-add (shape_at (shapes s.places) h).ordinal s.room.targets (get_or (counts s.places) h 0) (omega arith) in
      let m-is = sound.slots.apart m h (in_shapes s.places w) (in_shapes s.places (housed_at f sound own at)) makes-m (make_shape s.places h makes) o in
      let c = ap (λ x. get_or (counts s.places) x 0) m-is in
      let d = ap (λ n. n * s.room.targets) o in
      omega (arith, same, d, c, low)

  kept_slot : (m k : ℕ) → m < length s.places → (shape_at (shapes s.places) m).sort ≡ a_make → k < get_or (counts s.places) m 0
      → get_or grown_state.slots ((shape_at (shapes s.places) m).ordinal * s.room.targets + k) 0 ≡ get_or (targets_in calls m) k 0
  kept_slot m k w makes-m low =
      get_or-set_other s.slots slot ((shape_at (shapes s.places) m).ordinal * s.room.targets + k) (length s.places) 0 (slot_other m k w makes-m low) ∙ f.slotted m k w makes-m low

  module _ (later : Later s (declared s h ks)) (taken : EventTaken make_machine s (target p ks) (declared s h ks)) where
    -- a slot after the declaration, by the shapes before it
    Slotted : ℕ → ℕ → Type 0
    Slotted m k = get_or grown_state.slots ((shape_at (shapes grown_state.places) m).ordinal * s.room.targets + k) 0 ≡ get_or (targets_in (tell (target p ks) ∷ calls) m) k 0

    slotted_as : (m k : ℕ) → m < length s.places → get_or grown_state.slots ((shape_at (shapes s.places) m).ordinal * s.room.targets + k) 0 ≡ get_or (targets_in (tell (target p ks) ∷ calls) m) k 0 → Slotted m k
    unfolding Slotted
    slotted_as m k w e = ap (λ (y : Shape). get_or grown_state.slots (y.ordinal * s.room.targets + k) 0) (later.shape m w) ∙ e

    own_slotted : (k : ℕ) → k < get_or (counts s.places) h 0 + 1 → Slotted h k
    own_slotted k low =
        let c = f.declared h in
        ⊎_elim
        (λ last.
        slotted_as h k (housed_at f sound own at)
        (ap (λ n. get_or grown_state.slots n 0) (ap (λ n. (shape_at (shapes s.places) h).ordinal * s.room.targets + n) last ∙ sym slot_is)
        ∙ get_or-set_same s.slots slot (length s.places) 0 slot_within ∙ sym (size f sound)
        ∙ sym (ap (λ xs. get_or xs k 0) own_targets ∙ get_or_push (targets_in calls h) (next_place calls) 0 k (c ∙ sym last))))
        (λ before.
        slotted_as h k (housed_at f sound own at)
        (kept_slot h k (housed_at f sound own at) (make_shape s.places h makes) (omega arith) ∙ sym (ap (λ xs. get_or xs k 0) own_targets ∙ get_or_append_left (targets_in calls h) (next_place calls ∷ []) 0 k (omega arith))))
        (cases_eq k (get_or (counts s.places) h 0))

    other_slotted : (m k : ℕ) → (m ≡ h → ⊥) → (shape_at (shapes grown_state.places) m).sort ≡ a_make → k < get_or (counts s.places) m 0 → Slotted m k
    other_slotted m k ne makes-m low =
        let l = length-map s.places (λ (y : Place). targets_of y.kind) in
        let w : m < length s.places = ⊎_elim (λ w. w) (λ past. let z = get_or_past (counts s.places) m 0 (omega arith) in absurd (omega arith)) (cases_lt m (length s.places)) in
        slotted_as m k w (kept_slot m k w (sym (ap (λ (y : Shape). y.sort) (later.shape m w)) ∙ makes-m) low ∙ sym (ap (λ xs. get_or xs k 0) (other_targets m ne)))

    pub target_follows : Follows (tell (target p ks) ∷ calls) (declared s h ks)
    unfolding Slotted
    target_follows =
        let y = new_target s h in
        let on_shapes = grown_shapes s h ks in
        let up-own = target_count_own s h ks (housed_at f sound own at) makes in
        let up-other = target_count_other s h ks (housed_at f sound own at) makes in
        record {
          counted = counted_more s grown_state f later;
          sorts = more_sorts s grown_state f later y on_shapes;
          tree = more_parents s grown_state f later y on_shapes _ (ap the (sym (found_make f sound own at makes)));
          living = λ j w l.
              let w' : Found s.births (birth_at s.births j).process j = record { within = w; live = l; process = refl } in
              standing_on {s = s} {t = grown_state} later (housed f sound w') refl refl (f.living j w l);
          nobody = f.nobody;
          declared = λ m.
              ⊎_elim
              (λ e.
              ap (λ x. length (targets_in (tell (target p ks) ∷ calls) x)) e ∙ ap length own_targets ∙ length_push (targets_in calls h) (next_place calls) ∙ ap (λ n. n + 1) (f.declared h)
              ∙ sym up-own ∙ ap (λ x. get_or (counts grown_state.places) x 0) (sym e))
              (λ ne. ap length (other_targets m ne) ∙ f.declared m ∙ sym (up-other m ne))
              (cases_eq m h);
          slotted = λ m k w makes-m low.
              ⊎_elim
              (λ e. subst (λ x. Slotted x k) (sym e) (own_slotted k (subst (λ n. k < n) up-own (subst (λ x. k < get_or (counts grown_state.places) x 0) e low))))
              (λ ne. other_slotted m k ne makes-m (subst (λ n. k < n) (up-other m ne) low))
              (cases_eq m h);
        }
