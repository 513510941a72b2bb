-- What the calls of the make order ask, from what a state keeps: places within the tables, and room.
use Rattle.std.proofs.Common.{◌≡◌, ℕ, zero, suc, ◌+◌, ◌-◌, ◌*◌, ◌^◌, ◌<◌, ◌≤◌, Bool, true, false, cond, ◌&&◌, leb, List, [], ◌∷◌, length, get_or, set, Some, Vec, sym, refl, ap, ◌∙◌, subst, inl, inr, ⊎_elim, arith, MatchOption}
use Rattle.std.proofs.lemmas.Nat.{mul-add-lt, mul-le}
use Rattle.std.proofs.lemmas.List.{length-map, length_push, get_or_past, get_or_read, with_items_is}
use Rattle.std.proofs.lemmas.List.Sums.{count_by-le-length}
use Rattle.std.proofs.lemmas.Bool.{cases_order, false≢true, and_parts, leb-true}
use Rattle.std.specs.Vec.{with_items}
use Rattle.order.specs.declared.Timestamp.{Timestamp}
use Rattle.births.specs.declared.Birth.{Birth}
use Rattle.makes.specs.declared.climb.Meeting.{Meeting}
use Rattle.makes.specs.declared.places.Kind.{Kind}
use Rattle.makes.specs.declared.places.Kind.TheVariants.{Session, Make, Target, Step}
use Rattle.makes.specs.declared.places.Place.{Place}
use Rattle.makes.specs.Machine.{Build, found, known_in, target_at, settled, slots_from, turned, ended, listed, rows_of, HasTarget}
use Rattle.makes.specs.Places.{target_sort, is_make, is_target, ordinal_of, targets_of, row_of, one_more, one_less, no_place, place_at, kind_at, Shape, shape, shapes, shape_at, parents_of, parents, stand, changed, make_added, no_birth, birth_at, all_declared}
use Rattle.makes.specs.Rows.{joined_row}
use Rattle.makes.specs.Sound.{Sound, SoundTree, TargetOf, counts_at, makes_above}
use Rattle.makes.specs.Tree.{Earlier, Holds, Side, Meets, line, levels, holds}
use Rattle.makes.specs.Entries.{live_more, more_shapes}
use Rattle.makes.specs.Deaths.{some_there}
use Rattle.makes.specs.Found.{Found, Nobody, found_tells}
use Rattle.makes.specs.Judging.{sort_is, row_is, Judgeable, side_row, side_kind}
use Rattle.makes.specs.Lawful.{known_parts}
use Rattle.makes.specs.Lodgers.{birth_new}
use Rattle.makes.specs.Shapes.{shape_is, in_shapes, count_is, length_changed, make_shape, above_make, levels_few}
use Rattle.makes.specs.TreeLemmas.{holds_decides, holds_le}
use Rattle.makes.specs.Views.{live_is, walked_at}
use Rattle.makes.specs.Walks.{up_at}

-- no place counts more live processes than there are births
pub live_few : (s : Build) → Sound s → (x : ℕ) → (place_at s.places x).live ≤ 4096
live_few s sound x =
    let size = length-map s.places shape in
    ⊎_elim (λ e. past (omega arith)) (⊎_elim (λ lt. inside (omega arith)) (λ gt. past (omega arith))) (cases_order x (length s.places))
  where
    past : length s.places ≤ x → (place_at s.places x).live ≤ 4096
    past h = let e = ap (λ (p : Place). p.live) (get_or_past s.places x no_place h) in omega arith

    inside : x < length (shapes s.places) → (place_at s.places x).live ≤ 4096
    inside h =
        let l = sound.births.live x h in
        let e = live_is s.places x in
        let few = count_by-le-length (counts_at (parents s.places) x) s.births in
        let a = sound.room.births in
        let b = sound.room.most_births in
        omega arith

-- What a birth at x asks, from what is kept after it.
pub record Enterable (ps : List Place) (x : ℕ) : Type 0 where
  pub within : x < length ps
  pub few : (y : ℕ) → (place_at ps y).live ≤ 4096

pub enterable : (n : ℕ) (s : Build) (p x : ℕ) (ps : List Place) → Sound (settled n s p ps x) → Enterable ps x
enterable n s p x ps sound =
    let b : Birth ℕ = record { process = p; at = x; live = true } in
    let same = more_shapes ps x in
    let earlier : Earlier (parents ps) = subst (λ (ts : List Shape). Earlier (parents_of ts)) same sound.tree.earlier in
    let long = length_push s.births b in
    let size = length-map (changed one_more ps (line (parents ps) x)) shape in
    let kept = length_changed one_more ps (line (parents ps) x) in
    let home = ap (λ (y : Birth ℕ). y.at) (birth_new s.births b) in
    let housed = sound.births.housed (length s.births) (omega arith) in
    let inside : x < length ps = omega arith in
    record {
      within = inside;
      few = λ y.
          let after = live_few (settled n s p ps x) sound y in
          let at = ap (λ (z : Place). z.live) (walked_at (parents ps) earlier one_more y x ps inside) ∙ live_more (holds (parents ps) y x) (place_at ps y) in
          less (holds (parents ps) y x) (place_at ps y).live (subst (λ n. n ≤ 4096) at after);
    }
  where
    less : (b : Bool) (n : ℕ) → cond b (n + 1) n ≤ 4096 → n ≤ 4096
    less true n h = omega arith
    less false n h = h

-- What a death asks.
pub record Leavable (ps : List Place) (home : ℕ) : Type 0 where
  pub within : home < length ps
  pub some : (x : ℕ) → Holds (parents ps) x home → 0 < (place_at ps x).live

pub leavable : (s : Build) → Sound s → (i : ℕ) → i < length s.births → (birth_at s.births i).live ≡ true → Leavable s.places (birth_at s.births i).at
leavable s sound i h alive =
    let w : (birth_at s.births i).at < length s.places = let a = sound.births.housed i h in let b = length-map s.places shape in omega arith in
    record {
      within = w;
      some = λ x held.
          let le = holds_le (parents s.places) sound.tree.earlier held in
          let size = length-map s.places shape in
          some_there s sound i h alive x (omega arith) ((holds_decides (parents s.places) sound.tree.earlier x (birth_at s.births i).at).1 held);
    }

-- A make stands within the table, and only a make has targets.
pub make_within : (ps : List Place) (x : ℕ) → is_make (kind_at ps x) ≡ true → x < length ps
make_within ps x made = ⊎_elim (λ is. past (omega arith)) (⊎_elim (λ lt. lt) (λ gt. past (omega arith))) (cases_order x (length ps))
  where
    past : length ps ≤ x → x < length ps
    past h = absurd (false≢true (ap (λ (p : Place). is_make p.kind) (sym (get_or_past ps x no_place h)) ∙ made))

pub targets_make : (k : Kind) → 0 < targets_of k → is_make k ≡ true
targets_make Session h = absurd (omega arith)
targets_make (Make m) h = refl
targets_make (Target row) h = absurd (omega arith)
targets_make (Step start end) h = absurd (omega arith)

pub declared_at : (n : ℕ) (ks : List ℕ) → all_declared n ks ≡ true → (j : ℕ) → j < length ks → (1 ≤ get_or ks j 0) × (get_or ks j 0 ≤ n)
declared_at n [] e j low = absurd (omega arith)
declared_at n (k ∷ ks) e zero low =
    let p = and_parts (leb 1 k && leb k n) _ e in
    let q = and_parts (leb 1 k) _ p.0 in
    (leb-true _ _ q.0, leb-true _ _ q.1)
declared_at n (k ∷ ks) e (suc j) low = declared_at n ks (and_parts (leb 1 k && leb k n) _ e).1 j (omega arith)

-- The slots of a make's targets.
module _ (s : Build) (sound : Sound s) (m : ℕ) (made : is_make (kind_at s.places m) ≡ true) where
  ordinal_is : (shape_at (shapes s.places) m).ordinal ≡ ordinal_of (kind_at s.places m)
  ordinal_is = ap (λ (y : Shape). y.ordinal) (shape_is s.places m)

  ordinal_low : ordinal_of (kind_at s.places m) < s.makes
  ordinal_low = let o = sound.slots.ordinal m (in_shapes s.places (make_within s.places m made)) (make_shape s.places m made) in let i = ordinal_is in omega arith

  pub first_few : slots_from s m ≤ 32768
  first_few =
      let o = ordinal_low in
      let a = sound.room.makes in
      let b = sound.room.most_makes in
      let t = sound.room.most_targets in
      mul-le (ordinal_of (kind_at s.places m)) s.room.targets 64 512 (omega arith) t

  pub targets_few : targets_of (kind_at s.places m) ≤ length s.rows
  targets_few = let f = sound.slots.few m in let e = count_is s.places m in omega arith

  -- each target of the make has a slot, and so has the next one while there is room
  pub slot_within : (k : ℕ) → k < s.room.targets → slots_from s m + k < length s.slots
  slot_within k h =
      let o = ordinal_low in
      let a = sound.room.makes in
      let l = sound.room.slots in
      let at = mul-add-lt (ordinal_of (kind_at s.places m)) s.room.targets k s.room.makes (omega arith) h in
      omega arith

-- What is known of a declared target: its slot, its place, and its row.
pub record Ready (s : Build) (m k : ℕ) : Type 0 where
  pub made : is_make (kind_at s.places m) ≡ true
  pub slot : slots_from s m + (k - 1) < length s.slots
  pub sort : is_target (kind_at s.places (target_at s m k)) ≡ true
  pub row : row_of (kind_at s.places (target_at s m k)) < length s.rows
  pub few : length s.rows ≤ 512

pub ready : (s : Build) → Sound s → (m k : ℕ) → HasTarget s m k → Ready s m k
ready s sound m k has =
    let low = has.0 in
    let high = has.1 in
    let made = targets_make (kind_at s.places m) (omega arith) in
    let c = count_is s.places m in
    let f = targets_few s sound m made in
    let t = subst (λ o. TargetOf (shapes s.places) m (get_or s.slots (o * s.room.targets + (k - 1)) 0)) (ordinal_is s sound m made)
    (sound.slots.slotted m (k - 1) (in_shapes s.places (make_within s.places m made)) (make_shape s.places m made) (omega arith)) in
    let r = sound.slots.row (target_at s m k) t.within t.sort in
    let same = row_is s sound (target_at s m k) in
    let rows = sound.room.targets in
    let most = sound.room.most_targets in
    record { made = made; slot = slot_within s sound m made (k - 1) (omega arith); sort = ap target_sort (sym (sort_is s sound _) ∙ t.sort); row = omega arith; few = omega arith }

-- A table that was lent and walked through.
pub walked_is : {Z : Type 0} (f : Place → Place) (v : Vec Place Z) (x : ℕ) {ps lent back : List Place} → length lent ≡ v.len → lent ≡ ps → back ≡ changed f lent (line (parents lent) x)
    → (with_items v back).items ≡ changed f ps (line (parents ps) x)
walked_is f v x {ps} {lent} {back} size is walked =
    let long = ap length walked ∙ length_changed f lent (line (parents lent) x) in
    with_items_is v back (long ∙ size) ∙ walked ∙ ap (λ qs. changed f qs (line (parents qs) x)) is

-- and so was the room that a target leaves behind
pub rows_left : (n : ℕ) (s : Build) (m : ℕ) (ks : List ℕ) → Sound (listed n s m ks) → length s.rows < s.room.targets
rows_left n s m ks sound =
    let long = length_push s.rows (joined_row s.rows (rows_of s m ks)) in
    let room = sound.room.targets in
    omega arith

pub depth_few : (ps : List Place) → SoundTree (shapes ps) → (x : ℕ) → x < length ps → (place_at ps x).depth ≤ 16
depth_few ps tree x h =
    let n = length-map ps shape in
    let d = tree.shallow x (omega arith) in
    let e = ap (λ (y : Shape). y.depth) (shape_is ps x) in
    omega arith

-- a birth of a live process is in the table
pub live_within : (bs : List (Birth ℕ)) (i : ℕ) → (birth_at bs i).live ≡ true → i < length bs
live_within [] i e = absurd (false≢true e)
live_within (b ∷ bs) zero e = omega arith
live_within (b ∷ bs) (suc i) e = let w = live_within bs i e in omega arith

-- The state after a make, and after a death, by its tables: b is the birth that was changed.
module _ (n : ℕ) (s : Build) (i home : ℕ) (b : Birth ℕ) (live : (birth_at s.births i).live ≡ true) (home-is : home ≡ (birth_at s.births i).at) (read : b ≡ get_or s.births i b) where
  birth_is : b ≡ birth_at s.births i
  birth_is = get_or_read s.births i b (live_within s.births i live) read no_birth

  pub died_is : {qs : List Place} → qs ≡ changed (one_less n) s.places (line (parents s.places) home)
      → record {
        number = n;
        room = s.room;
        births = set s.births i (record { process = b.process; at = b.at; live = false });
        places = qs;
        makes = s.makes;
        slots = s.slots;
        rows = s.rows;
      } ≡ ended n s i
  died_is walked = λ j. record {
    number = n;
    room = s.room;
    births = set s.births i (record { process = (birth_is j).process; at = (birth_is j).at; live = false });
    places = (walked ∙ ap (λ x. changed (one_less n) s.places (line (parents s.places) x)) home-is) j;
    makes = s.makes;
    slots = s.slots;
    rows = s.rows;
  }

  pub turned_is : (at : ℕ) {qs : List Place} → at ≡ length s.places → qs ≡ make_added s.places home s.makes
      → record {
        number = n;
        room = s.room;
        births = set s.births i (record { process = b.process; at = at; live = b.live });
        places = qs;
        makes = s.makes + 1;
        slots = s.slots;
        rows = s.rows;
      } ≡ turned n s i
  turned_is at at-is added = λ j. record {
    number = n;
    room = s.room;
    births = set s.births i (record { process = (birth_is j).process; at = at-is j; live = (birth_is j).live });
    places = (added ∙ ap (λ x. make_added s.places x s.makes) home-is) j;
    makes = s.makes + 1;
    slots = s.slots;
    rows = s.rows;
  }

module _ (s : Build) (sound : Sound s) where
  level_few : (x : ℕ) → x < length s.places → levels (parents s.places) x ≤ 48
  level_few x h = let n = length-map s.places shape in levels_few (shapes s.places) sound.tree x (omega arith)

  -- a side is not below what it is the side of
  side_low : (c l x : ℕ) → Holds (parents s.places) c x → Side (parents s.places) c l x → l ≤ x
  side_low c l x held (inl e) = let le = holds_le (parents s.places) sound.tree.earlier held in let is = e.0 in omega arith
  side_low c l x held (inr b) = holds_le (parents s.places) sound.tree.earlier b.holds

  pub judgeable : (a b : Timestamp) (m : Meeting) → known_in s a ≡ true → known_in s b ≡ true → Meets (parents s.places) a.place b.place m → Judgeable s m
  judgeable a b m ka kb meets =
      let p = known_parts s a ka in
      let q = known_parts s b kb in
      let x = p.within in
      let y = q.within in
      let top = holds_le (parents s.places) sound.tree.earlier meets.lowest.first in
      let l = side_low m.place m.left a.place meets.lowest.first meets.left in
      let r = side_low m.place m.right b.place meets.lowest.second meets.right in
      record {
        left = omega arith;
        right = omega arith;
        left_kind = side_kind s sound m.place m.left a.place (omega arith) p.stands meets.left;
        right_kind = side_kind s sound m.place m.right b.place (omega arith) q.stands meets.right;
        left_row = λ e. side_row s sound m.place m.left a.place e p.within p.stands meets.left;
        right_row = λ e. side_row s sound m.place m.right b.place e q.within q.stands meets.right;
      }

  -- a place's number is small
  pub stand_few : (h : ℕ) → h < length s.places → stand s.places h < 2 ^ 32
  stand_few h inside =
      let low = stand_low in
      let p = sound.room.places in
      let b = sound.room.births in
      let mb = sound.room.most_births in
      let k = sound.room.makes in
      let mk = sound.room.most_makes in
      let t = sound.room.targets in
      let mt = sound.room.most_targets in
      omega arith
    where
      go : (b : Bool) → is_make (kind_at s.places h) ≡ b → cond b (place_at s.places h).parent h ≤ h
      go true e =
          let n = length-map s.places shape in
          let a = above_make (shapes s.places) sound.tree h (omega arith) (make_shape s.places h e) in
          let less = a.1 in
          let is = up_at s.places h in
          omega arith
      go false e = omega arith

      stand_low : stand s.places h ≤ h
      stand_low = go (is_make (kind_at s.places h)) refl

pub found_live : (s : Build) (p i : ℕ) → found s p ≡ Some i → Found s.births p i
found_live s p i at = subst (λ o. MatchOption o (Nobody s.births p) (λ j. Found s.births p j)) at (found_tells s.births p)

-- at most 16 makes hold a place, and it is at most 48 levels below the session
pub depth_limits : (s : Build) → Sound s → (x : ℕ) → x < length s.places → (makes_above (shapes s.places) x ≤ 16) × (levels (parents s.places) x ≤ 48)
depth_limits s sound x h =
    let n = length-map s.places shape in
    let deep = sound.tree.deep x (omega arith) in
    let shallow = sound.tree.shallow x (omega arith) in
    (omega arith, level_few s sound x h)
