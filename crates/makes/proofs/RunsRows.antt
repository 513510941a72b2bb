-- Over a run, the rows of prerequisites are those that the calls tell.
use Rattle.std.proofs.Common.{◌≡◌, ℕ, zero, suc, ◌+◌, ◌-◌, ◌*◌, ◌<◌, ◌≤◌, true, ◌||◌, eqb, ◌⊎◌, List, [], ◌∷◌, ◌++◌, map, length, get_or, sym, refl, ap, ◌∙◌, subst, inl, inr, ⊎_elim, arith}
use Rattle.std.proofs.lemmas.Option.{same_Some}
use Rattle.std.proofs.lemmas.List.{length-map, length_push}
use Rattle.std.proofs.lemmas.Bool.{false≢true, eqb-true, eq-eqb, or_cases, or_left, or_right, cases_order}
use Rattle.std.specs.List.{AllByRecursion}
use Rattle.order.specs.Events.{birth, make, target, death, post, await}
use Rattle.order.specs.Runs.{Call, tell, stamp}
use Rattle.makes.specs.declared.places.Place.{Place}
use Rattle.makes.specs.Machine.{Build, born_at, with_step, turned_make, declared, died, counted, slots_from, target_at, rows_of}
use Rattle.makes.specs.Places.{target as a_target, is_make, targets_of, kind_at, Shape, shape, shapes, shape_at, stand, birth_at, all_declared, row_in}
use Rattle.makes.specs.Rows.{needs, joined_row}
use Rattle.makes.specs.Runs.{target_in, Names, named_now, named_before, Prerequisite, directly, through}
use Rattle.makes.specs.Sound.{Sound, TargetOf}
use Rattle.makes.specs.Entries.{more_shapes}
use Rattle.makes.specs.Found.{Found}
use Rattle.makes.specs.Joins.{reaches, needs_old, needs_new}
use Rattle.makes.specs.Columns.{new_step, new_make, new_target, made_shapes, grown_shapes}
use Rattle.makes.specs.Deaths.{died_shapes}
use Rattle.makes.specs.Later.{Later}
use Rattle.makes.proofs.Asked.{declared_at}
use Rattle.makes.proofs.RunsPlaces.{Follows, same_size, more_size, new_shape, size, housed_at, found_make, target_told, step_shapes}
use Rattle.makes.specs.Shapes.{shape_is, count_is, make_shape, make_target, step_target}

-- x is the place of a target
pub record TargetPlace (s : Build) (x : ℕ) : Type 0 where
  pub within : x < length s.places
  pub sort : (shape_at (shapes s.places) x).sort ≡ a_target

abbrev pub row_at : Build → ℕ → ℕ
row_at s x = (shape_at (shapes s.places) x).row

-- x needs y, by their rows
pub record Needing (s : Build) (x y : ℕ) : Type 0 where
  pub first : TargetPlace s x
  pub second : TargetPlace s y
  pub needed : needs s.rows (row_at s x) (row_at s y) ≡ true

pub record Rowed (calls : List Call) (s : Build) : Type 0 where
  pub apart : (x y : ℕ) → TargetPlace s x → TargetPlace s y → row_at s x ≡ row_at s y → x ≡ y
  pub named : (x y : ℕ) → Names x y calls → Needing s x y
  pub told : (x y : ℕ) → Needing s x y → Prerequisite calls y x

-- prerequisites stay
pub still_needed : {calls : List Call} {c : Call} {y x : ℕ} → Prerequisite calls y x → Prerequisite (c ∷ calls) y x
still_needed (directly n) = directly (named_before n)
still_needed (through n rest) = through (named_before n) (still_needed rest)

-- the rows of targets
module _ (s : Build) (sound : Sound s) where
  few : length s.rows ≤ 512
  few = let a = sound.room.targets in let b = sound.room.most_targets in omega arith

  row_under : (x : ℕ) → TargetPlace s x → row_at s x < length s.rows
  row_under x t = let z = length-map s.places shape in let w = t.within in sound.slots.row x (omega arith) t.sort

  row_few : (x : ℕ) → TargetPlace s x → row_at s x < 512
  row_few x t = let a = row_under x t in let b = few in omega arith

  -- directly or through others
  pub prerequisite_rows : {calls : List Call} → Rowed calls s → (y x : ℕ) → Prerequisite calls y x → Needing s x y
  prerequisite_rows rowed y x (directly n) = rowed.named x y n
  prerequisite_rows rowed y x (through {z = z} n rest) =
      let a = rowed.named x z n in
      let b = prerequisite_rows rowed y z rest in
      record {
        first = a.first;
        second = b.second;
        needed = sound.rows.chained (row_at s x) (row_at s z) (row_at s y) (row_under x a.first) (row_few z b.first) (row_few y b.second) a.needed b.needed;
      }

-- a target of before is one after
target_later : (s t : Build) → Later s t → (x : ℕ) → TargetPlace s x → TargetPlace t x
target_later s t later x h = record {
  within = let w = h.within in let l = later.longer in omega arith;
  sort = ap (λ (y : Shape). y.sort) (later.shape x h.within) ∙ h.sort;
}

target_before : (s t : Build) → Later s t → (x : ℕ) → x < length s.places → TargetPlace t x → TargetPlace s x
target_before s t later x w h = record { within = w; sort = sym (ap (λ (y : Shape). y.sort) (later.shape x w)) ∙ h.sort }

row_later : (s t : Build) → Later s t → (x : ℕ) → x < length s.places → row_at t x ≡ row_at s x
row_later s t later x w = ap (λ (y : Shape). y.row) (later.shape x w)

-- all calls but a declaration
abbrev Undeclaring : Call → Type 0
Undeclaring (tell (birth p q t)) = Unit {0}
Undeclaring (tell (make p)) = Unit {0}
Undeclaring (tell (target p ks)) = ⊥
Undeclaring (tell (death p)) = Unit {0}
Undeclaring (tell (post p f)) = Unit {0}
Undeclaring (tell (await p f)) = Unit {0}
Undeclaring (stamp p) = Unit {0}

names_before : {calls : List Call} {c : Call} {x y : ℕ} → Undeclaring c → Names x y (c ∷ calls) → Names x y calls
names_before h (named_now e low xe ye) = absurd h
names_before h (named_before n) = n

-- A call that declares nothing.
module _ {calls : List Call} (c : Call) (s t : Build) (rowed : Rowed calls s) (later : Later s t) (same_rows : t.rows ≡ s.rows) (old : (x : ℕ) → TargetPlace t x → x < length s.places)
    (undeclaring : Undeclaring c) where
  pub undeclared : Rowed (c ∷ calls) t
  undeclared = record {
    apart = λ x y hx hy e.
        rowed.apart x y (target_before s t later x (old x hx) hx) (target_before s t later y (old y hy) hy)
        (sym (row_later s t later x (old x hx)) ∙ e ∙ row_later s t later y (old y hy));
    named = λ x y n.
        let h = rowed.named x y (names_before undeclaring n) in
        record {
          first = target_later s t later x h.first;
          second = target_later s t later y h.second;
          needed = (λ i. needs (same_rows i) (row_later s t later x h.first.within i) (row_later s t later y h.second.within i)) ∙ h.needed;
        };
    told = λ x y h.
        let wx = old x h.first in
        let wy = old y h.second in
        still_needed (rowed.told x y (record {
          first = target_before s t later x wx h.first;
          second = target_before s t later y wy h.second;
          needed = sym (λ i. needs (same_rows i) (row_later s t later x wx i) (row_later s t later y wy i)) ∙ h.needed;
        }));
  }

-- one place more: an old one, or the new one
module _ (s t : Build) (y : Place) (e : shapes t.places ≡ shapes s.places ++ shape y ∷ []) where
  old_or_new : (x : ℕ) → TargetPlace t x → (x < length s.places) ⊎ (x ≡ length s.places)
  old_or_new x h =
      let w = h.within in
      let n = more_size s t y e in
      ⊎_elim inr (⊎_elim inl (λ gt. absurd (omega arith))) (cases_order x (length s.places))

  no_target : ((shape y).sort ≡ a_target → ⊥) → (x : ℕ) → TargetPlace t x → x < length s.places
  no_target other x h =
      ⊎_elim (λ w. w) (λ new. absurd (other (sym (ap (λ (z : Shape). z.sort) (ap (shape_at (shapes t.places)) new ∙ new_shape s t y e)) ∙ h.sort))) (old_or_new x h)

module _ {calls : List Call} (s : Build) (rowed : Rowed calls s) where
  pub born_rowed : (p q t h : ℕ) → Later s (born_at s p s.places (stand s.places h)) → Rowed (tell (birth p q t) ∷ calls) (born_at s p s.places (stand s.places h))
  born_rowed p q t h later =
      let u = born_at s p s.places (stand s.places h) in
      let n = same_size s u (more_shapes s.places (stand s.places h)) in
      undeclared (tell (birth p q t)) s u rowed later refl (λ x w. let l = w.within in omega arith) tt

  pub step_rowed : (p q t h : ℕ) → Later s (born_at s p (with_step s h t) (length s.places)) → Rowed (tell (birth p q t) ∷ calls) (born_at s p (with_step s h t) (length s.places))
  step_rowed p q t h later =
      let u = born_at s p (with_step s h t) (length s.places) in
      undeclared (tell (birth p q t)) s u rowed later refl (no_target s u (new_step s h t) (step_shapes s p h t) step_target) tt

  pub make_rowed : (p i : ℕ) → Later s (turned_make s i) → Rowed (tell (make p) ∷ calls) (turned_make s i)
  make_rowed p i later = undeclared (tell (make p)) s (turned_make s i) rowed later refl (no_target s (turned_make s i) (new_make s i) (made_shapes s i) make_target) tt

  pub death_rowed : (p i : ℕ) → Later s (died s i) → Rowed (tell (death p) ∷ calls) (died s i)
  death_rowed p i later =
      let n = same_size s (died s i) (died_shapes s i) in
      undeclared (tell (death p)) s (died s i) rowed later refl (λ x w. let l = w.within in omega arith) tt

  pub stamp_rowed : (p : ℕ) → Later s (counted s) → Rowed (stamp p ∷ calls) (counted s)
  stamp_rowed p later = undeclared (stamp p) s (counted s) rowed later refl (λ x w. w.within) tt

-- what a new row reaches, through one of the prerequisites
module _ (rows : List (List ℕ)) (g : ℕ → ℕ) (v : ℕ) where
  reached_by : (ks : List ℕ) → reaches rows (map g ks) v ≡ true → (j : ℕ) × (j < length ks) × ((needs rows (g (get_or ks j 0)) v ≡ true) ⊎ (g (get_or ks j 0) ≡ v))
  reached_by [] e = absurd (false≢true e)
  reached_by (k ∷ ks) e =
      ⊎_elim
      (λ here. (0, omega arith, ⊎_elim inl (λ same. inr (eqb-true (g k) v same)) (or_cases (needs rows (g k) v) _ here)))
      (λ rest. let r = reached_by ks rest in (suc r.0, let w = r.1 in omega arith, r.2))
      (or_cases (needs rows (g k) v || eqb (g k) v) _ e)

  reached_from : (ks : List ℕ) (j : ℕ) → j < length ks → g (get_or ks j 0) ≡ v → reaches rows (map g ks) v ≡ true
  reached_from [] j low e = absurd (omega arith)
  reached_from (k ∷ ks) zero low e = or_left _ _ (or_right (needs rows (g k) v) _ (eq-eqb (g k) v e))
  reached_from (k ∷ ks) (suc j) low e = or_right (needs rows (g k) v || eqb (g k) v) _ (reached_from ks j (omega arith) e)

all_rows : (g : ℕ → ℕ) (n : ℕ) (ks : List ℕ) → ((j : ℕ) → j < length ks → g (get_or ks j 0) < n) → AllByRecursion (λ u. u < n) (map g ks)
all_rows g n [] h = tt
all_rows g n (k ∷ ks) h = (h 0 (omega arith), all_rows g n ks (λ j low. h (suc j) (omega arith)))

-- A new target of the make h.
module _ {calls : List Call} (s : Build) (f : Follows calls s) (sound : Sound s) (rowed : Rowed calls s) (p i h : ℕ) (ks : List ℕ) (own : Found s.births p i) (at : (birth_at s.births i).at ≡ h)
    (makes : is_make (kind_at s.places h) ≡ true) (all : all_declared (targets_of (kind_at s.places h)) ks ≡ true) (room : length s.rows < s.room.targets)
    (later : Later s (declared s h ks)) (sound-on : Sound (declared s h ks)) where
  abbrev after : Build
  after = declared s h ks

  abbrev fresh : ℕ
  fresh = length s.places

  -- the j-th prerequisite: its place and its row
  abbrev row_named : ℕ → ℕ
  row_named k = row_in s.places s.slots (slots_from s h) k

  module _ (j : ℕ) (low : j < length ks) where
    place_named : target_at s h (get_or ks j 0) ≡ target_in calls h (get_or ks j 0)
    place_named = let d = declared_at (targets_of (kind_at s.places h)) ks all j low in target_told f sound h (get_or ks j 0) (housed_at f sound own at) makes d.0 d.1

    target_named : TargetPlace s (target_at s h (get_or ks j 0))
    target_named =
        let d = declared_at (targets_of (kind_at s.places h)) ks all j low in
        let lo = d.0 in
        let hi = d.1 in
        let c = count_is s.places h in
        let z = length-map s.places shape in
        let sort-h = make_shape s.places h makes in
        let t = subst (λ o. TargetOf (shapes s.places) h (get_or s.slots (o * s.room.targets + (get_or ks j 0 - 1)) 0)) (ap (λ (y : Shape). y.ordinal) (shape_is s.places h))
        (sound.slots.slotted h (get_or ks j 0 - 1) (omega arith) sort-h (omega arith)) in
        record { within = let w = t.within in omega arith; sort = t.sort }

    row_is_named : row_at s (target_at s h (get_or ks j 0)) ≡ row_named (get_or ks j 0)
    row_is_named = ap (λ (y : Shape). y.row) (shape_is s.places (target_at s h (get_or ks j 0)))

    names_it : Names fresh (target_at s h (get_or ks j 0)) (tell (target p ks) ∷ calls)
    names_it = named_now (found_make f sound own at makes) low (sym (size f sound)) place_named

  rows_few : AllByRecursion (λ u. u < 512) (rows_of s h ks)
  rows_few = all_rows row_named 512 ks (λ j low. let a = row_few s sound _ (target_named j low) in let e = row_is_named j low in omega arith)

  row_fresh : row_at after fresh ≡ length s.rows
  row_fresh = ap (λ (y : Shape). y.row) (new_shape s after (new_target s h) (grown_shapes s h ks))

  needs_fresh : (v : ℕ) → v < 512 → needs after.rows (length s.rows) v ≡ reaches s.rows (rows_of s h ks) v
  needs_fresh v small = needs_new s.rows (rows_of s h ks) v rows_few small

  needs_before : (x y : ℕ) → TargetPlace s x → TargetPlace s y → needs after.rows (row_at after x) (row_at after y) ≡ needs s.rows (row_at s x) (row_at s y)
  needs_before x y hx hy =
      (λ j. needs after.rows (row_later s after later x hx.within j) (row_later s after later y hy.within j))
      ∙ needs_old s.rows (rows_of s h ks) (row_at s x) (row_at s y) (row_under s sound x hx)

  target_cases : (x : ℕ) → TargetPlace after x → TargetPlace s x ⊎ (x ≡ fresh)
  target_cases x hx = ⊎_elim (λ w. inl (target_before s after later x w hx)) inr (old_or_new s after (new_target s h) (grown_shapes s h ks) x hx)

  row_old : (x : ℕ) → TargetPlace s x → row_at after x < length s.rows
  row_old x hx = let a = row_under s sound x hx in let e = row_later s after later x hx.within in omega arith

  fresh_apart : (x y : ℕ) → TargetPlace s x → y ≡ fresh → row_at after x ≡ row_at after y → ⊥
  fresh_apart x y hx new e = let a = row_old x hx in let b = ap (row_at after) new ∙ row_fresh in omega arith

  apart_on : (x y : ℕ) → TargetPlace after x → TargetPlace after y → row_at after x ≡ row_at after y → x ≡ y
  apart_on x y hx hy e =
      ⊎_elim
      (λ ox. ⊎_elim
      (λ oy. rowed.apart x y ox oy (sym (row_later s after later x ox.within) ∙ e ∙ row_later s after later y oy.within))
      (λ ny. absurd (fresh_apart x y ox ny e))
      (target_cases y hy))
      (λ nx. ⊎_elim (λ oy. absurd (fresh_apart y x oy nx (sym e))) (λ ny. nx ∙ sym ny) (target_cases y hy))
      (target_cases x hx)

  fresh_target : TargetPlace after fresh
  fresh_target = record {
    within = let n = more_size s after (new_target s h) (grown_shapes s h ks) in omega arith;
    sort = ap (λ (y : Shape). y.sort) (new_shape s after (new_target s h) (grown_shapes s h ks));
  }

  needing_named : (j : ℕ) → j < length ks → Needing after fresh (target_at s h (get_or ks j 0))
  needing_named j low =
      let y = target_at s h (get_or ks j 0) in
      let ty = target_named j low in
      let ry = row_later s after later y ty.within in
      record {
        first = fresh_target;
        second = target_later s after later y ty;
        needed =
            (λ k. needs after.rows (row_fresh k) (ry k)) ∙ needs_fresh (row_at s y) (row_few s sound y ty)
            ∙ reached_from s.rows row_named (row_at s y) ks j low (sym (row_is_named j low));
      }

  named_on : (x y : ℕ) → Names x y (tell (target p ks) ∷ calls) → Needing after x y
  named_on x y (named_now {j = j} e low xe ye) =
      let m-is = same_Some _ _ (sym e ∙ found_make f sound own at makes) in
      let yes = ye ∙ ap (λ m. target_in calls m (get_or ks j 0)) m-is ∙ sym (place_named j low) in
      subst (λ z. Needing after z y) (sym (xe ∙ size f sound)) (subst (Needing after fresh) (sym yes) (needing_named j low))
  named_on x y (named_before n) =
      let old = rowed.named x y n in
      record {
        first = target_later s after later x old.first;
        second = target_later s after later y old.second;
        needed = needs_before x y old.first old.second ∙ old.needed;
      }

  -- what the new target needs
  fresh_needs : (y : ℕ) → TargetPlace s y → reaches s.rows (rows_of s h ks) (row_at s y) ≡ true → Prerequisite (tell (target p ks) ∷ calls) y fresh
  fresh_needs y hy e =
      let r = reached_by s.rows row_named (row_at s y) ks e in
      let j = r.0 in
      let z = target_at s h (get_or ks r.0 0) in
      let tz = target_named r.0 r.1 in
      let rz = row_is_named r.0 r.1 in
      ⊎_elim
      (λ over. through (names_it r.0 r.1) (still_needed (rowed.told z y (record { first = tz; second = hy; needed = ap (λ n. needs s.rows n (row_at s y)) rz ∙ over }))))
      (λ same. subst (λ w. Prerequisite (tell (target p ks) ∷ calls) w fresh) (rowed.apart z y tz hy (rz ∙ same)) (directly (names_it r.0 r.1)))
      r.2

  told_on : (x y : ℕ) → Needing after x y → Prerequisite (tell (target p ks) ∷ calls) y x
  told_on x y n =
      let few_on = few after sound-on in
      let long = length_push s.rows (joined_row s.rows (rows_of s h ks)) in
      let rx = row_under after sound-on x n.first in
      let ry = row_under after sound-on y n.second in
      let lower = sound-on.rows.lower (row_at after x) (row_at after y) rx (omega arith) n.needed in
      let oy : TargetPlace s y = ⊎_elim (λ o. o) (λ new. absurd (let b = ap (row_at after) new ∙ row_fresh in omega arith)) (target_cases y n.second) in
      ⊎_elim
      (λ ox. still_needed (rowed.told x y (record { first = ox; second = oy; needed = sym (needs_before x y ox oy) ∙ n.needed })))
      (λ new.
      subst (Prerequisite (tell (target p ks) ∷ calls) y) (sym new)
      (fresh_needs y oy
      (sym (needs_fresh (row_at s y) (row_few s sound y oy))
      ∙ (λ k. needs after.rows (sym (ap (row_at after) new ∙ row_fresh) k) (sym (row_later s after later y oy.within) k))
      ∙ n.needed)))
      (target_cases x n.first)

  pub target_rowed : Rowed (tell (target p ks) ∷ calls) (declared s h ks)
  target_rowed = record { apart = apart_on; named = named_on; told = told_on }
