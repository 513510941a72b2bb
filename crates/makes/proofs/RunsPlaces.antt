-- Over a run, the state's tree, processes and targets are those that the calls tell.
use Rattle.std.proofs.Common.{◌≡◌, ℕ, suc, ◌+◌, ◌-◌, ◌*◌, ◌<◌, ◌≤◌, true, false, cond, eqb, List, [], ◌∷◌, ◌++◌, map, length, get_or, set, Some, None, Option, sym, refl, ap, ◌∙◌, subst, inl, inr, ⊎_elim, add-one, arith}
use Rattle.std.proofs.lemmas.List.{length-map, length_push, map_push, get_or_past, get_or-set_same, get_or-set_other}
use Rattle.std.proofs.lemmas.Bool.{false≢true, eq-eqb, ne_eqb, cond-true, cond-false, cases_lt}
use Rattle.order.specs.Runs.{Call}
use Rattle.makes.specs.declared.places.Place.{Place}
use Rattle.makes.specs.Machine.{Build, lives_in, born_at, with_step, turned_make, declared, target_at}
use Rattle.makes.specs.Places.{Sort, session, make as a_make, target as a_target, step, make_sort, stand_sort, is_make, targets_of, no_place, place_at, kind_at, Shape, shape, shapes, shape_at, parents_of, parents, counts, stand, birth_at}
use Rattle.makes.specs.Runs.{sorts_in, sort_in, next_place, place_in, make_in, targets_in, target_in, parents_in}
use Rattle.makes.specs.Sound.{Sound}
use Rattle.makes.specs.Columns.{new_step, ready_shapes, ready_counts, made_counts, grown_counts}
use Rattle.makes.specs.Entries.{more_shapes, more_counts}
use Rattle.makes.specs.Found.{Found}
use Rattle.makes.specs.Later.{Later}
use Rattle.makes.proofs.RunsEvents.{Parent}
use Rattle.makes.specs.Shapes.{shape_is, count_is, shape_new, make_shape}
use Rattle.makes.specs.Walks.{map_at}
use Rattle.makes.specs.Slots.{default_more}

-- the same shapes, as many places
pub same_size : (s t : Build) → shapes t.places ≡ shapes s.places → length t.places ≡ length s.places
same_size s t e = sym (length-map t.places shape) ∙ ap length e ∙ length-map s.places shape

-- One place more: how many there are, and the shape of the new one.
module _ (s t : Build) (y : Place) (e : shapes t.places ≡ shapes s.places ++ shape y ∷ []) where
  pub more_size : length t.places ≡ length s.places + 1
  more_size =
      let a = sym (length-map t.places shape) ∙ ap length e ∙ length_push (shapes s.places) (shape y) in
      let b = length-map s.places shape in
      omega arith

  pub new_shape : shape_at (shapes t.places) (length s.places) ≡ shape y
  new_shape =
      ap (λ ts. shape_at ts (length s.places)) e ∙ shape_new (shapes s.places) (shape y) (sym (length-map s.places shape))

-- The shapes after the birth of a step.
module _ (s : Build) where
  pub step_shapes : (p m t : ℕ) → shapes (born_at s p (with_step s m t) (length s.places)).places ≡ shapes s.places ++ shape (new_step s m t) ∷ []
  step_shapes p m t = more_shapes (with_step s m t) (length s.places) ∙ ready_shapes s m t

  -- how many targets each make has
  pub step_counts : (p m t x : ℕ) → get_or (counts (born_at s p (with_step s m t) (length s.places)).places) x 0 ≡ get_or (counts s.places) x 0
  step_counts p m t x = ap (λ cs. get_or cs x 0) (more_counts (with_step s m t) (length s.places) ∙ ready_counts s m t) ∙ default_more (counts s.places) 0 x

  pub make_counts : (i x : ℕ) → get_or (counts (turned_make s i).places) x 0 ≡ get_or (counts s.places) x 0
  make_counts i x = ap (λ cs. get_or cs x 0) (made_counts s i) ∙ default_more (counts s.places) 0 x

  -- a new target of the make m
  module _ (m : ℕ) (ks : List ℕ) (within : m < length s.places) (makes : is_make (kind_at s.places m) ≡ true) where
    pub target_count_own : get_or (counts (declared s m ks).places) m 0 ≡ get_or (counts s.places) m 0 + 1
    target_count_own =
        let n = length-map s.places (λ (y : Place). targets_of y.kind) in
        ap (λ cs. get_or cs m 0) (grown_counts s m ks makes) ∙ default_more (set (counts s.places) m (get_or (counts s.places) m 0 + 1)) 0 m
        ∙ get_or-set_same (counts s.places) m (get_or (counts s.places) m 0 + 1) 0 (omega arith)

    pub target_count_other : (x : ℕ) → (x ≡ m → ⊥) → get_or (counts (declared s m ks).places) x 0 ≡ get_or (counts s.places) x 0
    target_count_other x ne =
        ap (λ cs. get_or cs x 0) (grown_counts s m ks makes) ∙ default_more (set (counts s.places) m (get_or (counts s.places) m 0 + 1)) 0 x
        ∙ get_or-set_other (counts s.places) m x (get_or (counts s.places) m 0 + 1) 0 ne

-- the make that a process with this home is
abbrev pub own_make : List Place → ℕ → Option ℕ
own_make ps h = cond (is_make (kind_at ps h)) (Some h) None

-- the calls tell where the process with this home stands, and which make it is
pub record Standing (calls : List Call) (ps : List Place) (p h : ℕ) : Type 0 where
  pub place : place_in calls p ≡ Some (stand ps h)
  pub own : make_in calls p ≡ own_make ps h

pub record Follows (calls : List Call) (s : Build) : Type 0 where
  pub counted : s.number ≡ length calls
  pub sorts : map (λ (y : Shape). y.sort) (shapes s.places) ≡ sorts_in calls
  pub tree : parents s.places ≡ parents_in calls
  pub living : (i : ℕ) → i < length s.births → (birth_at s.births i).live ≡ true → Standing calls s.places (birth_at s.births i).process (birth_at s.births i).at
  pub nobody : (p : ℕ) → lives_in s p ≡ false → (place_in calls p ≡ None) × (make_in calls p ≡ None)
  pub declared : (m : ℕ) → length (targets_in calls m) ≡ get_or (counts s.places) m 0
  pub slotted : (m k : ℕ) → m < length s.places → (shape_at (shapes s.places) m).sort ≡ a_make → k < get_or (counts s.places) m 0
      → get_or s.slots ((shape_at (shapes s.places) m).ordinal * s.room.targets + k) 0 ≡ get_or (targets_in calls m) k 0

-- by the shapes alone
pub stand_shape : (ps : List Place) (h : ℕ) → stand ps h ≡ cond (make_sort (shape_at (shapes ps) h).sort) (shape_at (shapes ps) h).parent h
stand_shape ps h = ap (λ (y : Shape). cond (make_sort y.sort) y.parent h) (sym (shape_is ps h))

pub own_shape : (ps : List Place) (h : ℕ) → own_make ps h ≡ cond (make_sort (shape_at (shapes ps) h).sort) (Some h) None
own_shape ps h = ap (λ (y : Shape). cond (make_sort y.sort) (Some h) None) (sym (shape_is ps h))

-- a process that a call leaves alone
pub standing_on : {calls after : List Call} {s t : Build} {p h : ℕ} → Later s t → h < length s.places → place_in after p ≡ place_in calls p → make_in after p ≡ make_in calls p
    → Standing calls s.places p h → Standing after t.places p h
standing_on {s = s} {t = t} {h = h} later within place own st = record {
  place =
      place ∙ st.place ∙ ap Some (stand_shape s.places h ∙ ap (λ (y : Shape). cond (make_sort y.sort) y.parent h) (sym (later.shape h within)) ∙ sym (stand_shape t.places h));
  own =
      own ∙ st.own ∙ own_shape s.places h ∙ ap (λ (y : Shape). cond (make_sort y.sort) (Some h) None) (sym (later.shape h within)) ∙ sym (own_shape t.places h);
}

-- what stands is no make
pub stands_no_make : (k : Sort) → stand_sort k ≡ true → make_sort k ≡ false
stands_no_make session e = refl
stands_no_make a_make e = absurd (false≢true e)
stands_no_make a_target e = absurd (false≢true e)
stands_no_make step e = refl

-- What the state tells of the processes and places that an event names.
module _ {calls : List Call} {s : Build} (f : Follows calls s) (sound : Sound s) where
  pub size : next_place calls ≡ length s.places
  size = ap length (sym f.sorts) ∙ length-map (shapes s.places) (λ (y : Shape). y.sort) ∙ length-map s.places shape

  pub sort_told : (x : ℕ) → sort_in calls x ≡ (shape_at (shapes s.places) x).sort
  sort_told x = ap (λ ks. get_or ks x session) (sym f.sorts) ∙ map_at (λ (y : Shape). y.sort) (shapes s.places) x (shape no_place)

  pub found_stands : {p i : ℕ} → Found s.births p i → Standing calls s.places p (birth_at s.births i).at
  found_stands {p} {i} w = subst (λ q. Standing calls s.places q (birth_at s.births i).at) w.process (f.living i w.within w.live)

  pub housed : {p i : ℕ} → Found s.births p i → (birth_at s.births i).at < length s.places
  housed {p} {i} w = let a = sound.births.housed i w.within in let b = length-map s.places shape in omega arith

  pub housed_at : {p i h : ℕ} → Found s.births p i → (birth_at s.births i).at ≡ h → h < length s.places
  housed_at w at = let a = housed w in omega arith

  pub found_make : {p i h : ℕ} → Found s.births p i → (birth_at s.births i).at ≡ h → is_make (kind_at s.places h) ≡ true → make_in calls p ≡ Some h
  found_make {p} {i} {h} w at makes = (found_stands w).own ∙ ap (own_make s.places) at ∙ cond-true (is_make (kind_at s.places h)) (Some h) None makes

  session_no_make : is_make (kind_at s.places 0) ≡ false
  session_no_make = ap make_sort (sym (ap (λ (y : Shape). y.sort) (shape_is s.places 0)) ∙ sound.tree.root)

  -- a parent that is a make is a live process
  pub parent_make : {q h : ℕ} → Parent s q h → is_make (kind_at s.places h) ≡ true → make_in calls q ≡ Some h
  parent_make {q} {h} (inl e) makes = absurd (false≢true (sym session_no_make ∙ ap (λ x. is_make (kind_at s.places x)) (sym e.1) ∙ makes))
  parent_make (inr e) makes = found_make e.2 e.3 makes

  pub parent_within : {q h : ℕ} → Parent s q h → h < length s.places
  parent_within (inl e) = let n = size in let z = e.1 in let o = sound.tree.some in let b = length-map s.places shape in omega arith
  parent_within (inr e) = let a = housed e.2 in let b = e.3 in omega arith

  pub parent_place : {q h : ℕ} → Parent s q h → cond (eqb q 0) (Some 0) (place_in calls q) ≡ Some (stand s.places h)
  parent_place {q} {h} (inl e) =
      cond-true (eqb q 0) (Some 0) (place_in calls q) (eq-eqb q 0 e.0)
      ∙ ap Some (sym (ap (stand s.places) e.1 ∙ cond-false (is_make (kind_at s.places 0)) (place_at s.places 0).parent 0 session_no_make))
  parent_place {q} {h} (inr e) =
      cond-false (eqb q 0) (Some 0) (place_in calls q) (ne_eqb q 0 e.1) ∙ (found_stands e.2).place ∙ ap (λ x. Some (stand s.places x)) e.3

  -- the place of a make's target, by its number
  pub target_told : (m k : ℕ) → m < length s.places → is_make (kind_at s.places m) ≡ true → 1 ≤ k → k ≤ targets_of (kind_at s.places m) → target_at s m k ≡ target_in calls m k
  target_told m k within makes low high =
      let c = count_is s.places m in
      ap (λ o. get_or s.slots (o * s.room.targets + (k - 1)) 0) (sym (ap (λ (y : Shape). y.ordinal) (shape_is s.places m)))
      ∙ f.slotted m (k - 1) within (make_shape s.places m makes) (omega arith)

-- One call more.
module _ {calls : List Call} (s t : Build) (f : Follows calls s) (later : Later s t) where
  -- one place more: its sort, its parent, and who stands there
  module _ (y : Place) (e : shapes t.places ≡ shapes s.places ++ shape y ∷ []) where
    pub more_sorts : map (λ (z : Shape). z.sort) (shapes t.places) ≡ sorts_in calls ++ (shape y).sort ∷ []
    more_sorts = ap (map (λ (z : Shape). z.sort)) e ∙ map_push (λ (z : Shape). z.sort) (shapes s.places) (shape y) ∙ ap (λ zs. zs ++ (shape y).sort ∷ []) f.sorts

    pub more_parents : (x : ℕ) → y.parent ≡ x → parents t.places ≡ parents_in calls ++ x ∷ []
    more_parents x at = ap parents_of e ∙ map_push (λ (z : Shape). z.parent) (shapes s.places) (shape y) ∙ (λ i. f.tree i ++ at i ∷ [])

    pub newest_stand : make_sort (shape y).sort ≡ false → stand t.places (length s.places) ≡ length s.places
    newest_stand n = stand_shape t.places (length s.places) ∙ cond-false _ _ _ (ap (λ (z : Shape). make_sort z.sort) (new_shape s t y e) ∙ n)

    pub newest_own : make_sort (shape y).sort ≡ false → own_make t.places (length s.places) ≡ None
    newest_own n = own_shape t.places (length s.places) ∙ cond-false _ _ _ (ap (λ (z : Shape). make_sort z.sort) (new_shape s t y e) ∙ n)

  pub counted_more : t.number ≡ suc (length calls)
  counted_more = later.number ∙ add-one s.number ∙ ap suc f.counted

  -- only old places have targets where none is declared
  module _ (same : (x : ℕ) → get_or (counts t.places) x 0 ≡ get_or (counts s.places) x 0) where
    old_make : (m k : ℕ) → k < get_or (counts t.places) m 0 → m < length s.places
    old_make m k low =
        let c = same m in
        let l = length-map s.places (λ (y : Place). targets_of y.kind) in
        ⊎_elim (λ h. h) (λ h. let z = get_or_past (counts s.places) m 0 (omega arith) in absurd (omega arith)) (cases_lt m (length s.places))

    pub slotted_on : t.slots ≡ s.slots → t.room ≡ s.room → (m k : ℕ) → m < length t.places → (shape_at (shapes t.places) m).sort ≡ a_make → k < get_or (counts t.places) m 0
        → get_or t.slots ((shape_at (shapes t.places) m).ordinal * t.room.targets + k) 0 ≡ get_or (targets_in calls m) k 0
    slotted_on slots room m k w makes low =
        let c = same m in
        let within = old_make m k low in
        (λ i. get_or (slots i) ((later.shape m within i).ordinal * (room i).targets + k) 0)
        ∙ f.slotted m k within (sym (ap (λ (y : Shape). y.sort) (later.shape m within)) ∙ makes) (omega arith)

    pub declared_on : (m : ℕ) → length (targets_in calls m) ≡ get_or (counts t.places) m 0
    declared_on m = f.declared m ∙ sym (same m)
