-- What decides between two timestamps, at the place where they meet: it goes on, and never leads back.
use Rattle.std.specs.Prelude.{◌≡◌, ℕ, zero, suc, ◌<◌, ◌≤◌, Bool, true, false, cond, length, is_some, Some, None, Option, ◌==◌, ◌≢◌, slice_index_or, refl}
use Rattle.std.proofs.Common.{inl, inr, ⊎_elim, sym, ap, ◌∙◌, arith}
use Rattle.std.proofs.lemmas.List.{length-map}
use Rattle.std.proofs.lemmas.Bool.{false≢true, ne_eqb, ltb-true, lt-ltb}
use Rattle.makes.specs.declared.climb.Meeting.{Meeting}
use Rattle.makes.specs.Machine.{Build, ends_before, side_start, side_end, judged}
use Rattle.makes.specs.Places.{Sort, session, make, target, step, make_sort, target_sort, stand_sort, sort_of, is_make, is_target, is_stand, row_of, start_of, end_of, kind_at, Shape, shape, shapes, shape_at, parents, starts}
use Rattle.makes.specs.Rows.{needs}
use Rattle.makes.specs.Sound.{fits_below, Sound}
use Rattle.makes.specs.Tree.{up, Holds, Branch, Side}
use Rattle.makes.specs.Shapes.{shape_is, above_step, above_target, above_make, make_target}
use Rattle.makes.specs.TreeLemmas.{holds_le, holds_split}
use Rattle.makes.specs.Views.{start_is, end_is}

-- What the judgement at a meeting asks: the sides are in the table, they are targets exactly at a make, and there they have rows.
pub record Judgeable (s : Build) (m : Meeting) : Type 0 where
  pub left : m.left < length s.places
  pub right : m.right < length s.places
  pub left_kind : is_target (kind_at s.places m.left) ≡ is_make (kind_at s.places m.place)
  pub right_kind : is_target (kind_at s.places m.right) ≡ is_make (kind_at s.places m.place)
  pub left_row : is_make (kind_at s.places m.place) ≡ true → row_of (kind_at s.places m.left) < length s.rows
  pub right_row : is_make (kind_at s.places m.place) ≡ true → row_of (kind_at s.places m.right) < length s.rows

-- an end before a start, by its numbers
pub ends_parts : (o q : Option ℕ) → ends_before o q ≡ true → (e : ℕ) × (k : ℕ) × (o ≡ Some e) × (q ≡ Some k) × (e < k)
ends_parts None q h = absurd (false≢true h)
ends_parts (Some e) None h = absurd (false≢true h)
ends_parts (Some e) (Some k) h = (e, k, refl, refl, ltb-true e k h)

pub ends_from : (o q : Option ℕ) (e k : ℕ) → o ≡ Some e → q ≡ Some k → e < k → ends_before o q ≡ true
ends_from o q e k is at lt = (λ i. ends_before (is i) (at i)) ∙ lt-ltb e k lt

some_same : {j k : ℕ} → Some j ≡ Some k → j ≡ k
some_same e = cc

make_not_stand : (s : Sort) → make_sort s ≡ true → stand_sort s ≢ true
make_not_stand session m e = false≢true m
make_not_stand make m e = false≢true e
make_not_stand target m e = false≢true m
make_not_stand step m e = false≢true m

-- where processes stand is neither a target nor a make
stand_is_neither : (k : Sort) → stand_sort k ≡ true → target_sort k ≡ make_sort k
stand_is_neither session e = refl
stand_is_neither make e = absurd (false≢true e)
stand_is_neither target e = absurd (false≢true e)
stand_is_neither step e = refl

-- targets, and nothing else, stand right below a make
target_below_make : (k above : Sort) → fits_below k above ≡ true → target_sort k ≡ make_sort above
target_below_make session above f = absurd (false≢true f)
target_below_make make session f = refl
target_below_make make make f = absurd (false≢true f)
target_below_make make target f = absurd (false≢true f)
target_below_make make step f = refl
target_below_make target above f = sym f
target_below_make step session f = absurd (false≢true f)
target_below_make step make f = absurd (false≢true f)
target_below_make step target f = refl
target_below_make step step f = absurd (false≢true f)

module _ (s : Build) (sound : Sound s) where
  -- the sort and the row of a place, in the table and in the tree
  pub sort_is : (x : ℕ) → (shape_at (shapes s.places) x).sort ≡ sort_of (kind_at s.places x)
  sort_is x = ap (λ (y : Shape). y.sort) (shape_is s.places x)

  pub row_is : (x : ℕ) → (shape_at (shapes s.places) x).row ≡ row_of (kind_at s.places x)
  row_is x = ap (λ (y : Shape). y.row) (shape_is s.places x)

  -- what stands right below a make is a target, and has a row
  pub below_make : (c l a : ℕ) → is_make (kind_at s.places c) ≡ true → a < length s.places → Branch (parents s.places) c l a
      → (l < length (shapes s.places)) × ((shape_at (shapes s.places) l).sort ≡ target)
  below_make c l a m h b =
      let n = length-map s.places shape in
      let le = holds_le (parents s.places) sound.tree.earlier b.holds in
      let lt : l < length (shapes s.places) = omega arith in
      let fit = sound.tree.fitting l b.below lt in
      let above : make_sort (shape_at (shapes s.places) (up (parents s.places) l)).sort ≡ true =
      ap (λ x. make_sort (shape_at (shapes s.places) x).sort) b.parent ∙ ap make_sort (sort_is c) ∙ m in
      (lt, go (shape_at (shapes s.places) l).sort (shape_at (shapes s.places) (up (parents s.places) l)).sort fit above)
    where
      go : (child above : Sort) → fits_below child above ≡ true → make_sort above ≡ true → child ≡ target
      go session above f m = absurd (false≢true f)
      go make above f m = absurd (make_not_stand above m f)
      go target above f m = refl
      go step session f m = absurd (false≢true m)
      go step make f m = absurd (false≢true f)
      go step target f m = absurd (false≢true m)
      go step step f m = absurd (false≢true m)

  -- a side at a make, of a place where processes stand, is a target
  pub side_target : (c l a : ℕ) → is_make (kind_at s.places c) ≡ true → a < length s.places → is_stand (kind_at s.places a) ≡ true → Side (parents s.places) c l a
      → Branch (parents s.places) c l a
  side_target c l a m h stands (inl e) = absurd (make_not_stand (sort_of (kind_at s.places c)) m (ap (λ x. is_stand (kind_at s.places x)) (sym e.1) ∙ stands))
  side_target c l a m h stands (inr b) = b

  pub side_row : (c l a : ℕ) → is_make (kind_at s.places c) ≡ true → a < length s.places → is_stand (kind_at s.places a) ≡ true → Side (parents s.places) c l a
      → row_of (kind_at s.places l) < length s.rows
  side_row c l a m h stands side =
      let t = below_make c l a m h (side_target c l a m h stands side) in
      let r = sound.slots.row l t.0 t.1 in
      let e = row_is l in
      omega arith

  -- a side of a place where processes stand is a target exactly at a make
  pub side_kind : (c l a : ℕ) → l < length s.places → is_stand (kind_at s.places a) ≡ true → Side (parents s.places) c l a → is_target (kind_at s.places l) ≡ is_make (kind_at s.places c)
  side_kind c l a h stands (inl e) = ap (λ x. is_target (kind_at s.places x)) e.0 ∙ stand_is_neither (sort_of (kind_at s.places c)) (ap (λ x. is_stand (kind_at s.places x)) (sym e.1) ∙ stands)
  side_kind c l a h stands (inr b) =
      let n = length-map s.places shape in
      ap target_sort (sym (sort_is l))
      ∙ target_below_make _ _ (sound.tree.fitting l b.below (omega arith))
      ∙ ap (λ x. make_sort (shape_at (shapes s.places) x).sort) b.parent
      ∙ ap make_sort (sort_is c)

  few : length s.rows ≤ 512
  few = let a = sound.room.targets in let b = sound.room.most_targets in omega arith

  -- the side that is the place itself starts and ends at the timestamp's number
  span_forward : (c m b k e : ℕ) → side_start s.places c m b ≡ Some k → side_end s.places c m b ≡ Some e → k ≤ e
  span_forward c m b k e h i = go (m == c) h i
    where
      go : (t : Bool) → cond t (Some b) (start_of (kind_at s.places m)) ≡ Some k → cond t (Some b) (end_of (kind_at s.places m)) ≡ Some e → k ≤ e
      go true h i = let p = some_same h in let q = some_same i in omega arith
      go false h i = sound.times.forward m k e (start_is s.places m ∙ h) (end_is s.places m ∙ i)

  -- The judgement at a place, for sides that have rows below a make.
  pub judged_on : (c l m r a b d : ℕ) → (is_make (kind_at s.places c) ≡ true → row_of (kind_at s.places l) < length s.rows) → (is_make (kind_at s.places c) ≡ true → row_of (kind_at s.places m) < length s.rows)
      → (is_make (kind_at s.places c) ≡ true → row_of (kind_at s.places r) < length s.rows)
      → judged s (record { place = c; left = l; right = m }) a b ≡ true → judged s (record { place = c; left = m; right = r }) b d ≡ true → judged s (record { place = c; left = l; right = r }) a d ≡ true
  judged_on c l m r a b d rl rm rr = go (is_make (kind_at s.places c)) refl
    where
      go : (t : Bool) → is_make (kind_at s.places c) ≡ t
          → cond t (needs s.rows (row_of (kind_at s.places m)) (row_of (kind_at s.places l))) (ends_before (side_end s.places c l a) (side_start s.places c m b)) ≡ true
          → cond t (needs s.rows (row_of (kind_at s.places r)) (row_of (kind_at s.places m))) (ends_before (side_end s.places c m b) (side_start s.places c r d)) ≡ true
          → cond t (needs s.rows (row_of (kind_at s.places r)) (row_of (kind_at s.places l))) (ends_before (side_end s.places c l a) (side_start s.places c r d)) ≡ true
      go true t h i =
          let n = few in
          let x = rl t in
          let y = rm t in
          sound.rows.chained (row_of (kind_at s.places r)) (row_of (kind_at s.places m)) (row_of (kind_at s.places l)) (rr t) (omega arith) (omega arith) i h
      go false t h i =
          let p = ends_parts (side_end s.places c l a) (side_start s.places c m b) h in
          let q = ends_parts (side_end s.places c m b) (side_start s.places c r d) i in
          let f = span_forward c m b p.1 q.0 p.3 q.2 in
          ends_from _ _ p.0 q.1 p.2 q.3 (let x = p.4 in let y = q.4 in omega arith)

  pub judged_back : (c l a d : ℕ) → (l ≢ c) → (is_make (kind_at s.places c) ≡ true → row_of (kind_at s.places l) < length s.rows) → judged s (record { place = c; left = l; right = l }) a d ≢ true
  judged_back c l a d ne rl = go (is_make (kind_at s.places c)) refl
    where
      go : (t : Bool) → is_make (kind_at s.places c) ≡ t
          → cond t (needs s.rows (row_of (kind_at s.places l)) (row_of (kind_at s.places l))) (ends_before (side_end s.places c l a) (side_start s.places c l d)) ≢ true
      go true t h =
          let n = few in
          let x = rl t in
          let y = sound.rows.lower (row_of (kind_at s.places l)) (row_of (kind_at s.places l)) x (omega arith) h in
          omega arith
      go false t h =
          let off = ne_eqb l c ne in
          let p = ends_parts (side_end s.places c l a) (side_start s.places c l d) h in
          let e = sym (ap (λ z. cond z (Some a) (end_of (kind_at s.places l))) off) ∙ p.2 in
          let k = sym (ap (λ z. cond z (Some d) (start_of (kind_at s.places l))) off) ∙ p.3 in
          let f = sound.times.forward l p.1 p.0 (start_is s.places l ∙ k) (end_is s.places l ∙ e) in
          let x = p.4 in
          omega arith

  -- away from the place itself the timestamp's number does not count
  pub judged_left : (c l r a b d : ℕ) → (l ≢ c) → judged s (record { place = c; left = l; right = r }) a d ≡ judged s (record { place = c; left = l; right = r }) b d
  judged_left c l r a b d ne =
      let off = ne_eqb l c ne in
      ap (λ o. cond (is_make (kind_at s.places c)) (needs s.rows (row_of (kind_at s.places r)) (row_of (kind_at s.places l))) (ends_before o (side_start s.places c r d)))
      (ap (λ z. cond z (Some a) (end_of (kind_at s.places l))) off ∙ sym (ap (λ z. cond z (Some b) (end_of (kind_at s.places l))) off))

  pub judged_right : (c l r a b d : ℕ) → (r ≢ c) → judged s (record { place = c; left = l; right = r }) a b ≡ judged s (record { place = c; left = l; right = r }) a d
  judged_right c l r a b d ne =
      let off = ne_eqb r c ne in
      ap (λ o. cond (is_make (kind_at s.places c)) (needs s.rows (row_of (kind_at s.places r)) (row_of (kind_at s.places l))) (ends_before (side_end s.places c l a) o))
      (ap (λ z. cond z (Some b) (start_of (kind_at s.places r))) off ∙ sym (ap (λ z. cond z (Some d) (start_of (kind_at s.places r))) off))

  -- a place below the root where processes stand is a step
  pub stand_step : (y : ℕ) → 0 < y → y < length (shapes s.places) → stand_sort (shape_at (shapes s.places) y).sort ≡ true → (shape_at (shapes s.places) y).sort ≡ step
  stand_step y p h e = go (shape_at (shapes s.places) y).sort (sound.tree.fitting y p h) e
    where
      go : (k : Sort) → fits_below k (shape_at (shapes s.places) (up (parents s.places) y)).sort ≡ true → stand_sort k ≡ true → k ≡ step
      go session f e = absurd (false≢true f)
      go make f e = absurd (false≢true e)
      go target f e = absurd (false≢true e)
      go step f e = refl

  -- a make that holds a place where processes stand has started
  started_in : (k x y : ℕ) → y < k → Holds (parents s.places) x y → (shape_at (shapes s.places) x).sort ≡ make → y < length (shapes s.places) → stand_sort (shape_at (shapes s.places) y).sort ≡ true
      → is_some (slice_index_or (starts s.places) x None) ≡ true
  started_in zero x y fuel h m hy st = absurd (omega arith)
  started_in (suc k) x y fuel h m hy st =
      ⊎_elim
      (λ e. absurd (make_not_stand (shape_at (shapes s.places) y).sort (ap (λ z. make_sort (shape_at (shapes s.places) z).sort) (sym e) ∙ ap make_sort m) st))
      (λ one.
      let a = above_step (shapes s.places) sound.tree y hy (stand_step y one.0 hy st) in
      let la = a.1 in
      ⊎_elim
      (λ e. absurd (make_target (sym m ∙ ap (λ z. (shape_at (shapes s.places) z).sort) e ∙ a.2)))
      (λ two.
      let b = above_target (shapes s.places) sound.tree (up (parents s.places) y) (omega arith) a.2 in
      let lb = b.1 in
      ⊎_elim
      (λ e. ap (λ z. is_some (slice_index_or (starts s.places) z None)) e ∙ sound.times.started y hy (stand_step y one.0 hy st))
      (λ three.
      let c = above_make (shapes s.places) sound.tree (up (parents s.places) (up (parents s.places) y)) (omega arith) b.2 in
      let lc = c.1 in
      started_in k x (up (parents s.places) (up (parents s.places) (up (parents s.places) y))) (omega arith) three.1 m (omega arith) c.2)
      (holds_split two.1))
      (holds_split one.1))
      (holds_split h)

  pub held_started : (x y : ℕ) → Holds (parents s.places) x y → (shape_at (shapes s.places) x).sort ≡ make → y < length (shapes s.places) → stand_sort (shape_at (shapes s.places) y).sort ≡ true
      → is_some (slice_index_or (starts s.places) x None) ≡ true
  held_started x y = started_in (suc y) x y (omega arith)
