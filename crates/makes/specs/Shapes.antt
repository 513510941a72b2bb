-- The shapes of places: what keeps them, and the tree with one place more.
use Rattle.std.specs.Prelude.{◌≡◌, ℕ, zero, suc, ◌+◌, ◌-◌, ◌*◌, ◌<◌, ◌≤◌, Bool, true, false, cond, ◌⊎◌, List, [], ◌∷◌, ◌++◌, map, length, count_by, ◌==◌, ◌≢◌, slice_index, slice_set, refl}
use Rattle.std.proofs.Common.{inl, inr, ⊎_elim, sym, ap, subst, ◌∙◌, arith}
use Rattle.std.proofs.ByRecursion.{All-weaker}
use Rattle.std.proofs.lemmas.List.{length-set, length-map, length_push, map_push, get_or_append_left, get_or_push, get_or_past}
use Rattle.std.proofs.lemmas.List.Sums.{sum_by-cons}
use Rattle.std.proofs.lemmas.Bool.{cases_eq, eqb-false, cases_order, false≢true}
use Rattle.std.specs.List.{AllByRecursion}
use Rattle.makes.specs.declared.places.Place.{Place}
use Rattle.makes.specs.Places.{Sort, session, make, target, step, make_sort, target_sort, stand_sort, is_make, targets_of, no_place, place_at, kind_at, Shape, shape, shapes, shape_at, parents_of, counts, changed}
use Rattle.makes.specs.Sound.{fits_below, levels_left, makes_above, SoundTree}
use Rattle.makes.specs.Tree.{up, Earlier, line_in, line, levels}
use Rattle.makes.specs.TreeLemmas.{line_some, line_more, line_same}
use Rattle.makes.specs.Walks.{map_at, map_set_same}

pub shape_is : (ps : List Place) (x : ℕ) → shape_at (shapes ps) x ≡ shape (place_at ps x)
shape_is ps x = map_at shape ps x no_place

-- what is in the table is in the tree, and each column of the table is as long as the tree
pub in_shapes : (ps : List Place) {x : ℕ} → x < length ps → x < length (shapes ps)
in_shapes ps h = let n = length-map ps shape in omega arith

pub sized : {Y : Type 0} (ps : List Place) (g : Place → Y) → length (map g ps) ≡ length (shapes ps)
sized ps g = length-map ps g ∙ sym (length-map ps shape)

pub count_is : (ps : List Place) (x : ℕ) → slice_index (counts ps) x ≡ targets_of (kind_at ps x)
count_is ps x = map_at (λ (p : Place). targets_of p.kind) ps x no_place

-- what each change keeps, all changes keep
pub changed_same : {Y : Type 0} (g : Place → Y) (f : Place → Place) → ((p : Place) → g (f p) ≡ g p) → (ps : List Place) (xs : List ℕ) → map g (changed f ps xs) ≡ map g ps
changed_same g f keeps ps [] = refl
changed_same g f keeps ps (x ∷ xs) = changed_same g f keeps (slice_set ps x (f (place_at ps x))) xs ∙ map_set_same g ps x (f (place_at ps x)) no_place (keeps (place_at ps x))

pub length_changed : (f : Place → Place) (ps : List Place) (xs : List ℕ) → length (changed f ps xs) ≡ length ps
length_changed f ps [] = refl
length_changed f ps (x ∷ xs) = length_changed f (slice_set ps x (f (place_at ps x))) xs ∙ length-set ps x (f (place_at ps x))

-- counts by tests that agree
pub count_by_cons : {X : Type 0} (f : X → Bool) (x : X) (xs : List X) → count_by f (x ∷ xs) ≡ cond (f x) 1 0 + count_by f xs
count_by_cons f x xs = sum_by-cons (λ y. cond (f y) 1 0) x xs

pub count_by_same : {X : Type 0} (f g : X → Bool) (xs : List X) → AllByRecursion (λ x. f x ≡ g x) xs → count_by f xs ≡ count_by g xs
count_by_same f g [] h = refl
count_by_same f g (x ∷ xs) h =
    count_by_cons f x xs ∙ (λ i. cond (h.0 i) 1 0 + count_by_same f g xs h.1 i) ∙ sym (count_by_cons g x xs)

-- a line goes down in numbers
pub line_under : (us : List ℕ) → Earlier us → (k x : ℕ) → AllByRecursion (λ y. y ≤ x) (line_in us k x)
line_under us earlier zero x = tt
line_under us earlier (suc k) x = (omega arith, go (line_under us earlier k (up us x)) (x == 0) refl)
  where
    go : AllByRecursion (λ y. y ≤ up us x) (line_in us k (up us x)) → (b : Bool) → (x == 0) ≡ b → AllByRecursion (λ y. y ≤ x) (elim b [ true ↦ [] | false ↦ line_in us k (up us x) ])
    go rest true e = tt
    go rest false e = let n = eqb-false x 0 e in let l = earlier x (omega arith) in All-weaker (λ y. y ≤ up us x) (λ y. y ≤ x) (λ y h. omega arith) _ rest

-- how many levels are left below a place that fits
levels_fit : (sort above : Sort) (level depth : ℕ) → fits_below sort above ≡ true → level + levels_left above ≡ 3 * depth
    → level + 1 + levels_left sort ≡ 3 * (depth + cond (make_sort sort) 1 0)
levels_fit session above level depth fits e = absurd (false≢true fits)
levels_fit make session level depth fits e = omega arith
levels_fit make make level depth fits e = absurd (false≢true fits)
levels_fit make target level depth fits e = absurd (false≢true fits)
levels_fit make step level depth fits e = omega arith
levels_fit target session level depth fits e = absurd (false≢true fits)
levels_fit target make level depth fits e = omega arith
levels_fit target target level depth fits e = absurd (false≢true fits)
levels_fit target step level depth fits e = absurd (false≢true fits)
levels_fit step session level depth fits e = absurd (false≢true fits)
levels_fit step make level depth fits e = absurd (false≢true fits)
levels_fit step target level depth fits e = omega arith
levels_fit step step level depth fits e = absurd (false≢true fits)

-- The first places of a tree with one place more.
module _ (ts : List Shape) (t : Shape) where
  pub shape_old : (x : ℕ) → x < length ts → shape_at (ts ++ t ∷ []) x ≡ shape_at ts x
  shape_old x h = get_or_append_left ts (t ∷ []) (shape no_place) x h

  pub new_or_old : (x : ℕ) → x < length (ts ++ t ∷ []) → (x ≡ length ts) ⊎ (x < length ts)
  new_or_old x h = let n = length_push ts t in ⊎_elim inl (⊎_elim inr (λ gt. absurd (omega arith))) (cases_order x (length ts))

  pub shape_new : {x : ℕ} → x ≡ length ts → shape_at (ts ++ t ∷ []) x ≡ t
  shape_new {x} e = get_or_push ts t (shape no_place) x (sym e)

  parents_more : parents_of (ts ++ t ∷ []) ≡ parents_of ts ++ t.parent ∷ []
  parents_more = map_push (λ (y : Shape). y.parent) ts t

  parents_size : length (parents_of ts) ≡ length ts
  parents_size = length-map ts (λ (y : Shape). y.parent)

  pub up_old : (x : ℕ) → x < length ts → up (parents_of (ts ++ t ∷ [])) x ≡ up (parents_of ts) x
  up_old x h = let n = parents_size in ap (λ us. up us x) parents_more ∙ get_or_append_left (parents_of ts) (t.parent ∷ []) 0 x (omega arith)

  pub up_new : up (parents_of (ts ++ t ∷ [])) (length ts) ≡ t.parent
  up_new = ap (λ us. up us (length ts)) parents_more ∙ get_or_push (parents_of ts) t.parent 0 (length ts) parents_size

  up_past : (x : ℕ) → length ts < x → up (parents_of (ts ++ t ∷ [])) x ≡ 0
  up_past x h =
      let n = parents_size in
      let m = length_push (parents_of ts) t.parent in
      ap (λ us. up us x) parents_more ∙ get_or_past (parents_of ts ++ t.parent ∷ []) x 0 (omega arith)

  module _ (earlier : Earlier (parents_of ts)) (within : t.parent < length ts) where
    pub earlier_more : Earlier (parents_of (ts ++ t ∷ []))
    earlier_more x p =
        ⊎_elim
        (λ e. let n = ap (up (parents_of (ts ++ t ∷ []))) e ∙ up_new in omega arith)
        (⊎_elim
        (λ lt. let o = up_old x lt in let e = earlier x p in omega arith)
        (λ gt. let z = up_past x gt in omega arith))
        (cases_order x (length ts))

    pub line_old : (x : ℕ) → x < length ts → line (parents_of (ts ++ t ∷ [])) x ≡ line (parents_of ts) x
    line_old = line_same (parents_of ts) (parents_of (ts ++ t ∷ [])) earlier (length ts) up_old

    pub line_new : line (parents_of (ts ++ t ∷ [])) (length ts) ≡ length ts ∷ line (parents_of ts) t.parent
    line_new =
        line_more (parents_of (ts ++ t ∷ [])) earlier_more (length ts) (omega arith)
        ∙ ap (λ x. length ts ∷ line (parents_of (ts ++ t ∷ [])) x) up_new
        ∙ ap (λ xs. length ts ∷ xs) (line_old t.parent within)

-- One place more, below one where it fits.
module _ (ts : List Shape) (t : Shape) (sound : SoundTree ts) (within : t.parent < length ts) (fits : fits_below t.sort (shape_at ts t.parent).sort ≡ true)
    (deeper : t.depth ≡ (shape_at ts t.parent).depth + cond (make_sort t.sort) 1 0) (few : t.depth ≤ 16) where
  more : List Shape
  more = ts ++ t ∷ []

  -- the new place is last
  last_cases : (P : ℕ → Type 0) → ((x : ℕ) → x < length ts → P x) → P (length ts) → (x : ℕ) → x < length (ts ++ t ∷ []) → P x
  last_cases P old new x h =
      let n = length_push ts t in
      ⊎_elim (λ e. subst P (sym e) new) (⊎_elim (old x) (λ gt. absurd (omega arith))) (cases_order x (length ts))

  fits_new : fits_below (shape_at (ts ++ t ∷ []) (length ts)).sort (shape_at (ts ++ t ∷ []) (up (parents_of (ts ++ t ∷ [])) (length ts))).sort ≡ true
  fits_new =
      (λ i. fits_below (shape_new ts t refl i).sort (shape_at (ts ++ t ∷ []) (up_new ts t i)).sort)
      ∙ (λ i. fits_below t.sort (shape_old ts t t.parent within i).sort)
      ∙ fits

  fits_old : (x : ℕ) → 0 < x → x < length ts → fits_below (shape_at (ts ++ t ∷ []) x).sort (shape_at (ts ++ t ∷ []) (up (parents_of (ts ++ t ∷ [])) x)).sort ≡ true
  fits_old x p h =
      let e = sound.earlier x p in
      (λ i. fits_below (shape_old ts t x h i).sort (shape_at (ts ++ t ∷ []) (up_old ts t x h i)).sort)
      ∙ (λ i. fits_below (shape_at ts x).sort (shape_old ts t (up (parents_of ts) x) (omega arith) i).sort)
      ∙ sound.fitting x p h

  test_old : (y : ℕ) → y < length ts → make_sort (shape_at (ts ++ t ∷ []) y).sort ≡ make_sort (shape_at ts y).sort
  test_old y h = ap (λ (s : Shape). make_sort s.sort) (shape_old ts t y h)

  -- the makes on a line of the first places
  makes_old : (x : ℕ) → x < length ts → count_by (λ y. make_sort (shape_at (ts ++ t ∷ []) y).sort) (line (parents_of ts) x) ≡ makes_above ts x
  makes_old x h =
      count_by_same (λ y. make_sort (shape_at (ts ++ t ∷ []) y).sort) (λ y. make_sort (shape_at ts y).sort) (line (parents_of ts) x)
      (All-weaker (λ y. y ≤ x) (λ y. make_sort (shape_at (ts ++ t ∷ []) y).sort ≡ make_sort (shape_at ts y).sort) (λ y l. test_old y (omega arith)) _ (line_under (parents_of ts) sound.earlier (x + 1) x))

  pub tree_more : SoundTree (ts ++ t ∷ [])
  tree_more =
      let us = parents_of (ts ++ t ∷ []) in
      let first = sound.some in
      let on = earlier_more ts t sound.earlier within in
      record {
        some = omega (arith, length_push ts t);
        root = ap (λ (s : Shape). s.sort) (shape_old ts t 0 first) ∙ sound.root;
        earlier = on;
        fitting = λ x p h.
            last_cases (λ y. 0 < y → fits_below (shape_at (ts ++ t ∷ []) y).sort (shape_at (ts ++ t ∷ []) (up us y)).sort ≡ true)
            (λ y l q. fits_old y q l) (λ q. fits_new) x h p;
        levelled = last_cases (λ x. levels us x + levels_left (shape_at (ts ++ t ∷ []) x).sort ≡ 3 * (shape_at (ts ++ t ∷ []) x).depth)
            (λ x h.
            (λ i. (length (line_old ts t sound.earlier within x h i) - 1) + levels_left (shape_old ts t x h i).sort)
            ∙ sound.levelled x h ∙ sym (ap (λ (s : Shape). 3 * s.depth) (shape_old ts t x h)))
            (let long = ap length (line_new ts t sound.earlier within) in
            let one = line_some (parents_of ts) sound.earlier t.parent in
            let above = sound.levelled t.parent within in
            let size : levels us (length ts) ≡ levels (parents_of ts) t.parent + 1 = omega arith in
            let fit = levels_fit t.sort (shape_at ts t.parent).sort (levels (parents_of ts) t.parent) (shape_at ts t.parent).depth fits above in
            (λ i. size i + levels_left (shape_new ts t refl i).sort) ∙ fit ∙ ap (λ d. 3 * d) (sym deeper) ∙ sym (ap (λ (s : Shape). 3 * s.depth) (shape_new ts t refl)));
        deep = last_cases (λ x. makes_above (ts ++ t ∷ []) x ≡ (shape_at (ts ++ t ∷ []) x).depth)
            (λ x h.
            ap (count_by (λ y. make_sort (shape_at (ts ++ t ∷ []) y).sort)) (line_old ts t sound.earlier within x h)
            ∙ makes_old x h ∙ sound.deep x h ∙ sym (ap (λ (s : Shape). s.depth) (shape_old ts t x h)))
            (let up-makes = makes_old t.parent within ∙ sound.deep t.parent within in
            let whole = ap (count_by (λ y. make_sort (shape_at (ts ++ t ∷ []) y).sort)) (line_new ts t sound.earlier within)
            ∙ count_by_cons (λ y. make_sort (shape_at (ts ++ t ∷ []) y).sort) (length ts) (line (parents_of ts) t.parent)
            ∙ (λ i. cond (make_sort (shape_new ts t refl i).sort) 1 0 + up-makes i) in
            let new = ap (λ (s : Shape). s.depth) (shape_new ts t refl) in
            omega (arith, whole, new, deeper));
        shallow = last_cases (λ x. (shape_at (ts ++ t ∷ []) x).depth ≤ 16)
            (λ x h. subst (λ (s : Shape). s.depth ≤ 16) (sym (shape_old ts t x h)) (sound.shallow x h))
            (subst (λ (s : Shape). s.depth ≤ 16) (sym (shape_new ts t refl)) few);
      }

-- so no place is more than 48 levels down
pub levels_few : (ts : List Shape) → SoundTree ts → (x : ℕ) → x < length ts → levels (parents_of ts) x ≤ 48
levels_few ts sound x h = let a = sound.levelled x h in let b = sound.shallow x h in omega arith

-- What stands above what.
pub is_target : (s : Sort) → target_sort s ≡ true → s ≡ target
is_target session e = absurd (false≢true e)
is_target make e = absurd (false≢true e)
is_target target e = refl
is_target step e = absurd (false≢true e)

pub is_make_sort : (s : Sort) → make_sort s ≡ true → s ≡ make
is_make_sort session e = absurd (false≢true e)
is_make_sort make e = refl
is_make_sort target e = absurd (false≢true e)
is_make_sort step e = absurd (false≢true e)

-- a make of the table is a make of the tree
pub make_shape : (ps : List Place) (x : ℕ) → is_make (kind_at ps x) ≡ true → (shape_at (shapes ps) x).sort ≡ make
make_shape ps x makes = is_make_sort _ (ap (λ (s : Shape). make_sort s.sort) (shape_is ps x) ∙ makes)

-- the sorts differ
pub session_make : session ≡ make → ⊥
session_make e = cc

pub session_target : session ≡ target → ⊥
session_target e = cc

pub session_step : session ≡ step → ⊥
session_step e = cc

pub make_target : make ≡ target → ⊥
make_target e = cc

pub make_step : make ≡ step → ⊥
make_step e = cc

pub target_make : target ≡ make → ⊥
target_make e = cc

pub target_step : target ≡ step → ⊥
target_step e = cc

pub step_make : step ≡ make → ⊥
step_make e = cc

pub step_target : step ≡ target → ⊥
step_target e = cc

module _ (ts : List Shape) (sound : SoundTree ts) where
  -- only the root is the session
  not_root : (x : ℕ) (s : Sort) → (shape_at ts x).sort ≡ s → (session ≢ s) → 0 < x
  not_root x s e other = ⊎_elim (λ z. absurd (other (sym sound.root ∙ ap (λ y. (shape_at ts y).sort) (sym z) ∙ e))) (λ ne. omega arith) (cases_eq x 0)

  pub above_target : (x : ℕ) → x < length ts → (shape_at ts x).sort ≡ target → (0 < x) × (up (parents_of ts) x < x) × ((shape_at ts (up (parents_of ts) x)).sort ≡ make)
  above_target x h e =
      let p = not_root x target e session_target in
      (p, sound.earlier x p, is_make_sort _ (sym (ap (λ s. fits_below s (shape_at ts (up (parents_of ts) x)).sort) e) ∙ sound.fitting x p h))

  pub above_step : (x : ℕ) → x < length ts → (shape_at ts x).sort ≡ step → (0 < x) × (up (parents_of ts) x < x) × ((shape_at ts (up (parents_of ts) x)).sort ≡ target)
  above_step x h e =
      let p = not_root x step e session_step in
      (p, sound.earlier x p, is_target _ (sym (ap (λ s. fits_below s (shape_at ts (up (parents_of ts) x)).sort) e) ∙ sound.fitting x p h))

  pub above_make : (x : ℕ) → x < length ts → (shape_at ts x).sort ≡ make → (0 < x) × (up (parents_of ts) x < x) × (stand_sort (shape_at ts (up (parents_of ts) x)).sort ≡ true)
  above_make x h e =
      let p = not_root x make e session_make in
      (p, sound.earlier x p, sym (ap (λ s. fits_below s (shape_at ts (up (parents_of ts) x)).sort) e) ∙ sound.fitting x p h)
