-- A later state: what was known stays known, and before does not change.
use Rattle.std.specs.Prelude.{◌≡◌, ℕ, ◌+◌, ◌<◌, ◌≤◌, Bool, true, false, cond, ◌&&◌, ◌⊎◌, List, length, is_some, Some, None, Option, nat_lt, slice_index_or, refl}
use Rattle.std.proofs.Common.{inl, inr, ⊎_elim, sym, ap, ◌∙◌, arith}
use Rattle.std.proofs.lemmas.List.{length-map}
use Rattle.std.proofs.lemmas.Bool.{false≢true, le-ltb, eq-eqb, ne_eqb, cases_eq}
use Rattle.order.specs.declared.Timestamp.{Timestamp}
use Rattle.order.specs.Meaning.{Advanced}
use Rattle.makes.specs.declared.climb.Meeting.{Meeting}
use Rattle.makes.specs.declared.places.Kind.{Kind}
use Rattle.makes.specs.declared.places.Kind.TheVariants.{Session, Make, Target, Step}
use Rattle.makes.specs.declared.places.Place.{Place}
use Rattle.makes.specs.Machine.{Build, known_in, before_in, judged, ends_before, side_start, side_end, meaning}
use Rattle.makes.specs.Places.{Sort, session, make, target, step, make_sort, stand_sort, sort_of, is_make, row_of, start_of, end_of, kind_at, Shape, shape, shapes, shape_at, parents, starts, ends}
use Rattle.makes.specs.Rows.{needs}
use Rattle.makes.specs.Sound.{fits_below, Sound}
use Rattle.makes.specs.Tree.{up, Side, Meets, climb}
use Rattle.makes.specs.Judging.{sort_is, side_row, held_started}
use Rattle.makes.specs.Lawful.{KnownParts, known_parts, known_from}
use Rattle.makes.specs.Shapes.{shape_is}
use Rattle.makes.specs.TreeLemmas.{climb_meets, climb_kept, holds_le}
use Rattle.makes.specs.Views.{start_is, end_is}
use Rattle.makes.specs.Walks.{up_at}

-- t is one call after s: its first places are those of s, and what had started, ended or was needed is so.
pub record Later (s t : Build) : Type 0 where
  pub number : t.number ≡ s.number + 1
  pub longer : length s.places ≤ length t.places
  pub shape : (x : ℕ) → x < length s.places → shape_at (shapes t.places) x ≡ shape_at (shapes s.places) x
  pub starts : (x k : ℕ) → x < length s.places → slice_index_or (starts s.places) x None ≡ Some k → slice_index_or (starts t.places) x None ≡ Some k
  pub ends : (x : ℕ) → x < length s.places → (slice_index_or (ends t.places) x None ≡ slice_index_or (ends s.places) x None) ⊎ ((slice_index_or (ends s.places) x None ≡ None) × (slice_index_or (ends t.places) x None ≡ Some (s.number + 1)))
  pub needs : (r u : ℕ) → r < length s.rows → u < 512 → needs t.rows r u ≡ needs s.rows r u

-- a step has started
pub step_started : (k : Kind) → sort_of k ≡ step → is_some (start_of k) ≡ true
step_started Session e = cc
step_started (Make m) e = cc
step_started (Target row) e = cc
step_started (Step start end) e = refl

pub some_of : (o : Option ℕ) → is_some o ≡ true → (k : ℕ) × (o ≡ Some k)
some_of None e = absurd (false≢true e)
some_of (Some k) e = (k, refl)

-- a branch at a place that is no make is a make or a step
lasting_below : (child above : Sort) → fits_below child above ≡ true → make_sort above ≡ false → (child ≡ make) ⊎ (child ≡ step)
lasting_below session above f m = absurd (false≢true f)
lasting_below make above f m = inl refl
lasting_below target above f m = absurd (false≢true (sym m ∙ f))
lasting_below step above f m = inr refl

-- a parent, in the tree
pub up_shape : (ps : List Place) (x : ℕ) → up (parents ps) x ≡ (shape_at (shapes ps) x).parent
up_shape ps x = up_at ps x ∙ sym (ap (λ (y : Shape). y.parent) (shape_is ps x))

module _ (s t : Build) (sound : Sound s) (later : Later s t) where
  up_same : (x : ℕ) → x < length s.places → up (parents t.places) x ≡ up (parents s.places) x
  up_same x h = up_shape t.places x ∙ ap (λ (y : Shape). y.parent) (later.shape x h) ∙ sym (up_shape s.places x)

  sort_same : (x : ℕ) → x < length s.places → sort_of (kind_at t.places x) ≡ sort_of (kind_at s.places x)
  sort_same x h = ap (λ (y : Shape). y.sort) (sym (shape_is t.places x) ∙ later.shape x h ∙ shape_is s.places x)

  row_same : (x : ℕ) → x < length s.places → row_of (kind_at t.places x) ≡ row_of (kind_at s.places x)
  row_same x h = ap (λ (y : Shape). y.row) (sym (shape_is t.places x) ∙ later.shape x h ∙ shape_is s.places x)

  known_later : (a : Timestamp) → known_in s a ≡ true → known_in t a ≡ true
  known_later a e =
      let p = known_parts s a e in
      let h = p.within in
      let g = p.given in
      let l = later.longer in
      let n = later.number in
      known_from t a (record { from_one = p.from_one; given = omega arith; within = omega arith; stands = ap stand_sort (sort_same a.place h) ∙ p.stands })

  -- The judgement at a meeting of two known timestamps.
  module _ (a b : Timestamp) (ka : KnownParts s a) (kb : KnownParts s b) (m : Meeting) (met : Meets (parents s.places) a.place b.place m) where
    side_within : (l x : ℕ) → x < length s.places → Side (parents s.places) m.place l x → l < length s.places
    side_within l x h (inl e) = let le = holds_le (parents s.places) sound.tree.earlier met.lowest.first in let k = ka.within in let q = e.0 in omega arith
    side_within l x h (inr br) = let le = holds_le (parents s.places) sound.tree.earlier br.holds in omega arith

    place_within : m.place < length s.places
    place_within = let le = holds_le (parents s.places) sound.tree.earlier met.lowest.first in let k = ka.within in omega arith

    left_within : m.left < length s.places
    left_within = side_within m.left a.place ka.within met.left

    right_within : m.right < length s.places
    right_within = side_within m.right b.place kb.within met.right

    -- the right side has started
    right_started : is_make (kind_at s.places m.place) ≡ false → Side (parents s.places) m.place m.right b.place
        → (k : ℕ) × (side_start s.places m.place m.right b.number ≡ Some k) × (side_start t.places m.place m.right b.number ≡ Some k) × (k ≤ s.number)
    right_started open-place (inl e) =
        let on = eq-eqb m.right m.place e.0 in
        (b.number, ap (λ z. cond z (Some b.number) (start_of (kind_at s.places m.right))) on, ap (λ z. cond z (Some b.number) (start_of (kind_at t.places m.right))) on, kb.given)
    right_started open-place (inr br) =
        let n = length-map s.places shape in
        let in_tree : m.right < length (shapes s.places) = let w = right_within in omega arith in
        let off = ne_eqb m.right m.place (λ e. let l = sound.tree.earlier m.right br.below in let p = br.parent in omega arith) in
        let above : make_sort (shape_at (shapes s.places) (up (parents s.places) m.right)).sort ≡ false =
        ap (λ x. make_sort (shape_at (shapes s.places) x).sort) br.parent ∙ ap make_sort (sort_is s sound m.place) ∙ open-place in
        let begun : is_some (slice_index_or (starts s.places) m.right None) ≡ true =
        ⊎_elim
        (λ is. held_started s sound m.right b.place br.holds is (let w = kb.within in omega arith) (ap stand_sort (sort_is s sound b.place) ∙ kb.stands))
        (λ is. ap is_some (start_is s.places m.right) ∙ step_started (kind_at s.places m.right) (sym (sort_is s sound m.right) ∙ is))
        (lasting_below (shape_at (shapes s.places) m.right).sort (shape_at (shapes s.places) (up (parents s.places) m.right)).sort (sound.tree.fitting m.right br.below in_tree) above) in
        let k = some_of (slice_index_or (starts s.places) m.right None) begun in
        let kt = later.starts m.right k.0 right_within k.1 in (
          k.0,
          ap (λ z. cond z (Some b.number) (start_of (kind_at s.places m.right))) off ∙ sym (start_is s.places m.right) ∙ k.1,
          ap (λ z. cond z (Some b.number) (start_of (kind_at t.places m.right))) off ∙ sym (start_is t.places m.right) ∙ kt,
          sound.times.past m.right k.0 k.1,
        )

    -- the left side's end is as it was, or has come only now
    left_end : (side_end t.places m.place m.left a.number ≡ side_end s.places m.place m.left a.number)
        ⊎ ((side_end s.places m.place m.left a.number ≡ None) × (side_end t.places m.place m.left a.number ≡ Some (s.number + 1)))
    left_end =
        ⊎_elim
        (λ is.
        let on = eq-eqb m.left m.place is in
        inl (ap (λ z. cond z (Some a.number) (end_of (kind_at t.places m.left))) on ∙ sym (ap (λ z. cond z (Some a.number) (end_of (kind_at s.places m.left))) on)))
        (λ ne.
        let off = ne_eqb m.left m.place ne in
        let in-t = ap (λ z. cond z (Some a.number) (end_of (kind_at t.places m.left))) off ∙ sym (end_is t.places m.left) in
        let in-s = ap (λ z. cond z (Some a.number) (end_of (kind_at s.places m.left))) off ∙ sym (end_is s.places m.left) in
        ⊎_elim (λ same. inl (in-t ∙ same ∙ sym in-s)) (λ new. inr (in-s ∙ new.0, in-t ∙ new.1)) (later.ends m.left left_within))
        (cases_eq m.left m.place)

    sides_same : is_make (kind_at s.places m.place) ≡ false
        → ends_before (side_end t.places m.place m.left a.number) (side_start t.places m.place m.right b.number)
        ≡ ends_before (side_end s.places m.place m.left a.number) (side_start s.places m.place m.right b.number)
    sides_same open-place =
        let r = right_started open-place met.right in
        let low = r.3 in
        ⊎_elim
        (λ same. λ i. ends_before (same i) ((r.2 ∙ sym r.1) i))
        (λ new.
        (λ i. ends_before (new.1 i) (r.2 i)) ∙ le-ltb (s.number + 1) r.0 (omega arith)
        ∙ sym (λ i. ends_before (new.0 i) (side_start s.places m.place m.right b.number)))
        left_end

    rows_same : is_make (kind_at s.places m.place) ≡ true
        → needs t.rows (row_of (kind_at t.places m.right)) (row_of (kind_at t.places m.left))
        ≡ needs s.rows (row_of (kind_at s.places m.right)) (row_of (kind_at s.places m.left))
    rows_same is =
        let x = side_row s sound m.place m.left a.place is ka.within ka.stands met.left in
        let y = side_row s sound m.place m.right b.place is kb.within kb.stands met.right in
        let f = sound.room.targets in
        let g = sound.room.most_targets in
        (λ i. needs t.rows (row_same m.right right_within i) (row_same m.left left_within i))
        ∙ later.needs (row_of (kind_at s.places m.right)) (row_of (kind_at s.places m.left)) y (omega arith)

    judged_same : judged t m a.number b.number ≡ judged s m a.number b.number
    judged_same =
        (λ i. cond (make_sort (sort_same m.place place_within i)) (needs t.rows (row_of (kind_at t.places m.right)) (row_of (kind_at t.places m.left)))
        (ends_before (side_end t.places m.place m.left a.number) (side_start t.places m.place m.right b.number)))
        ∙ go (is_make (kind_at s.places m.place)) refl
      where
        go : (c : Bool) → is_make (kind_at s.places m.place) ≡ c
            → cond c (needs t.rows (row_of (kind_at t.places m.right)) (row_of (kind_at t.places m.left)))
            (ends_before (side_end t.places m.place m.left a.number) (side_start t.places m.place m.right b.number))
            ≡ cond c (needs s.rows (row_of (kind_at s.places m.right)) (row_of (kind_at s.places m.left)))
            (ends_before (side_end s.places m.place m.left a.number) (side_start s.places m.place m.right b.number))
        go true e = rows_same e
        go false e = sides_same e

  before_later : (a b : Timestamp) → known_in s a ≡ true → known_in s b ≡ true → before_in t a b ≡ before_in s a b
  before_later a b ea eb =
      let ka = known_parts s a ea in
      let kb = known_parts s b eb in
      let ta = known_later a ea ∙ sym ea in
      let tb = known_later b eb ∙ sym eb in
      let path = climb_kept (parents s.places) (parents t.places) sound.tree.earlier (length s.places) up_same a.place b.place ka.within kb.within in
      let same = ap (λ m. judged t m a.number b.number) path
      ∙ judged_same a b ka kb (climb (parents s.places) a.place b.place) (climb_meets (parents s.places) sound.tree.earlier a.place b.place) in
      λ i. ta i && (tb i && (nat_lt a.number b.number && same i))

  pub advanced : Advanced (meaning s) (meaning t)
  advanced = record { counted = later.number; known_stays = known_later; before_stays = before_later }
