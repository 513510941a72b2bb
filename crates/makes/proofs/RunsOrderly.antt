-- Over a run, processes, places, starts and ends are in order.
use Rattle.std.proofs.Common.{◌≡◌, ℕ, ◌<◌, ◌≤◌, true, eqb, ◌⊎◌, List, length, get_or, is_some, Some, None, Decides, count_by, sym, refl, ap, ◌∙◌, subst, inl, inr, ⊎_elim, arith}
use Rattle.std.proofs.lemmas.Option.{same_Some}
use Rattle.std.proofs.lemmas.List.{length-map, get_or_past}
use Rattle.std.proofs.lemmas.Bool.{false≢true, eqb-true, eq-eqb, cases_eq, cases_lt, cases_Bool}
use Rattle.order.specs.Runs.{Call, Alive}
use Rattle.makes.specs.declared.places.Place.{Place}
use Rattle.makes.specs.Machine.{Build, lives_in}
use Rattle.makes.specs.Places.{Sort, session, make as a_make, target as a_target, step, make_sort, stand_sort, is_make, is_stand, targets_of, kind_at, shapes, shape_at, parents, counts, lives, starts, ends, stand, birth_at}
use Rattle.makes.specs.Runs.{sorts_in, sort_in, next_place, place_in, make_in, targets_in, parents_in, Peopled, Starts, Ended, Orderly}
use Rattle.makes.specs.Sound.{fits_below, lasting, TargetOf}
use Rattle.makes.specs.Tree.{up, Holds, line, levels}
use Rattle.makes.specs.Entries.{stand_within, stand_is_stand}
use Rattle.makes.specs.Found.{live_decides}
use Rattle.makes.specs.Judging.{sort_is, stand_step, held_started}
use Rattle.makes.specs.Later.{step_started, some_of, up_shape}
use Rattle.makes.proofs.Asked.{targets_make}
use Rattle.makes.proofs.RunsPeopled.{own_home, found_placed, found_made, stand_above, peopled_to, peopled_from}
use Rattle.makes.proofs.RunsPlaces.{size, sort_told, found_stands}
use Rattle.makes.proofs.RunsWhole.{Whole}
use Rattle.makes.specs.Shapes.{in_shapes, count_is, levels_few, is_make_sort, make_shape}
use Rattle.makes.specs.Views.{start_is}

session_lasts_not : (k : Sort) → k ≡ session → lasting k ≡ true → ⊥
session_lasts_not k e l = false≢true (sym (ap lasting e) ∙ l)

module _ {calls : List Call} {s : Build} (w : Whole calls s) where
  -- where processes stand is the session or a step
  pub stand_told : (x : ℕ) → x < length s.places → is_stand (kind_at s.places x) ≡ true → (x ≡ 0) ⊎ (sort_in calls x ≡ step)
  stand_told x within stands =
      ⊎_elim inl
      (λ ne. inr (sort_told w.follows w.sound x ∙ stand_step s w.sound x (omega arith) (in_shapes s.places within) (ap stand_sort (sort_is s w.sound x) ∙ stands)))
      (cases_eq x 0)

  -- what has a sort that lasts is in the table
  lasting_within : (x : ℕ) → lasting (sort_in calls x) ≡ true → x < length s.places
  lasting_within x l =
      let n = size w.follows w.sound in
      ⊎_elim (λ h. h) (λ past. absurd (session_lasts_not (sort_in calls x) (get_or_past (sorts_in calls) x session (omega arith)) l)) (cases_lt x (length s.places))

  lasts : (x : ℕ) → lasting (sort_in calls x) ≡ true → lasting (shape_at (shapes s.places) x).sort ≡ true
  lasts x l = ap lasting (sym (sort_told w.follows w.sound x)) ∙ l

  stands_at : (p x : ℕ) → place_in calls p ≡ Some x → (x ≡ 0) ⊎ (sort_in calls x ≡ step)
  stands_at p x e =
      let f = found_placed w.follows w.sound e in
      let h = (birth_at s.births f.0).at in
      let at = same_Some _ _ (sym (found_stands w.follows w.sound f.1).place ∙ e) in
      let lodged = inr (f.0, f.1.within, f.1.live, refl) in
      subst (λ y. (y ≡ 0) ⊎ (sort_in calls y ≡ step)) at (stand_told (stand s.places h) (stand_within s w.sound h lodged) (stand_is_stand s w.sound h lodged))

  owned_at : (p m : ℕ) → make_in calls p ≡ Some m → (sort_in calls m ≡ a_make) × (place_in calls p ≡ Some (up (parents_in calls) m))
  owned_at p m e =
      let f = found_made w.follows w.sound e in
      let h = (birth_at s.births f.0).at in
      let st = found_stands w.follows w.sound f.1 in
      let at = own_home (is_make (kind_at s.places h)) h m (sym st.own ∙ e) in (
        sort_told w.follows w.sound m ∙ is_make_sort _ (ap (λ y. make_sort (shape_at (shapes s.places) y).sort) (sym at.1) ∙ ap make_sort (sort_is s w.sound h) ∙ at.0),
        st.place ∙ ap Some (stand_above w.follows w.sound h at.0 ∙ ap (up (parents s.places)) at.1 ∙ ap (λ us. up us m) w.follows.tree),
      )

  targets_at : (m k : ℕ) → k < length (targets_in calls m) → (sort_in calls (get_or (targets_in calls m) k 0) ≡ a_target) × (up (parents_in calls) (get_or (targets_in calls m) k 0) ≡ m)
  targets_at m k low =
      let n = w.follows.declared m in
      let c = count_is s.places m in
      let l = length-map s.places (λ (y : Place). targets_of y.kind) in
      let within : m < length s.places =
      ⊎_elim (λ h. h) (λ past. let z = get_or_past (counts s.places) m 0 (omega arith) in absurd (omega arith)) (cases_lt m (length s.places)) in
      let sort = make_shape s.places m (targets_make (kind_at s.places m) (omega arith)) in
      let t = subst (TargetOf (shapes s.places) m) (w.follows.slotted m k within sort (omega arith)) (w.sound.slots.slotted m k (in_shapes s.places within) sort (omega arith)) in
      let y = get_or (targets_in calls m) k 0 in
      (sort_told w.follows w.sound y ∙ t.sort, ap (λ us. up us y) (sym w.follows.tree) ∙ up_shape s.places y ∙ t.parent)

  fits_at : (x : ℕ) → 0 < x → x < next_place calls → fits_below (sort_in calls x) (sort_in calls (up (parents_in calls) x)) ≡ true
  fits_at x p low =
      let n = size w.follows w.sound in
      (λ i. fits_below (sort_told w.follows w.sound x i) (sort_in calls (up (sym w.follows.tree i) x)))
      ∙ ap (fits_below (shape_at (shapes s.places) x).sort) (sort_told w.follows w.sound (up (parents s.places) x))
      ∙ w.sound.tree.fitting x p (in_shapes s.places (omega arith))

  shallow_at : (x : ℕ) → x < next_place calls → (count_by (λ y. make_sort (sort_in calls y)) (line (parents_in calls) x) ≤ 16) × (levels (parents_in calls) x ≤ 48)
  shallow_at x low =
      let n = size w.follows w.sound in
      let within : x < length (shapes s.places) = in_shapes s.places (omega arith) in
      let same : count_by (λ y. make_sort (sort_in calls y)) (line (parents s.places) x) ≡ count_by (λ y. make_sort (shape_at (shapes s.places) y).sort) (line (parents s.places) x) = λ i. count_by (λ y. make_sort (sort_told w.follows w.sound y i)) (line (parents s.places) x) in
      let makes = same ∙ w.sound.tree.deep x within in
      let few = w.sound.tree.shallow x within in (
        subst (λ us. count_by (λ y. make_sort (sort_in calls y)) (line us x) ≤ 16) w.follows.tree (omega arith),
        subst (λ us. levels us x ≤ 48) w.follows.tree (levels_few (shapes s.places) w.sound.tree x within),
      )

  started_at : (x y : ℕ) → Holds (parents_in calls) x y → lasting (sort_in calls x) ≡ true → sort_in calls y ≡ step → (n : ℕ) × Starts x calls n
  started_at x y held l is-step =
      let r = some_of (get_or (starts s.places) x None) (by_sort (shape_at (shapes s.places) x).sort refl) in
      (r.0, w.timed.starts_to x r.0 r.1)
    where
      by_sort : (k : Sort) → (shape_at (shapes s.places) x).sort ≡ k → is_some (get_or (starts s.places) x None) ≡ true
      by_sort session e = absurd (session_lasts_not _ (sort_told w.follows w.sound x ∙ e) l)
      by_sort a_make e =
          held_started s w.sound x y (subst (λ us. Holds us x y) (sym w.follows.tree) held) e
          (in_shapes s.places (lasting_within y (ap lasting is-step))) (ap stand_sort (sym (sort_told w.follows w.sound y) ∙ is-step))
      by_sort a_target e = absurd (false≢true (sym (ap lasting (sort_told w.follows w.sound x ∙ e)) ∙ l))
      by_sort step e = ap is_some (start_is s.places x) ∙ step_started (kind_at s.places x) (sym (sort_is s w.sound x) ∙ e)

  -- ended exactly if the count is 0
  over_at : (x : ℕ) → lasting (sort_in calls x) ≡ true → is_some (get_or (ends s.places) x None) ≡ eqb (get_or (lives s.places) x 0) 0
  over_at x l = w.sound.times.over x (in_shapes s.places (lasting_within x l)) (lasts x l)

  ended_or_peopled : (x : ℕ) → lasting (sort_in calls x) ≡ true → ((n : ℕ) × Ended x calls n) ⊎ Peopled calls x
  ended_or_peopled x l =
      ⊎_elim
      (λ z. let r = some_of _ (over_at x l ∙ eq-eqb _ 0 z) in inl (r.0, w.timed.ends_to x r.0 r.1))
      (λ ne. inr (peopled_to w.follows w.sound x (lasting_within x l) (omega arith)))
      (cases_eq (get_or (lives s.places) x 0) 0)

  ended_unpeopled : (x n : ℕ) → lasting (sort_in calls x) ≡ true → Ended x calls n → Peopled calls x → ⊥
  ended_unpeopled x n l e on =
      let some = peopled_from w.follows w.sound x on in
      let none_left = eqb-true _ 0 (sym (over_at x l) ∙ ap is_some (w.timed.ends_from x n (lasts x l) e)) in
      omega arith

  pub orderly : ((p : ℕ) → Decides (lives_in s p) (Alive p calls)) → Orderly calls
  orderly living = record {
    placed = λ p. (
      λ e. (living p).0 (⊎_elim (λ h. h) (λ dead. absurd (false≢true (sym (ap is_some (w.follows.nobody p dead).0) ∙ e))) (cases_Bool (lives_in s p))),
      λ a. let f = (live_decides s.births p).0 ((living p).1 a) in ap is_some (found_stands w.follows w.sound f.1).place,
    );
    stands = stands_at;
    owned = owned_at;
    targets = targets_at;
    fits = fits_at;
    shallow = shallow_at;
    started = started_at;
    once_started = λ x n k a b. same_Some _ _ (sym (w.timed.starts_from x n a) ∙ w.timed.starts_from x k b);
    once_ended = λ x n k l a b. same_Some _ _ (sym (w.timed.ends_from x n (lasts x l) a) ∙ w.timed.ends_from x k (lasts x l) b);
    forward = λ x n k l a b. w.sound.times.forward x n k (w.timed.starts_from x n a) (w.timed.ends_from x k (lasts x l) b);
    over = ended_or_peopled;
    never_again = ended_unpeopled;
  }
