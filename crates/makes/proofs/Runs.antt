-- The make order over whole runs: its answers are what the calls tell.
use Rattle.std.proofs.Common.{◌≡◌, ℕ, ◌+◌, ◌<◌, true, false, eqb, ◌⊎◌, List, length, IfOk, Some, Ok, Err, Decides, Result, sym, refl, ap, ◌∙◌, subst, inl, inr, ⊎_elim, arith}
use Rattle.std.proofs.lemmas.Option.{same_Some}
use Rattle.std.proofs.lemmas.List.{length-map, get_or_past}
use Rattle.std.proofs.lemmas.Result.{IfOk-at_ok}
use Rattle.std.proofs.lemmas.Bool.{false≢true, eq-eqb, ne_eqb, cond-true, cond-false, cases_eq, cases_lt}
use Rattle.faults.specs.declared.OrderFault.{OrderFault}
use Rattle.order.proofs.Runs.{ran_lives}
use Rattle.order.specs.declared.Timestamp.{Timestamp}
use Rattle.order.specs.Machine.{Stamps}
use Rattle.order.specs.Runs.{Call, Alive}
use Rattle.makes.specs.declared.climb.Meeting.{Meeting}
use Rattle.makes.specs.Machine.{Build, start, found, lives_in, stamp_make_order, known_in, before_in, judged, side_start, side_end}
use Rattle.makes.specs.Order.{make_machine}
use Rattle.makes.specs.Places.{Sort, session, make as a_make, target as a_target, step, make_sort, stand_sort, is_make, is_stand, kind_at, shape, shapes, shape_at, parents}
use Rattle.makes.specs.Rows.{needs}
use Rattle.makes.specs.Runs.{SinceStart, sorts_in, sort_in, place_in, Known, SideStarts, SideEnds, SidesApart, Rule, Before, Orderly}
use Rattle.makes.specs.Sound.{fits_below, lasting}
use Rattle.makes.specs.Tree.{Meets, climb}
use Rattle.makes.specs.Found.{found_tells}
use Rattle.makes.specs.Judging.{sort_is, row_is, ends_parts, ends_from as ends_before_from, below_make, side_target}
use Rattle.makes.specs.Law.{make_right}
use Rattle.makes.specs.Lawful.{KnownParts, known_parts, known_from, before_parts, before_from}
use Rattle.makes.proofs.RunsPlaces.{sort_told, size, found_stands}
use Rattle.makes.proofs.RunsRows.{TargetPlace, prerequisite_rows}
use Rattle.makes.proofs.Starts.{new_sound}
use Rattle.makes.specs.Shapes.{in_shapes, session_step}
use Rattle.makes.specs.TreeLemmas.{climb_meets, meets_only, branch_apart, holds_le}
use Rattle.makes.specs.Views.{start_is, end_is}
use Rattle.makes.proofs.RunsOrderly.{stand_told, orderly}
use Rattle.makes.proofs.RunsWhole.{Whole, Stamped, stamped, whole}

-- below what is no make stands what starts and ends
below_lasts : (child above : Sort) → fits_below child above ≡ true → make_sort above ≡ false → lasting child ≡ true
below_lasts session above f m = absurd (false≢true f)
below_lasts a_make above f m = refl
below_lasts a_target above f m = absurd (false≢true (sym m ∙ f))
below_lasts step above f m = refl

target_no_stand : (k : Sort) → k ≡ a_target → stand_sort k ≡ true → ⊥
target_no_stand session e s = cc
target_no_stand a_make e s = false≢true s
target_no_stand a_target e s = false≢true s
target_no_stand step e s = cc

module _ {calls : List Call} {s : Build} (w : Whole calls s) where
  -- known, by the place's sort
  placed_from : (x : ℕ) → (x ≡ 0) ⊎ (sort_in calls x ≡ step) → (x < length s.places) × (is_stand (kind_at s.places x) ≡ true)
  placed_from x (inl e) =
      let z = length-map s.places shape in
      let o = w.sound.tree.some in
      (omega arith, ap (λ y. is_stand (kind_at s.places y)) e ∙ ap stand_sort (sym (sort_is s w.sound 0) ∙ w.sound.tree.root))
  placed_from x (inr e) =
      let n = size w.follows w.sound in (
        ⊎_elim (λ h. h) (λ past. absurd (session_step (sym (get_or_past (sorts_in calls) x session (omega arith)) ∙ e))) (cases_lt x (length s.places)),
        ap stand_sort (sym (sort_is s w.sound x) ∙ sym (sort_told w.follows w.sound x) ∙ e),
      )

  known_whole : (a : Timestamp) → Decides (known_in s a) (Known calls a)
  known_whole a =
      let n = w.follows.counted in (
        λ e. let k = known_parts s a e in record { from_one = k.from_one; counted = let g = k.given in omega arith; placed = stand_told w a.place k.within k.stands },
        λ k. let p = placed_from a.place k.placed in known_from s a (record { from_one = k.from_one; given = let c = k.counted in omega arith; within = p.0; stands = p.1 }),
      )

  -- The start and the end of a side.
  side_start_to : (c x n k : ℕ) → side_start s.places c x n ≡ Some k → SideStarts calls c x n k
  side_start_to c x n k e =
      ⊎_elim
      (λ here. inl (here, same_Some _ _ (sym e ∙ cond-true (eqb x c) _ _ (eq-eqb x c here))))
      (λ ne. inr (ne, w.timed.starts_to x k (start_is s.places x ∙ sym (cond-false (eqb x c) _ _ (ne_eqb x c ne)) ∙ e)))
      (cases_eq x c)

  side_start_from : (c x n k : ℕ) → SideStarts calls c x n k → side_start s.places c x n ≡ Some k
  side_start_from c x n k (inl e) = cond-true (eqb x c) _ _ (eq-eqb x c e.0) ∙ ap Some (sym e.1)
  side_start_from c x n k (inr e) = cond-false (eqb x c) _ _ (ne_eqb x c e.0) ∙ sym (start_is s.places x) ∙ w.timed.starts_from x k e.1

  side_end_to : (c x n k : ℕ) → side_end s.places c x n ≡ Some k → SideEnds calls c x n k
  side_end_to c x n k e =
      ⊎_elim
      (λ here. inl (here, same_Some _ _ (sym e ∙ cond-true (eqb x c) _ _ (eq-eqb x c here))))
      (λ ne. inr (ne, w.timed.ends_to x k (end_is s.places x ∙ sym (cond-false (eqb x c) _ _ (ne_eqb x c ne)) ∙ e)))
      (cases_eq x c)

  side_end_from : (c x n k : ℕ) → ((x ≡ c → ⊥) → lasting (shape_at (shapes s.places) x).sort ≡ true) → SideEnds calls c x n k → side_end s.places c x n ≡ Some k
  side_end_from c x n k lasts (inl e) = cond-true (eqb x c) _ _ (eq-eqb x c e.0) ∙ ap Some (sym e.1)
  side_end_from c x n k lasts (inr e) = cond-false (eqb x c) _ _ (ne_eqb x c e.0) ∙ sym (end_is s.places x) ∙ w.timed.ends_from x k (lasts e.0) e.1

  -- Two known timestamps that meet.
  module _ (a b : Timestamp) (ka : KnownParts s a) (kb : KnownParts s b) (m : Meeting) (meets : Meets (parents s.places) a.place b.place m) where
    is_make_at : (k : Sort) → (shape_at (shapes s.places) m.place).sort ≡ k → is_make (kind_at s.places m.place) ≡ make_sort k
    is_make_at k e = ap make_sort (sym (sort_is s w.sound m.place) ∙ e)

    -- where the meeting place is no make
    sides_to : is_make (kind_at s.places m.place) ≡ false → judged s m a.number b.number ≡ true → SidesApart calls m a.number b.number
    sides_to no_make j =
        let p = ends_parts _ _ (sym (cond-false (is_make (kind_at s.places m.place)) _ _ no_make) ∙ j) in
        (p.0, p.1, side_end_to m.place m.left a.number p.0 p.2, side_start_to m.place m.right b.number p.1 p.3, p.4)

    left_lasts : is_make (kind_at s.places m.place) ≡ false → (m.left ≡ m.place → ⊥) → lasting (shape_at (shapes s.places) m.left).sort ≡ true
    left_lasts no_make ne =
        ⊎_elim
        (λ here. absurd (ne here.0))
        (λ br.
        let le = holds_le (parents s.places) w.sound.tree.earlier br.holds in
        let wa = ka.within in
        below_lasts _ _ (w.sound.tree.fitting m.left br.below (in_shapes s.places (omega arith)))
        (ap (λ x. make_sort (shape_at (shapes s.places) x).sort) br.parent ∙ ap make_sort (sort_is s w.sound m.place) ∙ no_make))
        meets.left

    sides_from : is_make (kind_at s.places m.place) ≡ false → SidesApart calls m a.number b.number → judged s m a.number b.number ≡ true
    sides_from no_make r =
        cond-false (is_make (kind_at s.places m.place)) _ _ no_make
        ∙ ends_before_from _ _ r.0 r.1 (side_end_from m.place m.left a.number r.0 (left_lasts no_make) r.2) (side_start_from m.place m.right b.number r.1 r.3) r.4

    -- below a make the sides are targets
    left_target : is_make (kind_at s.places m.place) ≡ true → TargetPlace s m.left
    left_target makes =
        let t = below_make s w.sound m.place m.left a.place makes ka.within (side_target s w.sound m.place m.left a.place makes ka.within ka.stands meets.left) in
        record { within = let z = length-map s.places shape in let l = t.0 in omega arith; sort = t.1 }

    right_target : is_make (kind_at s.places m.place) ≡ true → TargetPlace s m.right
    right_target makes =
        let t = below_make s w.sound m.place m.right b.place makes kb.within (side_target s w.sound m.place m.right b.place makes kb.within kb.stands meets.right) in
        record { within = let z = length-map s.places shape in let l = t.0 in omega arith; sort = t.1 }

    -- below a target no side is the target itself
    left_other : (shape_at (shapes s.places) m.place).sort ≡ a_target → m.left ≡ m.place → ⊥
    left_other is_target e =
        ⊎_elim
        (λ here. target_no_stand _ (ap (λ x. (shape_at (shapes s.places) x).sort) here.1 ∙ is_target) (ap stand_sort (sort_is s w.sound a.place) ∙ ka.stands))
        (λ br. branch_apart (parents s.places) w.sound.tree.earlier br e)
        meets.left

    right_other : (shape_at (shapes s.places) m.place).sort ≡ a_target → m.right ≡ m.place → ⊥
    right_other is_target e =
        ⊎_elim
        (λ here. target_no_stand _ (ap (λ x. (shape_at (shapes s.places) x).sort) here.1 ∙ is_target) (ap stand_sort (sort_is s w.sound b.place) ∙ kb.stands))
        (λ br. branch_apart (parents s.places) w.sound.tree.earlier br e)
        meets.right

    rule_to : (k : Sort) → (shape_at (shapes s.places) m.place).sort ≡ k → judged s m a.number b.number ≡ true → Rule k calls m a.number b.number
    rule_to session e j = sides_to (is_make_at session e) j
    rule_to step e j = sides_to (is_make_at step e) j
    rule_to a_make e j =
        let makes = is_make_at a_make e in
        w.rowed.told m.right m.left (record {
          first = right_target makes;
          second = left_target makes;
          needed = (λ i. needs s.rows (row_is s w.sound m.right i) (row_is s w.sound m.left i)) ∙ sym (cond-true (is_make (kind_at s.places m.place)) _ _ makes) ∙ j;
        })
    rule_to a_target e j =
        let r = sides_to (is_make_at a_target e) j in
        (r.0, r.1, ⊎_elim (λ here. absurd (left_other e here.0)) (λ away. away.1) r.2, ⊎_elim (λ here. absurd (right_other e here.0)) (λ away. away.1) r.3, r.4)

    rule_from : (k : Sort) → (shape_at (shapes s.places) m.place).sort ≡ k → Rule k calls m a.number b.number → judged s m a.number b.number ≡ true
    rule_from session e r = sides_from (is_make_at session e) r
    rule_from step e r = sides_from (is_make_at step e) r
    rule_from a_make e r =
        let makes = is_make_at a_make e in
        cond-true (is_make (kind_at s.places m.place)) _ _ makes
        ∙ sym (λ i. needs s.rows (row_is s w.sound m.right i) (row_is s w.sound m.left i))
        ∙ (prerequisite_rows s w.sound w.rowed m.left m.right r).needed
    rule_from a_target e r = sides_from (is_make_at a_target e) (r.0, r.1, inr (left_other e, r.2), inr (right_other e, r.3), r.4)

  before_whole : (a b : Timestamp) → Decides (before_in s a b) (Before calls a b)
  before_whole a b =
      let met = climb_meets (parents s.places) w.sound.tree.earlier a.place b.place in
      let at = climb (parents s.places) a.place b.place in (
        λ e.
            let h = before_parts s a b e in
            let c = (climb (parents s.places) a.place b.place).place in
            record {
              first = (known_whole a).0 h.first;
              second = (known_whole b).0 h.second;
              lower = h.lower;
              meeting = climb (parents s.places) a.place b.place;
              meets = subst (λ vs. Meets vs a.place b.place (climb (parents s.places) a.place b.place)) w.follows.tree met;
              rule = rule_to a b (known_parts s a h.first) (known_parts s b h.second) (climb (parents s.places) a.place b.place) met (sort_in calls c) (sym (sort_told w.follows w.sound c)) h.judgement;
            },
        λ h.
            let ka = (known_whole a).1 h.first in
            let kb = (known_whole b).1 h.second in
            let meets = subst (λ vs. Meets vs a.place b.place h.meeting) (sym w.follows.tree) h.meets in
            let same = meets_only (parents s.places) w.sound.tree.earlier met meets in
            before_from s a b (record {
              first = ka;
              second = kb;
              lower = h.lower;
              judgement =
                  ap (λ z. judged s z a.number b.number) same
                  ∙ rule_from a b (known_parts s a ka) (known_parts s b kb) h.meeting meets (sort_in calls h.meeting.place) (sym (sort_told w.follows w.sound h.meeting.place)) h.rule;
            }),
      )

-- The answers, over the calls since the start.
module _ (calls : List Call) (s : Build) (since : SinceStart calls s) where
  all_told : Whole calls s
  all_told = whole since.0 since.1

  pub lives_run : (p : ℕ) → Decides (lives_in s p) (Alive p calls)
  lives_run = ran_lives make_machine make_right (start since.0) (new_sound since.0) (λ _. refl) since.1

  pub orderly_run : Orderly calls
  orderly_run = orderly all_told lives_run

  pub number_run : s.number ≡ length calls
  number_run = all_told.follows.counted

  pub known_run : (a : Timestamp) → Decides (known_in s a) (Known calls a)
  known_run = known_whole all_told

  pub before_run : (a b : Timestamp) → Decides (before_in s a b) (Before calls a b)
  before_run = before_whole all_told

  pub stamp_run : (p : ℕ) (r : Result Timestamp OrderFault) (t : Build) → Stamps (stamp_make_order s p) r s t → IfOk r (λ k. (k.number ≡ length calls + 1) × (place_in calls p ≡ Some k.place))
  stamp_run p (Err f) t h = tt
  stamp_run p (Ok k) t h =
      let w = all_told in
      let said = IfOk-at_ok (Stamped s p) h (stamped s w.sound p (found s p) (found_tells s.births p)) in
      (said.number ∙ ap (λ n. n + 1) w.follows.counted, (found_stands w.follows w.sound said.lives).place ∙ ap Some (sym said.place))
