-- Over a run, a place's count is not 0 exactly if somebody lives at or below it, or is the make that it is.
use Rattle.std.proofs.Common.{◌≡◌, ℕ, ◌<◌, Bool, true, false, cond, List, length, get_or, Some, None, sym, refl, ap, ◌∙◌, subst, ⊎_elim, arith}
use Rattle.std.proofs.lemmas.Option.{none-some, same_Some}
use Rattle.std.proofs.lemmas.List.{length-map}
use Rattle.std.proofs.lemmas.Bool.{and_parts, cond-true, cond-false, cases_Bool}
use Rattle.order.specs.Runs.{Call}
use Rattle.makes.specs.Machine.{Build, lives_in}
use Rattle.makes.specs.Places.{is_make, kind_at, shape, shapes, parents, lives, stand, birth_at}
use Rattle.makes.specs.Runs.{place_in, make_in, parents_in, Peopled, below, own}
use Rattle.makes.specs.Sound.{counts_at, Sound}
use Rattle.makes.specs.Tree.{up, Holds, itself, under}
use Rattle.makes.specs.Found.{Found, live_decides}
use Rattle.makes.specs.Law.{counted_some}
use Rattle.makes.specs.Lodgers.{lodger_counts}
use Rattle.makes.proofs.RunsPlaces.{Standing, Follows, found_stands, housed}
use Rattle.makes.specs.Shapes.{in_shapes, above_make, make_shape}
use Rattle.makes.specs.TreeLemmas.{holds_decides, holds_le, holds_split}
use Rattle.makes.specs.Walks.{up_at}

-- a process's own make is its home
pub own_home : (b : Bool) (h x : ℕ) → cond b (Some h) None ≡ Some x → (b ≡ true) × (h ≡ x)
own_home true h x e = (refl, same_Some _ _ e)
own_home false h x e = absurd (none-some _ e)

module _ {calls : List Call} {s : Build} (f : Follows calls s) (sound : Sound s) where
  -- what the calls tell of a live process, they tell of one that lives
  pub found_placed : {p y : ℕ} → place_in calls p ≡ Some y → (i : ℕ) × Found s.births p i
  found_placed {p} e = ⊎_elim (live_decides s.births p).0 (λ dead. absurd (none-some _ (sym (f.nobody p dead).0 ∙ e))) (cases_Bool (lives_in s p))

  pub found_made : {p y : ℕ} → make_in calls p ≡ Some y → (i : ℕ) × Found s.births p i
  found_made {p} e = ⊎_elim (live_decides s.births p).0 (λ dead. absurd (none-some _ (sym (f.nobody p dead).1 ∙ e))) (cases_Bool (lives_in s p))

  -- where a make's process stands is right above it
  pub stand_above : (h : ℕ) → is_make (kind_at s.places h) ≡ true → stand s.places h ≡ up (parents s.places) h
  stand_above h makes = cond-true (is_make (kind_at s.places h)) _ _ makes ∙ sym (up_at s.places h)

  stand_itself : (h : ℕ) → is_make (kind_at s.places h) ≡ false → stand s.places h ≡ h
  stand_itself h other = cond-false (is_make (kind_at s.places h)) _ _ other

  stand_holds : (x h : ℕ) → h < length s.places → Holds (parents s.places) x (stand s.places h) → Holds (parents s.places) x h
  stand_holds x h w held =
      ⊎_elim
      (λ makes.
      let sort = make_shape s.places h makes in
      under (above_make (shapes s.places) sound.tree h (in_shapes s.places w) sort).0 (subst (Holds (parents s.places) x) (stand_above h makes) held))
      (λ other. subst (Holds (parents s.places) x) (stand_itself h other) held)
      (cases_Bool (is_make (kind_at s.places h)))

  told_holds : {x y : ℕ} → Holds (parents s.places) x y → Holds (parents_in calls) x y
  told_holds {x} {y} h = subst (λ us. Holds us x y) f.tree h

  state_holds : {x y : ℕ} → Holds (parents_in calls) x y → Holds (parents s.places) x y
  state_holds {x} {y} h = subst (λ us. Holds us x y) (sym f.tree) h

  -- a birth at or below a place, by its home
  home_peoples : (x p h : ℕ) → Standing calls s.places p h → Holds (parents s.places) x h → Peopled calls x
  home_peoples x p h st held =
      ⊎_elim
      (λ makes.
      ⊎_elim
      (λ e. own p (st.own ∙ cond-true (is_make (kind_at s.places h)) _ _ makes ∙ ap Some (sym e)))
      (λ on. below p (st.place ∙ ap Some (stand_above h makes)) (told_holds on.1))
      (holds_split held))
      (λ other. below p (st.place ∙ ap Some (stand_itself h other)) (told_holds held))
      (cases_Bool (is_make (kind_at s.places h)))

  pub peopled_to : (x : ℕ) → x < length s.places → 0 < get_or (lives s.places) x 0 → Peopled calls x
  peopled_to x w some =
      let l = sound.births.live x (in_shapes s.places w) in
      let r = counted_some (counts_at (parents s.places) x) s.births (omega arith) in
      let p = and_parts (birth_at s.births r.0).live _ r.2 in
      home_peoples x (birth_at s.births r.0).process (birth_at s.births r.0).at (f.living r.0 r.1 p.0)
      ((holds_decides (parents s.places) sound.tree.earlier x (birth_at s.births r.0).at).0 p.1)

  -- who peoples a place has a home there
  pub peopled_home : (x : ℕ) → Peopled calls x → (i : ℕ) × (i < length s.births) × ((birth_at s.births i).live ≡ true) × Holds (parents s.places) x (birth_at s.births i).at
  peopled_home x (below p {y} e held) =
      let w = found_placed e in
      let h = (birth_at s.births w.0).at in
      let at = same_Some _ _ (sym (found_stands f sound w.1).place ∙ e) in
      (w.0, w.1.within, w.1.live, stand_holds x h (housed f sound w.1) (subst (Holds (parents s.places) x) (sym at) (state_holds held)))
  peopled_home x (own p e) =
      let w = found_made e in
      let h = (birth_at s.births w.0).at in
      let at = own_home (is_make (kind_at s.places h)) h x (sym (found_stands f sound w.1).own ∙ e) in
      (w.0, w.1.within, w.1.live, subst (λ z. Holds (parents s.places) z h) at.1 itself)

  pub peopled_within : (x : ℕ) → Peopled calls x → x < length s.places
  peopled_within x on =
      let r = peopled_home x on in
      let le = holds_le (parents s.places) sound.tree.earlier r.3 in
      let w = sound.births.housed r.0 r.1 in
      let z = length-map s.places shape in
      omega arith

  pub peopled_from : (x : ℕ) → Peopled calls x → 0 < get_or (lives s.places) x 0
  peopled_from x on =
      let r = peopled_home x on in
      let w = peopled_within x on in
      let l = sound.births.live x (in_shapes s.places w) in
      let c = lodger_counts (parents s.places) s.births x r.0 r.1 r.2 ((holds_decides (parents s.places) sound.tree.earlier x (birth_at s.births r.0).at).1 r.3) in
      omega arith
