-- A birth keeps what reachable states have: with its parent, or at a new step.
use Rattle.std.specs.Prelude.{◌≡◌, ℕ, ◌+◌, ◌<◌, ◌≤◌, Bool, true, false, cond, ◌⊎◌, List, [], ◌∷◌, ◌++◌, length, None, ◌==◌, ◌≢◌, slice_index, slice_index_or, refl}
use Rattle.std.proofs.Common.{inl, ⊎_elim, sym, ap, subst, ◌∙◌, arith}
use Rattle.std.proofs.lemmas.List.{length-map, length_push}
use Rattle.std.proofs.lemmas.Bool.{false≢true, cases_Bool, or_right}
use Rattle.order.specs.Meaning.{last_number}
use Rattle.births.specs.declared.Birth.{Birth}
use Rattle.makes.specs.declared.places.Place.{Place}
use Rattle.makes.specs.Machine.{Build, born_at}
use Rattle.makes.specs.Places.{Sort, session, make, target, step, make_sort, target_sort, stand_sort, is_make, is_stand, targets_of, start_of, end_of, one_more, place_at, kind_at, shape, shapes, shape_at, parents, counts, lives, starts, ends, stand, changed, birth_at}
use Rattle.makes.specs.Sound.{lasting, SoundTree, SoundTimes, SoundBirths, SoundSlots, Sound}
use Rattle.makes.specs.Tree.{up, line, holds}
use Rattle.makes.specs.Judging.{sort_is}
use Rattle.makes.specs.Later.{Later}
use Rattle.makes.specs.Lodgers.{lodger_counts, births_born}
use Rattle.makes.specs.Shapes.{changed_same, length_changed, above_make, make_shape}
use Rattle.makes.specs.Times.{times_born}
use Rattle.makes.specs.TreeLemmas.{holds_more, holds_decides, holds_le}
use Rattle.makes.specs.Views.{live_is, walked_at}
use Rattle.makes.specs.Walks.{up_at}

pub live_more : (b : Bool) (p : Place) → (cond b (one_more p) p).live ≡ cond b (p.live + 1) p.live
live_more true p = refl
live_more false p = refl

-- a parent's home: the session's, or that of a live process
abbrev pub ParentHome : Build → ℕ → Type 0
ParentHome s h = (h ≡ 0) ⊎ ((i : ℕ) × (i < length s.births) × ((birth_at s.births i).live ≡ true) × ((birth_at s.births i).at ≡ h))

-- A walk of one more from x: what is seen of the places after it.
module _ (ps : List Place) (x : ℕ) where
  pub more_shapes : shapes (changed one_more ps (line (parents ps) x)) ≡ shapes ps
  more_shapes = changed_same shape one_more (λ p. refl) ps (line (parents ps) x)

  pub more_counts : counts (changed one_more ps (line (parents ps) x)) ≡ counts ps
  more_counts = changed_same (λ (p : Place). targets_of p.kind) one_more (λ p. refl) ps (line (parents ps) x)

  pub more_starts : starts (changed one_more ps (line (parents ps) x)) ≡ starts ps
  more_starts = changed_same (λ (p : Place). start_of p.kind) one_more (λ p. refl) ps (line (parents ps) x)

  pub more_ends : ends (changed one_more ps (line (parents ps) x)) ≡ ends ps
  more_ends = changed_same (λ (p : Place). end_of p.kind) one_more (λ p. refl) ps (line (parents ps) x)

  pub more_lives : SoundTree (shapes ps) → x < length ps → (y : ℕ) → slice_index (lives (changed one_more ps (line (parents ps) x))) y ≡ cond (holds (parents ps) y x) (slice_index (lives ps) y + 1) (slice_index (lives ps) y)
  more_lives tree h y =
      live_is (changed one_more ps (line (parents ps) x)) y
      ∙ ap (λ (p : Place). p.live) (walked_at (parents ps) tree.earlier one_more y x ps h)
      ∙ live_more (holds (parents ps) y x) (place_at ps y)
      ∙ ap (λ l. cond (holds (parents ps) y x) (l + 1) l) (sym (live_is ps y))

stand_no_target : (k : Sort) → stand_sort k ≡ true → target_sort k ≡ false
stand_no_target session e = refl
stand_no_target make e = absurd (false≢true e)
stand_no_target target e = absurd (false≢true e)
stand_no_target step e = refl

pub neither_stands : (k : Sort) → make_sort k ≡ false → target_sort k ≡ false → stand_sort k ≡ true
neither_stands session m t = refl
neither_stands make m t = absurd (false≢true (sym m))
neither_stands target m t = absurd (false≢true (sym t))
neither_stands step m t = refl

-- Where a parent with this home stands, and who is counted there.
module _ (s : Build) (sound : Sound s) (h : ℕ) (parent : ParentHome s h) where
  pub home_within : h < length s.places
  home_within =
      let n = length-map s.places shape in
      ⊎_elim (λ e. let f = sound.tree.some in omega arith) (λ l. let f = sound.births.housed l.0 l.1 in let e = l.3 in omega arith) parent

  pub home_no_target : target_sort (shape_at (shapes s.places) h).sort ≡ false
  home_no_target =
      ⊎_elim
      (λ e. ap (λ y. target_sort (shape_at (shapes s.places) y).sort) e ∙ ap target_sort sound.tree.root)
      (λ l. ap (λ y. target_sort (shape_at (shapes s.places) y).sort) (sym l.3) ∙ sound.births.homely l.0 l.1)
      parent

  -- what lasts and holds the home has somebody
  pub home_peopled : (y : ℕ) → y < length (shapes s.places) → holds (parents s.places) y h ≡ true → lasting (shape_at (shapes s.places) y).sort ≡ true → 0 < slice_index (lives s.places) y
  home_peopled y w held lasts =
      ⊎_elim
      (λ e.
      let below = (holds_decides (parents s.places) sound.tree.earlier y 0).0 (ap (holds (parents s.places) y) (sym e) ∙ held) in
      let le = holds_le (parents s.places) sound.tree.earlier below in
      let zero_is : y ≡ 0 = omega arith in
      absurd (false≢true (sym (ap (λ z. lasting (shape_at (shapes s.places) z).sort) zero_is ∙ ap lasting sound.tree.root) ∙ lasts)))
      (λ l.
      let c = lodger_counts (parents s.places) s.births y l.0 l.1 l.2 (ap (holds (parents s.places) y) l.3 ∙ held) in
      let e = sound.births.live y w in
      omega arith)
      parent

  pub stand_of_make : is_make (kind_at s.places h) ≡ true → stand s.places h ≡ up (parents s.places) h
  stand_of_make e = ap (λ b. cond b (place_at s.places h).parent h) e ∙ sym (up_at s.places h)

  pub stand_of_other : is_make (kind_at s.places h) ≡ false → stand s.places h ≡ h
  stand_of_other e = ap (λ b. cond b (place_at s.places h).parent h) e

  above : is_make (kind_at s.places h) ≡ true → (0 < h) × (up (parents s.places) h < h) × (stand_sort (shape_at (shapes s.places) (up (parents s.places) h)).sort ≡ true)
  above e = let w = home_within in let n = length-map s.places shape in above_make (shapes s.places) sound.tree h (omega arith) (make_shape s.places h e)

  pub stand_within : stand s.places h < length s.places
  stand_within =
      let w = home_within in
      ⊎_elim
      (λ e. let a = (above e).1 in let b = stand_of_make e in omega arith)
      (λ e. let b = stand_of_other e in omega arith)
      (cases_Bool (is_make (kind_at s.places h)))

  pub stand_no_target_at : target_sort (shape_at (shapes s.places) (stand s.places h)).sort ≡ false
  stand_no_target_at =
      ⊎_elim
      (λ e. ap (λ y. target_sort (shape_at (shapes s.places) y).sort) (stand_of_make e) ∙ stand_no_target _ (above e).2)
      (λ e. ap (λ y. target_sort (shape_at (shapes s.places) y).sort) (stand_of_other e) ∙ home_no_target)
      (cases_Bool (is_make (kind_at s.places h)))

  -- a process stands at the session or a step
  pub stand_is_stand : is_stand (kind_at s.places (stand s.places h)) ≡ true
  stand_is_stand =
      ap stand_sort (sym (sort_is s sound (stand s.places h)))
      ∙ ⊎_elim
      (λ e. ap (λ y. stand_sort (shape_at (shapes s.places) y).sort) (stand_of_make e) ∙ (above e).2)
      (λ e. ap (λ y. stand_sort (shape_at (shapes s.places) y).sort) (stand_of_other e) ∙ neither_stands _ (ap make_sort (sort_is s sound h) ∙ e) home_no_target)
      (cases_Bool (is_make (kind_at s.places h)))

  -- what holds where the process stands holds its home
  stand_held : (y : ℕ) → holds (parents s.places) y (stand s.places h) ≡ true → holds (parents s.places) y h ≡ true
  stand_held y held =
      ⊎_elim
      (λ e. holds_more (parents s.places) sound.tree.earlier y h (above e).0 ∙ or_right (y == h) _ (ap (holds (parents s.places) y) (sym (stand_of_make e)) ∙ held))
      (λ e. ap (holds (parents s.places) y) (sym (stand_of_other e)) ∙ held)
      (cases_Bool (is_make (kind_at s.places h)))

  pub stand_peopled : (y : ℕ) → y < length (shapes s.places) → holds (parents s.places) y (stand s.places h) ≡ true → lasting (shape_at (shapes s.places) y).sort ≡ true → 0 < slice_index (lives s.places) y
  stand_peopled y w held lasts = home_peopled y w (stand_held y held) lasts

-- A process born where its parent stands.
module _ (s : Build) (sound : Sound s) (more : s.number + 1 ≤ last_number) (p h : ℕ) (parent : ParentHome s h) (room : length s.births < s.room.births)
    (nobody : (i : ℕ) → i < length s.births → (birth_at s.births i).live ≡ true → (birth_at s.births i).process ≢ p) where
  pub born_sound : Sound (born_at s p s.places (stand s.places h))
  born_sound =
      let ps = s.places in
      let x = stand s.places h in
      let after = changed one_more s.places (line (parents s.places) (stand s.places h)) in
      let b : Birth ℕ = record { process = p; at = stand s.places h; live = true } in
      let within = stand_within s sound h parent in
      let n = length-map s.places shape in
      let at = more_lives ps x sound.tree within in
      let lb = length_push s.births b in
      let lp = length_changed one_more ps (line (parents ps) x) in
      let rp = sound.room.places in
      record {
        number = more;
        tree = subst SoundTree (sym (more_shapes ps x)) sound.tree;
        times =
            subst (λ ts. SoundTimes (s.number + 1) ts (lives after) (starts after) (ends after)) (sym (more_shapes ps x))
            (subst (λ ss. SoundTimes (s.number + 1) (shapes ps) (lives after) ss (ends after)) (sym (more_starts ps x))
            (subst (λ es. SoundTimes (s.number + 1) (shapes ps) (lives after) (starts ps) es) (sym (more_ends ps x))
            (times_born s.number (shapes ps) (lives ps) (lives after) (starts ps) (ends ps) sound.times x (λ y w. at y) (stand_peopled s sound h parent))));
        births =
            subst (λ ts. SoundBirths (s.births ++ b ∷ []) ts (lives after)) (sym (more_shapes ps x))
            (births_born (shapes ps) s.births (lives ps) (lives after) sound.births p x (omega arith) (stand_no_target_at s sound h parent) nobody (λ y w. at y));
        rows = sound.rows;
        slots =
            subst (λ ts. SoundSlots ts (counts after) s.makes (length s.rows) s.room.targets s.slots) (sym (more_shapes ps x))
            (subst (λ cs. SoundSlots (shapes ps) cs s.makes (length s.rows) s.room.targets s.slots) (sym (more_counts ps x)) sound.slots);
        room = record {
          births = omega arith;
          makes = sound.room.makes;
          targets = sound.room.targets;
          most_births = sound.room.most_births;
          most_makes = sound.room.most_makes;
          most_targets = sound.room.most_targets;
          slots = sound.room.slots;
          places = omega arith;
        };
      }

  pub born_later : Later s (born_at s p s.places (stand s.places h))
  born_later =
      let ps = s.places in
      let x = stand s.places h in
      record {
        number = refl;
        longer = let lp = length_changed one_more ps (line (parents ps) x) in omega arith;
        shape = λ y w. ap (λ ts. shape_at ts y) (more_shapes ps x);
        starts = λ y k w e. ap (λ ss. slice_index_or ss y None) (more_starts ps x) ∙ e;
        ends = λ y w. inl (ap (λ es. slice_index_or es y None) (more_ends ps x));
        needs = λ r u w j. refl;
      }
