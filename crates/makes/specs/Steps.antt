-- A birth at a new step keeps what reachable states have.
use Rattle.std.specs.Prelude.{◌≡◌, ℕ, ◌+◌, ◌-◌, ◌*◌, ◌<◌, ◌≤◌, true, false, cond, ◌||◌, ◌⊎◌, List, [], ◌∷◌, ◌++◌, length, get_or, is_some, Some, None, ◌==◌, ◌≢◌, slice_index, slice_index_or, slice_set, refl}
use Rattle.std.proofs.Common.{inl, inr, ⊎_elim, sym, ap, subst, ◌∙◌, arith}
use Rattle.std.proofs.lemmas.Option.{none-some}
use Rattle.std.proofs.lemmas.List.{length-map, length_push, length-set, get_or_past, get_or_append_left, get_or-set_same, get_or-set_other}
use Rattle.std.proofs.lemmas.Bool.{false≢true, ne_eqb, eq-eqb, eqb-true, cases_eq, or_cases}
use Rattle.order.specs.Meaning.{last_number}
use Rattle.makes.specs.declared.places.Place.{Place}
use Rattle.makes.specs.Machine.{Build, born_at, with_step, target_at}
use Rattle.makes.specs.Places.{target_sort, is_make, targets_of, start_of, end_of, kind_begun, one_more, place_at, kind_at, Shape, shape, shapes, shape_at, parents_of, parents, counts, lives, starts, ends, changed, birth_at}
use Rattle.makes.specs.Sound.{lasting, levels_left, SoundTree, SoundTimes, SoundBirths, SoundSlots, Sound, TargetOf}
use Rattle.makes.specs.Tree.{up, Earlier, itself, line, holds}
use Rattle.makes.specs.Entries.{ParentHome, more_shapes, more_counts, more_starts, more_ends, more_lives, home_within, home_peopled}
use Rattle.makes.specs.Columns.{new_step, ready_shapes, ready_lives, ready_counts, ready_ends, ready_starts, ready_size}
use Rattle.makes.specs.Sorts.{begun_start, begun_some}
use Rattle.makes.specs.Later.{Later, up_shape}
use Rattle.makes.specs.Lodgers.{births_place, births_born}
use Rattle.makes.specs.Shapes.{shape_is, in_shapes, sized, count_is, length_changed, shape_old, shape_new, up_old, up_new, earlier_more, tree_more, above_target, make_shape, step_make, step_target}
use Rattle.makes.specs.Slots.{default_more, slots_place}
use Rattle.makes.specs.Times.{times_step}
use Rattle.makes.specs.TreeLemmas.{holds_more, holds_kept, holds_decides, length_line, line_some}
use Rattle.makes.specs.Views.{start_is, end_is}

-- a place holds itself
own_held : (us : List ℕ) → Earlier us → (x : ℕ) → holds us x x ≡ true
own_held us earlier x = (holds_decides us earlier x x).1 itself

module _ (s : Build) (sound : Sound s) (more : s.number + 1 ≤ last_number) (p m t : ℕ) (parent : ParentHome s m) (room : length s.births < s.room.births)
    (nobody : (i : ℕ) → i < length s.births → (birth_at s.births i).live ≡ true → (birth_at s.births i).process ≢ p)
    (makes : is_make (kind_at s.places m) ≡ true) (from_one : 1 ≤ t) (declared : t ≤ targets_of (kind_at s.places m)) where
  m_within : m < length s.places
  m_within = home_within s sound m parent

  below : TargetOf (shapes s.places) m (target_at s m t)
  below =
      let c = count_is s.places m in
      subst (λ o. TargetOf (shapes s.places) m (slice_index s.slots (o * s.room.targets + (t - 1)))) (ap (λ (y : Shape). y.ordinal) (shape_is s.places m))
      (sound.slots.slotted m (t - 1) (in_shapes s.places m_within) (make_shape s.places m makes) (omega arith))

  target_up : up (parents s.places) (target_at s m t) ≡ m
  target_up = up_shape s.places (target_at s m t) ∙ below.parent

  -- a target is as deep as its make
  target_depth : (shape_at (shapes s.places) (target_at s m t)).depth ≡ (place_at s.places m).depth
  target_depth =
      let us = parents s.places in
      let y = target_at s m t in
      let a = above_target (shapes s.places) sound.tree y below.within below.sort in
      let long = length_line us sound.tree.earlier y a.0 in
      let on = ap (λ z. length (line us z)) target_up in
      let some = line_some us sound.tree.earlier m in
      let ly = sound.tree.levelled y below.within in
      let lm = sound.tree.levelled m (in_shapes s.places m_within) in
      let gy = ap levels_left below.sort in
      let gm = ap levels_left (make_shape s.places m makes) in
      let d = ap (λ (z : Shape). z.depth) (shape_is s.places m) in
      omega arith

  -- the tree with the step
  fits : target_sort (shape_at (shapes s.places) (target_at s m t)).sort ≡ true
  fits = ap target_sort below.sort

  tree_on : SoundTree (shapes s.places ++ shape (new_step s m t) ∷ [])
  tree_on =
      tree_more (shapes s.places) (shape (new_step s m t)) sound.tree below.within fits
      (let d = target_depth in omega arith)
      (let d = sound.tree.shallow m (in_shapes s.places m_within) in let e = ap (λ (z : Shape). z.depth) (shape_is s.places m) in omega arith)

  abbrev vs : List ℕ
  vs = parents_of (shapes s.places ++ shape (new_step s m t) ∷ [])

  new_within : length s.places < length (with_step s m t)
  new_within = let n = ready_size s m t in omega arith

  ready_tree : SoundTree (shapes (with_step s m t))
  ready_tree = subst SoundTree (sym (ready_shapes s m t)) tree_on

  -- who is counted after the birth
  abbrev after : List Place
  after = changed one_more (with_step s m t) (line (parents (with_step s m t)) (length s.places))

  counted_at : (y : ℕ) → slice_index (lives after) y ≡ cond (holds vs y (length s.places)) (slice_index (lives s.places ++ 0 ∷ []) y + 1) (slice_index (lives s.places ++ 0 ∷ []) y)
  counted_at y =
      more_lives (with_step s m t) (length s.places) ready_tree new_within y
      ∙ (λ i. cond (holds (parents_of (ready_shapes s m t i)) y (length s.places)) (slice_index (ready_lives s m t i) y + 1) (slice_index (ready_lives s m t i) y))

  counted_old : (y : ℕ) → slice_index (lives after) y ≡ cond (holds vs y (length (shapes s.places))) (slice_index (lives s.places) y + 1) (slice_index (lives s.places) y)
  counted_old y = counted_at y ∙ (λ i. cond (holds vs y (sym (length-map s.places shape) i)) (default_more (lives s.places) 0 y i + 1) (default_more (lives s.places) 0 y i))

  on : (x : ℕ) → 0 < x → up vs x < x
  on = earlier_more (shapes s.places) (shape (new_step s m t)) sound.tree.earlier below.within

  new_held : holds vs (length (shapes s.places)) (length (shapes s.places)) ≡ true
  new_held =
      let n = length (shapes s.places) in
      holds_more vs on n n (let f = sound.tree.some in omega arith) ∙ ap (λ b. b || holds vs n (up vs n)) (eq-eqb n n refl)

  counted_new : get_or (lives after) (length (shapes s.places)) 0 ≡ 1
  counted_new =
      counted_old (length (shapes s.places))
      ∙ (λ i. cond (new_held i) (slice_index (lives s.places) (length (shapes s.places)) + 1) (slice_index (lives s.places) (length (shapes s.places))))
      ∙ (let z = get_or_past (lives s.places) (length (shapes s.places)) 0 (let a = length-map s.places (λ (y : Place). y.live) in let b = length-map s.places shape in omega arith) in omega arith)

  -- what lasts and holds the new step holds the make, where its own process is
  peopled : (y : ℕ) → y < length (shapes s.places) → holds vs y (length (shapes s.places)) ≡ true → lasting (shape_at (shapes s.places) y).sort ≡ true → 0 < slice_index (lives s.places) y
  peopled y w held lasts =
      let n = length (shapes s.places) in
      let x = target_at s m t in
      let first = sym (holds_more vs on y n (omega arith) ∙ ap (λ b. b || holds vs y (up vs n)) (ne_eqb y n (λ e. omega arith))) ∙ held in
      let second = sym (ap (holds vs y) (up_new (shapes s.places) (shape (new_step s m t)))
      ∙ holds_kept (parents s.places) vs sound.tree.earlier n (up_old (shapes s.places) (shape (new_step s m t))) y x below.within) ∙ first in
      let a = above_target (shapes s.places) sound.tree x below.within below.sort in
      ⊎_elim
      (λ e. absurd (false≢true (sym (ap lasting (ap (λ z. (shape_at (shapes s.places) z).sort) (eqb-true y x e) ∙ below.sort)) ∙ lasts)))
      (λ held_up. home_peopled s sound m parent y w (ap (holds (parents s.places) y) (sym target_up) ∙ held_up) lasts)
      (or_cases (y == x) _ (sym (holds_more (parents s.places) sound.tree.earlier y x a.0) ∙ second))

  m_some : 0 < slice_index (lives s.places) m
  m_some = home_peopled s sound m parent m (in_shapes s.places m_within) (own_held (parents s.places) sound.tree.earlier m) (ap lasting (make_shape s.places m makes))

  m_open : is_some (slice_index_or (ends s.places) m None) ≡ false
  m_open = sound.times.over m (in_shapes s.places m_within) (ap lasting (make_shape s.places m makes)) ∙ ne_eqb (slice_index (lives s.places) m) 0 (λ e. let l = m_some in omega arith)

  begun_is : (start_of (kind_begun (s.number + 1) (kind_at s.places m)) ≡ slice_index_or (starts s.places) m None)
      ⊎ ((slice_index_or (starts s.places) m None ≡ None) × (start_of (kind_begun (s.number + 1) (kind_at s.places m)) ≡ Some (s.number + 1)))
  begun_is =
      ⊎_elim (λ e. inl (e ∙ sym (start_is s.places m))) (λ e. inr (start_is s.places m ∙ e.0, e.1)) (begun_start (s.number + 1) (kind_at s.places m))

  times_on : SoundTimes (s.number + 1) (shapes s.places ++ shape (new_step s m t) ∷ []) (lives after) (slice_set (starts s.places) m (start_of (kind_begun (s.number + 1) (kind_at s.places m))) ++ Some (s.number + 1) ∷ []) (ends s.places ++ None ∷ [])
  times_on =
      let sl = sized s.places (λ (y : Place). y.live) in
      let ss = sized s.places (λ (y : Place). start_of y.kind) in
      let se = sized s.places (λ (y : Place). end_of y.kind) in
      times_step s.number (shapes s.places) (lives s.places) (starts s.places) (ends s.places) sound.times (shape (new_step s m t)) 0 sound.tree sl ss se
      m (in_shapes s.places m_within) (start_of (kind_begun (s.number + 1) (kind_at s.places m))) begun_is
      (begun_some (s.number + 1) (kind_at s.places m) makes (ap is_some (sym (end_is s.places m)) ∙ m_open))
      m_open below.within target_up (lives after) (λ y w. counted_old y) counted_new peopled

  births_on : SoundBirths (s.births ++ record { process = p; at = length s.places; live = true } ∷ []) (shapes s.places ++ shape (new_step s m t) ∷ []) (lives after)
  births_on =
      let sl = sized s.places (λ (y : Place). y.live) in
      let n = length_push (shapes s.places) (shape (new_step s m t)) in
      let z = length-map s.places shape in
      births_born (shapes s.places ++ shape (new_step s m t) ∷ []) s.births (lives s.places ++ 0 ∷ []) (lives after)
      (births_place (shapes s.places) (shape (new_step s m t)) s.births (lives s.places) sound.tree.earlier below.within sound.births sl)
      p (length s.places) (omega arith)
      (ap (λ (y : Shape). target_sort y.sort) (shape_new (shapes s.places) (shape (new_step s m t)) (sym (length-map s.places shape))))
      nobody (λ y w. counted_at y)

  slots_on : SoundSlots (shapes s.places ++ shape (new_step s m t) ∷ []) (counts s.places ++ 0 ∷ []) s.makes (length s.rows) s.room.targets s.slots
  slots_on =
      slots_place (shapes s.places) (shape (new_step s m t)) (counts s.places) s.makes (length s.rows) s.room.targets s.slots sound.slots
      (sized s.places (λ (y : Place). targets_of y.kind)) s.makes (length s.rows) (omega arith) (omega arith) (λ e. absurd (step_target e)) (λ e. absurd (step_make e))

  pub stepped_sound : Sound (born_at s p (with_step s m t) (length s.places))
  stepped_sound =
      let x = length s.places in
      let shapes-is = more_shapes (with_step s m t) x ∙ ready_shapes s m t in
      let starts_is = more_starts (with_step s m t) x ∙ ready_starts s m t in
      let ends_is = more_ends (with_step s m t) x ∙ ready_ends s m t in
      let counts-is = more_counts (with_step s m t) x ∙ ready_counts s m t in
      let lb = length_push s.births (record { process = p; at = length s.places; live = true }) in
      let lp = length_changed one_more (with_step s m t) (line (parents (with_step s m t)) (length s.places)) in
      let rs = ready_size s m t in
      let rp = sound.room.places in
      record {
        number = more;
        tree = subst SoundTree (sym shapes-is) tree_on;
        times =
            subst (λ ts. SoundTimes (s.number + 1) ts (lives after) (starts after) (ends after)) (sym shapes-is)
            (subst (λ ss. SoundTimes (s.number + 1) (shapes s.places ++ shape (new_step s m t) ∷ []) (lives after) ss (ends after)) (sym starts_is)
            (subst (λ es. SoundTimes (s.number + 1) (shapes s.places ++ shape (new_step s m t) ∷ []) (lives after) (slice_set (starts s.places) m (start_of (kind_begun (s.number + 1) (kind_at s.places m))) ++ Some (s.number + 1) ∷ []) es) (sym ends_is) times_on));
        births = subst (λ ts. SoundBirths (s.births ++ record { process = p; at = length s.places; live = true } ∷ []) ts (lives after)) (sym shapes-is) births_on;
        rows = sound.rows;
        slots =
            subst (λ ts. SoundSlots ts (counts after) s.makes (length s.rows) s.room.targets s.slots) (sym shapes-is)
            (subst (λ cs. SoundSlots (shapes s.places ++ shape (new_step s m t) ∷ []) cs s.makes (length s.rows) s.room.targets s.slots) (sym counts-is) slots_on);
        room = record {
          births = omega arith;
          makes = sound.room.makes;
          targets = sound.room.targets;
          most_births = sound.room.most_births;
          most_makes = sound.room.most_makes;
          most_targets = sound.room.most_targets;
          slots = sound.room.slots;
          places = omega arith;
        };
      }

  pub stepped_later : Later s (born_at s p (with_step s m t) (length s.places))
  stepped_later =
      let x = length s.places in
      let lp = length_changed one_more (with_step s m t) (line (parents (with_step s m t)) (length s.places)) in
      let rs = ready_size s m t in
      let z = length-map s.places shape in
      let sl = length-map s.places (λ (y : Place). start_of y.kind) in
      let long = length-set (starts s.places) m (start_of (kind_begun (s.number + 1) (kind_at s.places m))) in
      let se = length-map s.places (λ (y : Place). end_of y.kind) in
      record {
        number = refl;
        longer = omega arith;
        shape = λ y w. ap (λ ts. shape_at ts y) (more_shapes (with_step s m t) x ∙ ready_shapes s m t) ∙ shape_old (shapes s.places) (shape (new_step s m t)) y (omega arith);
        starts = λ y k w e.
            ap (λ ss. get_or ss y None) (more_starts (with_step s m t) x ∙ ready_starts s m t)
            ∙ get_or_append_left (slice_set (starts s.places) m (start_of (kind_begun (s.number + 1) (kind_at s.places m)))) (Some (s.number + 1) ∷ []) None y (omega arith)
            ∙ ⊎_elim
            (λ is.
            ap (λ q. get_or (slice_set (starts s.places) m (start_of (kind_begun (s.number + 1) (kind_at s.places m)))) q None) is
            ∙ get_or-set_same (starts s.places) m (start_of (kind_begun (s.number + 1) (kind_at s.places m))) None (omega arith)
            ∙ ⊎_elim (λ same. same ∙ ap (λ q. get_or (starts s.places) q None) (sym is) ∙ e) (λ new. absurd (none-some _ (sym new.0 ∙ ap (λ q. get_or (starts s.places) q None) (sym is) ∙ e))) begun_is)
            (λ ne. get_or-set_other (starts s.places) m y (start_of (kind_begun (s.number + 1) (kind_at s.places m))) None ne ∙ e)
            (cases_eq y m);
        ends = λ y w. inl (ap (λ es. get_or es y None) (more_ends (with_step s m t) x ∙ ready_ends s m t) ∙ get_or_append_left (ends s.places) (None ∷ []) None y (omega arith));
        needs = λ r u w j. refl;
      }
