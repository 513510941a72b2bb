-- A process that turns out to be a make, and a make's new target, keep what reachable states have.
use Rattle.std.specs.Prelude.{◌≡◌, ℕ, ◌+◌, ◌-◌, ◌*◌, ◌<◌, ◌≤◌, true, false, ◌&&◌, List, [], ◌∷◌, ◌++◌, length, None, nat_le, slice_index, slice_index_or, slice_set, refl}
use Rattle.std.proofs.Common.{inl, sym, ap, subst, ◌∙◌, arith}
use Rattle.std.proofs.lemmas.Nat.{mul-add-lt}
use Rattle.std.proofs.lemmas.List.{length-map, length_push, length-set, get_or_append_left, set-append_left}
use Rattle.std.proofs.lemmas.Bool.{false≢true, leb-true, and_parts}
use Rattle.std.specs.List.{AllByRecursion}
use Rattle.order.specs.Meaning.{last_number}
use Rattle.makes.specs.declared.places.Place.{Place}
use Rattle.makes.specs.Machine.{Build, turned_make, declared, rows_of, slots_from}
use Rattle.makes.specs.Places.{make_sort, stand_sort, is_make, ordinal_of, targets_of, start_of, end_of, place_at, kind_at, Shape, shape, shapes, shape_at, counts, lives, starts, ends, birth_at, all_declared, row_in}
use Rattle.makes.specs.Sound.{SoundTree, SoundTimes, SoundBirths, SoundSlots, Sound, TargetOf}
use Rattle.makes.specs.Columns.{new_make, new_target, made_shapes, made_lives, made_counts, made_starts, made_ends, grown_shapes, grown_lives, grown_starts, grown_ends, grown_counts, grown_size}
use Rattle.makes.specs.Entries.{neither_stands}
use Rattle.makes.specs.Rows.{joined_row}
use Rattle.makes.specs.Joins.{rows_more, needs_old}
use Rattle.makes.specs.Judging.{sort_is, row_is}
use Rattle.makes.specs.Later.{Later}
use Rattle.makes.specs.Lodgers.{births_place, births_make}
use Rattle.makes.specs.Shapes.{shape_is, in_shapes, sized, count_is, shape_old, shape_new, tree_more, make_shape, make_step, make_target, target_step, target_make}
use Rattle.makes.specs.Slots.{default_more, slots_place, slots_target}
use Rattle.makes.specs.Times.{times_place}

-- The birth i turns into a make.
module _ (s : Build) (sound : Sound s) (more : s.number + 1 ≤ last_number) (i : ℕ) (in_table : i < length s.births) (alive : (birth_at s.births i).live ≡ true)
    (no_make : is_make (kind_at s.places (birth_at s.births i).at) ≡ false) (shallow : (place_at s.places (birth_at s.births i).at).depth < 16) (room : s.makes < s.room.makes) where
  home_in_tree : (birth_at s.births i).at < length (shapes s.places)
  home_in_tree = sound.births.housed i in_table

  fits : stand_sort (shape_at (shapes s.places) (birth_at s.births i).at).sort ≡ true
  fits = neither_stands _ (ap make_sort (sort_is s sound (birth_at s.births i).at) ∙ no_make) (sound.births.homely i in_table)

  pub turned_sound : Sound (turned_make s i)
  turned_sound =
      let ts = shapes s.places in
      let t = shape (new_make s i) in
      let d = ap (λ (z : Shape). z.depth) (shape_is s.places (birth_at s.births i).at) in
      let lp = length_push s.places (new_make s i) in
      let lb = length-set s.births i (record { process = (birth_at s.births i).process; at = length s.places; live = (birth_at s.births i).live }) in
      let rb = sound.room.births in
      let rp = sound.room.places in
      record {
        number = more;
        tree = subst SoundTree (sym (made_shapes s i)) (tree_more ts t sound.tree home_in_tree fits (omega arith) (omega arith));
        times =
            subst (λ zs. SoundTimes (s.number + 1) zs (lives (turned_make s i).places) (starts (turned_make s i).places) (ends (turned_make s i).places)) (sym (made_shapes s i))
            (subst (λ zs. SoundTimes (s.number + 1) (ts ++ t ∷ []) zs (starts (turned_make s i).places) (ends (turned_make s i).places)) (sym (made_lives s i))
            (subst (λ zs. SoundTimes (s.number + 1) (ts ++ t ∷ []) (lives s.places ++ 1 ∷ []) zs (ends (turned_make s i).places)) (sym (made_starts s i))
            (subst (λ zs. SoundTimes (s.number + 1) (ts ++ t ∷ []) (lives s.places ++ 1 ∷ []) (starts s.places ++ None ∷ []) zs) (sym (made_ends s i))
            (times_place s.number ts (lives s.places) (starts s.places) (ends s.places) sound.times t 1 sound.tree
            (sized s.places (λ (y : Place). y.live)) (sized s.places (λ (y : Place). start_of y.kind)) (sized s.places (λ (y : Place). end_of y.kind)) make_step (λ e. refl)))));
        births =
            subst (λ zs. SoundBirths (turned_make s i).births zs (lives (turned_make s i).places)) (sym (made_shapes s i))
            (subst (λ zs. SoundBirths (turned_make s i).births (ts ++ t ∷ []) zs) (sym (made_lives s i))
            (subst (λ z. SoundBirths (slice_set s.births i (record { process = (birth_at s.births i).process; at = z; live = (birth_at s.births i).live })) (ts ++ t ∷ []) (lives s.places ++ 1 ∷ [])) (length-map s.places shape)
            (births_make ts t s.births (lives s.places) sound.tree.earlier home_in_tree sound.births i in_table alive refl refl (sized s.places (λ (y : Place). y.live)))));
        rows = sound.rows;
        slots =
            subst (λ zs. SoundSlots zs (counts (turned_make s i).places) (s.makes + 1) (length s.rows) s.room.targets s.slots) (sym (made_shapes s i))
            (subst (λ zs. SoundSlots (ts ++ t ∷ []) zs (s.makes + 1) (length s.rows) s.room.targets s.slots) (sym (made_counts s i))
            (slots_place ts t (counts s.places) s.makes (length s.rows) s.room.targets s.slots sound.slots (sized s.places (λ (y : Place). targets_of y.kind))
            (s.makes + 1) (length s.rows) (omega arith) (omega arith) (λ e. absurd (make_target e)) (λ e. (refl, omega arith))));
        room = record {
          births = omega arith;
          makes = omega arith;
          targets = sound.room.targets;
          most_births = sound.room.most_births;
          most_makes = sound.room.most_makes;
          most_targets = sound.room.most_targets;
          slots = sound.room.slots;
          places = omega arith;
        };
      }

  pub turned_later : Later s (turned_make s i)
  turned_later =
      let lp = length_push s.places (new_make s i) in
      let z = length-map s.places shape in
      let ls = length-map s.places (λ (y : Place). start_of y.kind) in
      let le = length-map s.places (λ (y : Place). end_of y.kind) in
      record {
        number = refl;
        longer = omega arith;
        shape = λ x h. ap (λ ts. shape_at ts x) (made_shapes s i) ∙ shape_old (shapes s.places) (shape (new_make s i)) x (omega arith);
        starts = λ x k h e. ap (λ ss. slice_index_or ss x None) (made_starts s i) ∙ get_or_append_left (starts s.places) (None ∷ []) None x (omega arith) ∙ e;
        ends = λ x h. inl (ap (λ es. slice_index_or es x None) (made_ends s i) ∙ get_or_append_left (ends s.places) (None ∷ []) None x (omega arith));
        needs = λ r u h j. refl;
      }

-- A new target of the make m.
module _ (s : Build) (sound : Sound s) (more : s.number + 1 ≤ last_number) (m : ℕ) (ks : List ℕ) (m_within : m < length s.places) (makes : is_make (kind_at s.places m) ≡ true)
    (all : all_declared (targets_of (kind_at s.places m)) ks ≡ true) (room : length s.rows < s.room.targets) where
  abbrev after : List Place
  after = (declared s m ks).places

  counts_size : length (counts s.places) ≡ length s.places
  counts_size = length-map s.places (λ (y : Place). targets_of y.kind)

  count_same : slice_index_or (counts s.places ++ 0 ∷ []) m 0 ≡ slice_index (counts s.places) m
  count_same = default_more (counts s.places) 0 m

  t_counts : counts after ≡ slice_set (counts s.places ++ 0 ∷ []) m (slice_index (counts s.places ++ 0 ∷ []) m + 1)
  t_counts =
      grown_counts s m ks makes
      ∙ ap (λ n. slice_set (counts s.places) m (n + 1) ++ 0 ∷ []) (sym count_same)
      ∙ sym (set-append_left (counts s.places) (0 ∷ []) m (slice_index (counts s.places ++ 0 ∷ []) m + 1) (let z = counts_size in omega arith))

  tree_on : SoundTree (shapes s.places ++ shape (new_target s m) ∷ [])
  tree_on =
      let d = ap (λ (z : Shape). z.depth) (shape_is s.places m) in
      let l = sound.tree.shallow m (in_shapes s.places m_within) in
      tree_more (shapes s.places) (shape (new_target s m)) sound.tree (in_shapes s.places m_within) (ap make_sort (make_shape s.places m makes)) (omega arith) (omega arith)

  times_on : SoundTimes (s.number + 1) (shapes s.places ++ shape (new_target s m) ∷ []) (lives s.places ++ 0 ∷ []) (starts s.places ++ None ∷ []) (ends s.places ++ None ∷ [])
  times_on =
      times_place s.number (shapes s.places) (lives s.places) (starts s.places) (ends s.places) sound.times (shape (new_target s m)) 0 sound.tree
      (sized s.places (λ (y : Place). y.live)) (sized s.places (λ (y : Place). start_of y.kind)) (sized s.places (λ (y : Place). end_of y.kind)) target_step (λ e. absurd (false≢true e))

  -- the slot of the new target
  place_slots : SoundSlots (shapes s.places ++ shape (new_target s m) ∷ []) (counts s.places ++ 0 ∷ []) s.makes (length s.rows + 1) s.room.targets s.slots
  place_slots =
      slots_place (shapes s.places) (shape (new_target s m)) (counts s.places) s.makes (length s.rows) s.room.targets s.slots sound.slots (sized s.places (λ (y : Place). targets_of y.kind))
      s.makes (length s.rows + 1) (omega arith) (omega arith) (λ e. omega arith) (λ e. absurd (target_make e))

  ordinal_same : (shape_at (shapes s.places ++ shape (new_target s m) ∷ []) m).ordinal ≡ ordinal_of (kind_at s.places m)
  ordinal_same = ap (λ (z : Shape). z.ordinal) (shape_old (shapes s.places) (shape (new_target s m)) m (in_shapes s.places m_within) ∙ shape_is s.places m)

  slot_is : (shape_at (shapes s.places ++ shape (new_target s m) ∷ []) m).ordinal * s.room.targets + slice_index (counts s.places ++ 0 ∷ []) m ≡ slots_from s m + targets_of (kind_at s.places m)
  slot_is = λ i. ordinal_same i * s.room.targets + (count_same ∙ count_is s.places m) i

  slot_within : (shape_at (shapes s.places ++ shape (new_target s m) ∷ []) m).ordinal * s.room.targets + slice_index (counts s.places ++ 0 ∷ []) m < length s.slots
  slot_within =
      let o = sound.slots.ordinal m (in_shapes s.places m_within) (make_shape s.places m makes) in
      let oe = ap (λ (z : Shape). z.ordinal) (shape_old (shapes s.places) (shape (new_target s m)) m (in_shapes s.places m_within)) in
      let f = sound.slots.few m in
      let c = count_same in
      let mk = sound.room.makes in
      let len = sound.room.slots in
      let at = mul-add-lt (shape_at (shapes s.places ++ shape (new_target s m) ∷ []) m).ordinal s.room.targets (slice_index (counts s.places ++ 0 ∷ []) m) s.room.makes (omega arith) (omega arith) in
      omega arith

  own_target : TargetOf (shapes s.places ++ shape (new_target s m) ∷ []) m (length s.places)
  own_target =
      let e = shape_new (shapes s.places) (shape (new_target s m)) (sym (length-map s.places shape)) in
      record {
        within = let z = length-map s.places shape in let n = length_push (shapes s.places) (shape (new_target s m)) in omega arith;
        sort = ap (λ (y : Shape). y.sort) e;
        parent = ap (λ (y : Shape). y.parent) e;
      }

  slots_on : SoundSlots (shapes s.places ++ shape (new_target s m) ∷ []) (slice_set (counts s.places ++ 0 ∷ []) m (slice_index (counts s.places ++ 0 ∷ []) m + 1)) s.makes (length s.rows + 1) s.room.targets
      (slice_set s.slots ((shape_at (shapes s.places ++ shape (new_target s m) ∷ []) m).ordinal * s.room.targets + slice_index (counts s.places ++ 0 ∷ []) m) (length s.places))
  slots_on =
      let lt = length_push (shapes s.places) (shape (new_target s m)) in
      let lc = length_push (counts s.places) 0 in
      let cs = counts_size in
      let z = length-map s.places shape in
      let f = sound.slots.few m in
      let c = count_same in
      slots_target (shapes s.places ++ shape (new_target s m) ∷ []) (counts s.places ++ 0 ∷ []) s.makes (length s.rows + 1) s.room.targets s.slots place_slots m (length s.places)
      (omega arith) (omega arith) (ap (λ (y : Shape). y.sort) (shape_old (shapes s.places) (shape (new_target s m)) m (in_shapes s.places m_within)) ∙ make_shape s.places m makes) (omega arith) (omega arith) slot_within own_target

  -- the prerequisites are earlier targets
  row_below : (k : ℕ) → 1 ≤ k → k ≤ targets_of (kind_at s.places m) → row_in s.places s.slots (slots_from s m) k < length s.rows
  row_below k low high =
      let c = count_is s.places m in
      let t = subst (λ o. TargetOf (shapes s.places) m (slice_index s.slots (o * s.room.targets + (k - 1)))) (ap (λ (y : Shape). y.ordinal) (shape_is s.places m))
      (sound.slots.slotted m (k - 1) (in_shapes s.places m_within) (make_shape s.places m makes) (omega arith)) in
      let r = sound.slots.row (slice_index s.slots (slots_from s m + (k - 1))) t.within t.sort in
      let e = row_is s sound (slice_index s.slots (slots_from s m + (k - 1))) in
      omega arith

  rows_below : (js : List ℕ) → all_declared (targets_of (kind_at s.places m)) js ≡ true → AllByRecursion (λ u. u < length s.rows) (rows_of s m js)
  rows_below [] e = tt
  rows_below (j ∷ js) e =
      let p = and_parts (nat_le 1 j && nat_le j (targets_of (kind_at s.places m))) _ e in
      let q = and_parts (nat_le 1 j) _ p.0 in
      (row_below j (leb-true _ _ q.0) (leb-true _ _ q.1), rows_below js p.1)

  pub declared_sound : Sound (declared s m ks)
  declared_sound =
      let lp = grown_size s m ks in
      let lslot = length-set s.slots (slots_from s m + targets_of (kind_at s.places m)) (length s.places) in
      let lr = length_push s.rows (joined_row s.rows (rows_of s m ks)) in
      let rp = sound.room.places in
      let rt = sound.room.most_targets in
      record {
        number = more;
        tree = subst SoundTree (sym (grown_shapes s m ks)) tree_on;
        times =
            subst (λ zs. SoundTimes (s.number + 1) zs (lives after) (starts after) (ends after)) (sym (grown_shapes s m ks))
            (subst (λ zs. SoundTimes (s.number + 1) (shapes s.places ++ shape (new_target s m) ∷ []) zs (starts after) (ends after)) (sym (grown_lives s m ks))
            (subst (λ zs. SoundTimes (s.number + 1) (shapes s.places ++ shape (new_target s m) ∷ []) (lives s.places ++ 0 ∷ []) zs (ends after)) (sym (grown_starts s m ks))
            (subst (λ zs. SoundTimes (s.number + 1) (shapes s.places ++ shape (new_target s m) ∷ []) (lives s.places ++ 0 ∷ []) (starts s.places ++ None ∷ []) zs) (sym (grown_ends s m ks)) times_on)));
        births =
            subst (λ zs. SoundBirths s.births zs (lives after)) (sym (grown_shapes s m ks))
            (subst (λ zs. SoundBirths s.births (shapes s.places ++ shape (new_target s m) ∷ []) zs) (sym (grown_lives s m ks))
            (births_place (shapes s.places) (shape (new_target s m)) s.births (lives s.places) sound.tree.earlier (in_shapes s.places m_within) sound.births (sized s.places (λ (y : Place). y.live))));
        rows = rows_more s.rows (rows_of s m ks) (omega arith) sound.rows (rows_below ks all);
        slots =
            subst (λ n. SoundSlots (shapes after) (counts after) s.makes n s.room.targets (declared s m ks).slots) (sym lr)
            (subst (λ zs. SoundSlots zs (counts after) s.makes (length s.rows + 1) s.room.targets (declared s m ks).slots) (sym (grown_shapes s m ks))
            (subst (λ zs. SoundSlots (shapes s.places ++ shape (new_target s m) ∷ []) zs s.makes (length s.rows + 1) s.room.targets (declared s m ks).slots) (sym t_counts)
            (subst (λ z. SoundSlots (shapes s.places ++ shape (new_target s m) ∷ []) (slice_set (counts s.places ++ 0 ∷ []) m (slice_index (counts s.places ++ 0 ∷ []) m + 1)) s.makes (length s.rows + 1) s.room.targets (slice_set s.slots z (length s.places))) slot_is slots_on)));
        room = record {
          births = sound.room.births;
          makes = sound.room.makes;
          targets = omega arith;
          most_births = sound.room.most_births;
          most_makes = sound.room.most_makes;
          most_targets = sound.room.most_targets;
          slots = lslot ∙ sound.room.slots;
          places = omega arith;
        };
      }

  pub declared_later : Later s (declared s m ks)
  declared_later =
      let lp = grown_size s m ks in
      let z = length-map s.places shape in
      let ls = length-map s.places (λ (y : Place). start_of y.kind) in
      let le = length-map s.places (λ (y : Place). end_of y.kind) in
      record {
        number = refl;
        longer = omega arith;
        shape = λ x h. ap (λ ts. shape_at ts x) (grown_shapes s m ks) ∙ shape_old (shapes s.places) (shape (new_target s m)) x (omega arith);
        starts = λ x k h e. ap (λ ss. slice_index_or ss x None) (grown_starts s m ks) ∙ get_or_append_left (starts s.places) (None ∷ []) None x (omega arith) ∙ e;
        ends = λ x h. inl (ap (λ es. slice_index_or es x None) (grown_ends s m ks) ∙ get_or_append_left (ends s.places) (None ∷ []) None x (omega arith));
        needs = λ r u h j. needs_old s.rows (rows_of s m ks) r u h;
      }
