-- A timestamp and a death keep what reachable states have.
use Rattle.std.specs.Prelude.{◌≡◌, ℕ, ◌+◌, ◌-◌, ◌<◌, ◌≤◌, Bool, true, false, cond, ◌⊎◌, length, get_or, is_some, Some, None, ◌==◌, nat_eq, slice_index, slice_index_or, refl}
use Rattle.std.proofs.Common.{inl, inr, ⊎_elim, sym, ap, subst, ◌∙◌, arith}
use Rattle.std.proofs.lemmas.List.{length-map, length-set}
use Rattle.std.proofs.lemmas.Bool.{ne_eqb}
use Rattle.order.specs.Meaning.{last_number}
use Rattle.makes.specs.declared.places.Place.{Place}
use Rattle.makes.specs.Machine.{Build, counted, died}
use Rattle.makes.specs.Places.{sort_of, targets_of, start_of, end_of, kind_closed, one_less, place_at, kind_at, shape, shapes, shape_at, parents, counts, lives, starts, ends, birth_at}
use Rattle.makes.specs.Sound.{lasting, SoundTree, SoundTimes, SoundBirths, SoundSlots, Sound}
use Rattle.makes.specs.Tree.{line, holds}
use Rattle.makes.specs.Judging.{sort_is}
use Rattle.makes.specs.Sorts.{less_targets, less_start, less_end, closed_some}
use Rattle.makes.specs.Later.{Later}
use Rattle.makes.specs.Lodgers.{lodger_counts, births_dead}
use Rattle.makes.specs.Shapes.{changed_same, length_changed}
use Rattle.makes.specs.Times.{times_later, times_dead}
use Rattle.makes.specs.Views.{live_is, end_is, walked_at}
use Rattle.makes.specs.Walks.{less_shape}

-- one number more, and nothing else
module _ (s : Build) (sound : Sound s) (more : s.number + 1 ≤ last_number) where
  pub counted_sound : Sound (counted s)
  counted_sound = record {
    number = more;
    tree = sound.tree;
    times = times_later s.number (s.number + 1) (shapes s.places) (lives s.places) (starts s.places) (ends s.places) (omega arith) sound.times;
    births = sound.births;
    rows = sound.rows;
    slots = sound.slots;
    room = record {
      births = sound.room.births;
      makes = sound.room.makes;
      targets = sound.room.targets;
      most_births = sound.room.most_births;
      most_makes = sound.room.most_makes;
      most_targets = sound.room.most_targets;
      slots = sound.room.slots;
      places = sound.room.places;
    };
  }

  pub counted_later : Later s (counted s)
  counted_later = record { number = refl; longer = omega arith; shape = λ x h. refl; starts = λ x k h e. e; ends = λ x h. inl refl; needs = λ r u h i. refl }

live_less : (b : Bool) (n : ℕ) (p : Place) → (cond b (one_less n p) p).live ≡ cond b (p.live - 1) p.live
live_less true n p = refl
live_less false n p = refl

end_less : (b : Bool) (n : ℕ) (p : Place) → (end_of (cond b (one_less n p) p).kind ≡ end_of p.kind) ⊎ ((end_of p.kind ≡ None) × (end_of (cond b (one_less n p) p).kind ≡ Some n))
end_less true n p = less_end n p
end_less false n p = inl refl

-- what lasts has ended exactly if nobody is left
over_less : (b : Bool) (n : ℕ) (p : Place) → lasting (sort_of p.kind) ≡ true → is_some (end_of p.kind) ≡ (p.live == 0) → (b ≡ true → 0 < p.live)
    → is_some (end_of (cond b (one_less n p) p).kind) ≡ ((cond b (one_less n p) p).live == 0)
over_less false n p lasts was some = was
over_less true n p lasts was some = go (p.live - 1 == 0) refl
  where
    go : (c : Bool) → (p.live - 1 == 0) ≡ c → is_some (end_of (cond c (kind_closed n p.kind) p.kind)) ≡ (p.live - 1 == 0)
    go true e = closed_some n p.kind lasts ∙ sym e
    go false e = was ∙ ne_eqb p.live 0 (λ z. let h = some refl in omega arith) ∙ sym e

-- a death keeps the shapes, the counts of targets and the starts
pub died_shapes : (s : Build) (i : ℕ) → shapes (died s i).places ≡ shapes s.places
died_shapes s i = changed_same shape (one_less (s.number + 1)) (less_shape (s.number + 1)) s.places (line (parents s.places) (birth_at s.births i).at)

pub died_counts : (s : Build) (i : ℕ) → counts (died s i).places ≡ counts s.places
died_counts s i = changed_same (λ (p : Place). targets_of p.kind) (one_less (s.number + 1)) (less_targets (s.number + 1)) s.places (line (parents s.places) (birth_at s.births i).at)

pub died_starts : (s : Build) (i : ℕ) → starts (died s i).places ≡ starts s.places
died_starts s i = changed_same (λ (p : Place). start_of p.kind) (one_less (s.number + 1)) (less_start (s.number + 1)) s.places (line (parents s.places) (birth_at s.births i).at)

-- where a live process is counted, somebody is
pub some_there : (s : Build) → Sound s → (i : ℕ) → i < length s.births → (birth_at s.births i).live ≡ true
    → (x : ℕ) → x < length (shapes s.places) → holds (parents s.places) x (birth_at s.births i).at ≡ true → 0 < (place_at s.places x).live
some_there s sound i in_table alive x h held =
    let c = lodger_counts (parents s.places) s.births x i in_table alive held in
    let l = sound.births.live x h in
    let e = live_is s.places x in
    omega arith

-- A death of the birth i.
module _ (s : Build) (sound : Sound s) (more : s.number + 1 ≤ last_number) (i : ℕ) (in_table : i < length s.births) (alive : (birth_at s.births i).live ≡ true) where
  home_within : (birth_at s.births i).at < length s.places
  home_within = let a = sound.births.housed i in_table in let b = length-map s.places shape in omega arith

  at : (x : ℕ) → place_at (died s i).places x ≡ cond (holds (parents s.places) x (birth_at s.births i).at) (one_less (s.number + 1) (place_at s.places x)) (place_at s.places x)
  at x = walked_at (parents s.places) sound.tree.earlier (one_less (s.number + 1)) x (birth_at s.births i).at s.places home_within

  lives_at : (x : ℕ) → slice_index (lives (died s i).places) x ≡ cond (holds (parents s.places) x (birth_at s.births i).at) (slice_index (lives s.places) x - 1) (slice_index (lives s.places) x)
  lives_at x =
      live_is (died s i).places x ∙ ap (λ (p : Place). p.live) (at x) ∙ live_less (holds (parents s.places) x (birth_at s.births i).at) (s.number + 1) (place_at s.places x)
      ∙ ap (λ l. cond (holds (parents s.places) x (birth_at s.births i).at) (l - 1) l) (sym (live_is s.places x))

  pub died_ends : (x : ℕ) → (slice_index_or (ends (died s i).places) x None ≡ slice_index_or (ends s.places) x None) ⊎ ((slice_index_or (ends s.places) x None ≡ None) × (slice_index_or (ends (died s i).places) x None ≡ Some (s.number + 1)))
  died_ends x =
      let here = end_is (died s i).places x ∙ ap (λ (p : Place). end_of p.kind) (at x) in
      let was = end_is s.places x in
      ⊎_elim (λ e. inl (here ∙ e ∙ sym was)) (λ e. inr (was ∙ e.0, here ∙ e.1)) (end_less (holds (parents s.places) x (birth_at s.births i).at) (s.number + 1) (place_at s.places x))

  over_after : (x : ℕ) → x < length (shapes s.places) → lasting (shape_at (shapes s.places) x).sort ≡ true → is_some (slice_index_or (ends (died s i).places) x None) ≡ (slice_index (lives (died s i).places) x == 0)
  over_after x h lasts =
      let was : is_some (end_of (kind_at s.places x)) ≡ nat_eq (place_at s.places x).live 0 =
      ap is_some (sym (end_is s.places x)) ∙ sound.times.over x h lasts ∙ ap (λ l. nat_eq l 0) (live_is s.places x) in
      ap is_some (end_is (died s i).places x ∙ ap (λ (p : Place). end_of p.kind) (at x))
      ∙ over_less (holds (parents s.places) x (birth_at s.births i).at) (s.number + 1) (place_at s.places x) (sym (ap lasting (sort_is s sound x)) ∙ lasts) was (some_there s sound i in_table alive x h)
      ∙ ap (λ l. nat_eq l 0) (sym (live_is (died s i).places x ∙ ap (λ (p : Place). p.live) (at x)))

  pub died_sound : Sound (died s i)
  died_sound = record {
    number = more;
    tree = subst SoundTree (sym (died_shapes s i)) sound.tree;
    times =
        subst (λ ts. SoundTimes (s.number + 1) ts (lives (died s i).places) (starts (died s i).places) (ends (died s i).places)) (sym (died_shapes s i))
        (subst (λ ss. SoundTimes (s.number + 1) (shapes s.places) (lives (died s i).places) ss (ends (died s i).places)) (sym (died_starts s i))
        (times_dead s.number (shapes s.places) (lives s.places) (lives (died s i).places) (starts s.places) (ends s.places) (ends (died s i).places) sound.times died_ends over_after));
    births =
        subst (λ ts. SoundBirths (died s i).births ts (lives (died s i).places)) (sym (died_shapes s i))
        (births_dead (shapes s.places) s.births (lives s.places) (lives (died s i).places) sound.births i in_table alive (λ y h. lives_at y));
    rows = sound.rows;
    slots =
        subst (λ ts. SoundSlots ts (counts (died s i).places) s.makes (length s.rows) s.room.targets s.slots) (sym (died_shapes s i))
        (subst (λ cs. SoundSlots (shapes s.places) cs s.makes (length s.rows) s.room.targets s.slots) (sym (died_counts s i)) sound.slots);
    room =
        let lb = length-set s.births i (record { process = (birth_at s.births i).process; at = (birth_at s.births i).at; live = false }) in
        let lp = length_changed (one_less (s.number + 1)) s.places (line (parents s.places) (birth_at s.births i).at) in
        let rb = sound.room.births in
        let rp = sound.room.places in
        record {
          births = omega arith;
          makes = sound.room.makes;
          targets = sound.room.targets;
          most_births = sound.room.most_births;
          most_makes = sound.room.most_makes;
          most_targets = sound.room.most_targets;
          slots = sound.room.slots;
          places = omega arith;
        };
  }

  pub died_later : Later s (died s i)
  died_later = record {
    number = refl;
    longer = let lp = length_changed (one_less (s.number + 1)) s.places (line (parents s.places) (birth_at s.births i).at) in omega arith;
    shape = λ x h. ap (λ ts. shape_at ts x) (died_shapes s i);
    starts = λ x k h e. ap (λ ss. get_or ss x None) (died_starts s i) ∙ e;
    ends = λ x h. died_ends x;
    needs = λ r u h j. refl;
  }
