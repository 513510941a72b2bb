-- The columns of the table of places after each event that makes a place.
use Rattle.std.specs.Prelude.{◌≡◌, ℕ, ◌+◌, List, [], ◌∷◌, ◌++◌, map, length, Some, None, slice_index, slice_set, true, refl}
use Rattle.std.proofs.Common.{sym, ap, ◌∙◌}
use Rattle.std.proofs.lemmas.List.{length_push, length-set, map_push, map-set}
use Rattle.makes.specs.declared.places.Kind.{Kind}
use Rattle.makes.specs.declared.places.Kind.TheVariants.{Make, Target, Step}
use Rattle.makes.specs.declared.places.Place.{Place}
use Rattle.makes.specs.declared.places.Status.TheVariants.{Unstarted}
use Rattle.makes.specs.Machine.{Build, with_step, turned_make, declared, target_at}
use Rattle.makes.specs.Places.{is_make, targets_of, start_of, end_of, kind_begun, kind_declared, with_kind, no_place, place_at, kind_at, shape, shapes, counts, lives, starts, ends, added_below, birth_at}
use Rattle.makes.specs.Sorts.{begun_shape, begun_targets, begun_end, declared_shape, declared_targets, declared_start, declared_end}
use Rattle.makes.specs.Shapes.{count_is}
use Rattle.makes.specs.Walks.{map_set_same}

-- the new place of each event that makes one
abbrev pub new_step : Build → ℕ → ℕ → Place
new_step s m t = record { parent = target_at s m t; depth = (place_at s.places m).depth; live = 0; kind = Step (s.number + 1) None }

abbrev pub new_make : Build → ℕ → Place
new_make s i = record { parent = (birth_at s.births i).at; depth = (place_at s.places (birth_at s.births i).at).depth + 1; live = 1; kind = Make (record { status = Unstarted; ordinal = s.makes; targets = 0 }) }

abbrev pub new_target : Build → ℕ → Place
new_target s m = record { parent = m; depth = (place_at s.places m).depth; live = 0; kind = Target (length s.rows) }

-- A new place last, and another kind of the make m: a column that the kind changes, one that it does not, and the size.
module _ (ps : List Place) (m : ℕ) (made : Kind) (above : ℕ) (kind : Kind) where
  abbrev last : Place
  last = record { parent = above; depth = (place_at ps m).depth; live = 0; kind = kind }

  abbrev changed_make : Place
  changed_make = with_kind (place_at ps m) made

  pub column_changed : {Y : Type 0} (g : Place → Y) → map g (added_below ps m made above kind) ≡ slice_set (map g ps) m (g changed_make) ++ g last ∷ []
  column_changed g = map_push g (slice_set ps m changed_make) last ∙ ap (λ ys. ys ++ g last ∷ []) (map-set g ps m changed_make)

  pub column_kept : {Y : Type 0} (g : Place → Y) → g changed_make ≡ g (place_at ps m) → map g (added_below ps m made above kind) ≡ map g ps ++ g last ∷ []
  column_kept g same = map_push g (slice_set ps m changed_make) last ∙ ap (λ ys. ys ++ g last ∷ []) (map_set_same g ps m changed_make no_place same)

  pub added_size : length (added_below ps m made above kind) ≡ length ps + 1
  added_size = length_push (slice_set ps m changed_make) last ∙ ap (λ n. n + 1) (length-set ps m changed_make)

-- A new step of the make m's target, before its process is counted.
module _ (s : Build) (m t : ℕ) where
  abbrev begun : Kind
  begun = kind_begun (s.number + 1) (kind_at s.places m)

  abbrev step : Kind
  step = Step (s.number + 1) None

  pub ready_shapes : shapes (with_step s m t) ≡ shapes s.places ++ shape (new_step s m t) ∷ []
  ready_shapes = column_kept s.places m begun (target_at s m t) step shape (begun_shape (s.number + 1) (place_at s.places m) (kind_at s.places m))

  pub ready_lives : lives (with_step s m t) ≡ lives s.places ++ 0 ∷ []
  ready_lives = column_kept s.places m begun (target_at s m t) step (λ (y : Place). y.live) refl

  pub ready_counts : counts (with_step s m t) ≡ counts s.places ++ 0 ∷ []
  ready_counts = column_kept s.places m begun (target_at s m t) step (λ (y : Place). targets_of y.kind) (begun_targets (s.number + 1) (kind_at s.places m))

  pub ready_ends : ends (with_step s m t) ≡ ends s.places ++ None ∷ []
  ready_ends = column_kept s.places m begun (target_at s m t) step (λ (y : Place). end_of y.kind) (begun_end (s.number + 1) (kind_at s.places m))

  pub ready_starts : starts (with_step s m t) ≡ slice_set (starts s.places) m (start_of begun) ++ Some (s.number + 1) ∷ []
  ready_starts = column_changed s.places m begun (target_at s m t) step (λ (y : Place). start_of y.kind)

  pub ready_size : length (with_step s m t) ≡ length s.places + 1
  ready_size = added_size s.places m begun (target_at s m t) step

-- The birth i turns into a make.
module _ (s : Build) (i : ℕ) where
  pub made_shapes : shapes (turned_make s i).places ≡ shapes s.places ++ shape (new_make s i) ∷ []
  made_shapes = map_push shape s.places (new_make s i)

  pub made_lives : lives (turned_make s i).places ≡ lives s.places ++ 1 ∷ []
  made_lives = map_push (λ (y : Place). y.live) s.places (new_make s i)

  pub made_counts : counts (turned_make s i).places ≡ counts s.places ++ 0 ∷ []
  made_counts = map_push (λ (y : Place). targets_of y.kind) s.places (new_make s i)

  pub made_starts : starts (turned_make s i).places ≡ starts s.places ++ None ∷ []
  made_starts = map_push (λ (y : Place). start_of y.kind) s.places (new_make s i)

  pub made_ends : ends (turned_make s i).places ≡ ends s.places ++ None ∷ []
  made_ends = map_push (λ (y : Place). end_of y.kind) s.places (new_make s i)

-- A new target of the make m.
module _ (s : Build) (m : ℕ) (ks : List ℕ) where
  abbrev grown : Kind
  grown = kind_declared (kind_at s.places m)

  pub grown_shapes : shapes (declared s m ks).places ≡ shapes s.places ++ shape (new_target s m) ∷ []
  grown_shapes = column_kept s.places m grown m (Target (length s.rows)) shape (declared_shape 0 (place_at s.places m) (kind_at s.places m))

  pub grown_lives : lives (declared s m ks).places ≡ lives s.places ++ 0 ∷ []
  grown_lives = column_kept s.places m grown m (Target (length s.rows)) (λ (y : Place). y.live) refl

  pub grown_starts : starts (declared s m ks).places ≡ starts s.places ++ None ∷ []
  grown_starts = column_kept s.places m grown m (Target (length s.rows)) (λ (y : Place). start_of y.kind) (declared_start (kind_at s.places m))

  pub grown_ends : ends (declared s m ks).places ≡ ends s.places ++ None ∷ []
  grown_ends = column_kept s.places m grown m (Target (length s.rows)) (λ (y : Place). end_of y.kind) (declared_end (kind_at s.places m))

  pub grown_counts : is_make (kind_at s.places m) ≡ true → counts (declared s m ks).places ≡ slice_set (counts s.places) m (slice_index (counts s.places) m + 1) ++ 0 ∷ []
  grown_counts makes =
      column_changed s.places m grown m (Target (length s.rows)) (λ (y : Place). targets_of y.kind)
      ∙ ap (λ n. slice_set (counts s.places) m n ++ 0 ∷ []) (declared_targets (kind_at s.places m) makes ∙ ap (λ n. n + 1) (sym (count_is s.places m)))

  pub grown_size : length (declared s m ks).places ≡ length s.places + 1
  grown_size = added_size s.places m grown m (Target (length s.rows))
