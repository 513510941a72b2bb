-- The slots of the makes' targets: one place more, and one target more.
use Rattle.std.specs.Prelude.{◌≡◌, ℕ, zero, suc, ◌+◌, ◌*◌, ◌/◌, ◌<◌, ◌≤◌, List, [], ◌∷◌, ◌++◌, length, ◌≢◌, slice_index, slice_index_or, slice_set, refl}
use Rattle.std.proofs.Common.{⊎_elim, sym, ap, subst, ◌∙◌, arith}
use Rattle.std.proofs.lemmas.Nat.{div-mul-add}
use Rattle.std.proofs.lemmas.List.{length_push, get_or-set_same, get_or-set_other, get_or_past}
use Rattle.std.proofs.lemmas.Bool.{cases_eq}
use Rattle.makes.specs.Places.{make, target, Shape, shape_at}
use Rattle.makes.specs.Sound.{TargetOf, SoundSlots}
use Rattle.makes.specs.Shapes.{shape_old, new_or_old, shape_new}

-- a list reads the same with its default at its end
pub default_more : {X : Type 0} (xs : List X) (d : X) (x : ℕ) → slice_index_or (xs ++ d ∷ []) x d ≡ slice_index_or xs x d
default_more [] d zero = refl
default_more [] d (suc x) = refl
default_more (y ∷ xs) d zero = refl
default_more (y ∷ xs) d (suc x) = default_more xs d x

target_kept : (ts : List Shape) (t : Shape) {m y : ℕ} → TargetOf ts m y → TargetOf (ts ++ t ∷ []) m y
target_kept ts t {m} {y} h = record {
  within = let p = h.within in omega (arith, length_push ts t);
  sort = ap (λ (s : Shape). s.sort) (shape_old ts t y h.within) ∙ h.sort;
  parent = ap (λ (s : Shape). s.parent) (shape_old ts t y h.within) ∙ h.parent;
}

-- One place more, without targets yet.
module _ (ts : List Shape) (t : Shape) (cs : List ℕ) (makes targets width : ℕ) (slots : List ℕ) (sound : SoundSlots ts cs makes targets width slots) (sized : length cs ≡ length ts)
    (makes-after targets-after : ℕ) (makes-grow : makes ≤ makes-after) (targets-grow : targets ≤ targets-after)
    (row_new : t.sort ≡ target → t.row < targets-after) (ordinal-new : t.sort ≡ make → (t.ordinal ≡ makes) × (makes < makes-after)) where
  rows_on : (x : ℕ) → x < length (ts ++ t ∷ []) → (shape_at (ts ++ t ∷ []) x).sort ≡ target → (shape_at (ts ++ t ∷ []) x).row < targets-after
  rows_on x h e =
      ⊎_elim
      (λ is. let a = shape_new ts t is in let r = row_new (sym (ap (λ (s : Shape). s.sort) a) ∙ e) in let q = ap (λ (s : Shape). s.row) a in omega arith)
      (λ lt. let a = shape_old ts t x lt in let r = sound.row x lt (sym (ap (λ (s : Shape). s.sort) a) ∙ e) in let q = ap (λ (s : Shape). s.row) a in omega arith)
      (new_or_old ts t x h)

  ordinals_on : (x : ℕ) → x < length (ts ++ t ∷ []) → (shape_at (ts ++ t ∷ []) x).sort ≡ make → (shape_at (ts ++ t ∷ []) x).ordinal < makes-after
  ordinals_on x h e =
      ⊎_elim
      (λ is. let a = shape_new ts t is in let r = ordinal-new (sym (ap (λ (s : Shape). s.sort) a) ∙ e) in let q = ap (λ (s : Shape). s.ordinal) a in omega arith)
      (λ lt. let a = shape_old ts t x lt in let r = sound.ordinal x lt (sym (ap (λ (s : Shape). s.sort) a) ∙ e) in let q = ap (λ (s : Shape). s.ordinal) a in omega arith)
      (new_or_old ts t x h)

  -- a new make's ordinal is above all others
  new_apart : (x y : ℕ) → x ≡ length ts → y < length ts → (shape_at (ts ++ t ∷ []) x).sort ≡ make → (shape_at (ts ++ t ∷ []) y).sort ≡ make
      → (shape_at (ts ++ t ∷ []) x).ordinal ≢ (shape_at (ts ++ t ∷ []) y).ordinal
  new_apart x y is lt ex ey same =
      let a = shape_new ts t is in
      let b = shape_old ts t y lt in
      let r = ordinal-new (sym (ap (λ (s : Shape). s.sort) a) ∙ ex) in
      let q = ap (λ (s : Shape). s.ordinal) a in
      let o = sound.ordinal y lt (sym (ap (λ (s : Shape). s.sort) b) ∙ ey) in
      let p = ap (λ (s : Shape). s.ordinal) b in
      omega arith

  apart_on : (x y : ℕ) → x < length (ts ++ t ∷ []) → y < length (ts ++ t ∷ []) → (shape_at (ts ++ t ∷ []) x).sort ≡ make → (shape_at (ts ++ t ∷ []) y).sort ≡ make
      → (shape_at (ts ++ t ∷ []) x).ordinal ≡ (shape_at (ts ++ t ∷ []) y).ordinal → x ≡ y
  apart_on x y hx hy ex ey same =
      ⊎_elim
      (λ nx. ⊎_elim (λ ny. nx ∙ sym ny) (λ ly. absurd (new_apart x y nx ly ex ey same)) (new_or_old ts t y hy))
      (λ lx.
      ⊎_elim
      (λ ny. absurd (new_apart y x ny lx ey ex (sym same)))
      (λ ly.
      let a = shape_old ts t x lx in
      let b = shape_old ts t y ly in
      sound.apart x y lx ly (sym (ap (λ (s : Shape). s.sort) a) ∙ ex) (sym (ap (λ (s : Shape). s.sort) b) ∙ ey)
      (sym (ap (λ (s : Shape). s.ordinal) a) ∙ same ∙ ap (λ (s : Shape). s.ordinal) b))
      (new_or_old ts t y hy))
      (new_or_old ts t x hx)

  pub slots_place : SoundSlots (ts ++ t ∷ []) (cs ++ 0 ∷ []) makes-after targets-after width slots
  slots_place = record {
    row = rows_on;
    ordinal = ordinals_on;
    apart = apart_on;
    few = λ x. let a = default_more cs 0 x in let b = sound.few x in omega arith;
    slotted = λ x k h e lt.
        let c = default_more cs 0 x in
        ⊎_elim
        (λ is. let z = get_or_past cs x 0 (omega arith) in absurd (omega arith))
        (λ old.
        let a = shape_old ts t x old in
        subst (λ (s : Shape). TargetOf (ts ++ t ∷ []) x (slice_index slots (s.ordinal * width + k))) (sym a)
        (target_kept ts t (sound.slotted x k old (sym (ap (λ (s : Shape). s.sort) a) ∙ e) (omega arith))))
        (new_or_old ts t x h);
  }

-- One target more of a make, in the make's next slot.
module _ (ts : List Shape) (cs : List ℕ) (makes targets width : ℕ) (slots : List ℕ) (sound : SoundSlots ts cs makes targets width slots) (m y : ℕ) (in_table : m < length ts) (counted : m < length cs)
    (is_make : (shape_at ts m).sort ≡ make) (room : targets ≤ width) (few : slice_index_or cs m 0 + 1 ≤ targets) (slot : (shape_at ts m).ordinal * width + slice_index cs m < length slots) (is_target : TargetOf ts m y) where
  here : ℕ
  here = (shape_at ts m).ordinal * width + slice_index cs m

  pub slots_target : SoundSlots ts (slice_set cs m (slice_index cs m + 1)) makes targets width (slice_set slots ((shape_at ts m).ordinal * width + slice_index cs m) y)
  slots_target = record {
    row = sound.row;
    ordinal = sound.ordinal;
    apart = sound.apart;
    few = λ x. ⊎_elim
        (λ e. let c = ap (λ z. slice_index (slice_set cs m (slice_index cs m + 1)) z) e ∙ get_or-set_same cs m (slice_index cs m + 1) 0 counted in omega arith)
        (λ ne. let c = get_or-set_other cs m x (slice_index cs m + 1) 0 ne in let b = sound.few x in omega arith)
        (cases_eq x m);
    slotted = λ x k h e lt. ⊎_elim (λ is. subst (λ z. Kept z k) (sym is) (own k (subst (λ z. k < slice_index (slice_set cs m (slice_index cs m + 1)) z) is lt))) (λ ne. other x k h e ne lt) (cases_eq x m);
  }
    where
      Kept : ℕ → ℕ → Type 0
      Kept x k = TargetOf ts x (slice_index (slice_set slots ((shape_at ts m).ordinal * width + slice_index cs m) y) ((shape_at ts x).ordinal * width + k))

      own : (k : ℕ) → k < slice_index (slice_set cs m (slice_index cs m + 1)) m → Kept m k
      own k lt =
          let c = get_or-set_same cs m (slice_index cs m + 1) 0 counted in
          ⊎_elim
          (λ last. subst (TargetOf ts m) (sym (ap (λ j. slice_index (slice_set slots ((shape_at ts m).ordinal * width + slice_index cs m) y) ((shape_at ts m).ordinal * width + j)) last ∙ get_or-set_same slots ((shape_at ts m).ordinal * width + slice_index cs m) y 0 slot)) is_target)
          (λ before.
          subst (TargetOf ts m) (sym (get_or-set_other slots ((shape_at ts m).ordinal * width + slice_index cs m) ((shape_at ts m).ordinal * width + k) y 0 (λ f. before (omega arith))))
          (sound.slotted m k in_table is_make (omega arith)))
          (cases_eq k (slice_index cs m))

      other : (x k : ℕ) → x < length ts → (shape_at ts x).sort ≡ make → (x ≢ m) → k < slice_index (slice_set cs m (slice_index cs m + 1)) x → Kept x k
      other x k h e ne lt =
          let c = get_or-set_other cs m x (slice_index cs m + 1) 0 ne in
          let b = sound.few x in
          let apart : (shape_at ts x).ordinal * width + k ≡ (shape_at ts m).ordinal * width + slice_index cs m → ⊥ = λ f.
          ne (sound.apart x m h in_table e is_make
          (sym (div-mul-add (shape_at ts x).ordinal width k (omega arith)) ∙ ap (λ n. n / width) f ∙ div-mul-add (shape_at ts m).ordinal width (slice_index cs m) (omega arith))) in
          subst (TargetOf ts x) (sym (get_or-set_other slots ((shape_at ts m).ordinal * width + slice_index cs m) ((shape_at ts x).ordinal * width + k) y 0 apart)) (sound.slotted x k h e (omega arith))
