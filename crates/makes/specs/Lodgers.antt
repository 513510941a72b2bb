-- The births and how many of them are at or below each place: one place more, a process born, turned into a make, and dead.
use Rattle.std.specs.Prelude.{◌≡◌, ℕ, ◌+◌, ◌-◌, ◌<◌, Bool, true, false, cond, ◌&&◌, ◌||◌, List, [], ◌∷◌, ◌++◌, length, count_by, ◌≢◌, slice_index, slice_set, refl}
use Rattle.std.proofs.Common.{⊎_elim, sym, ap, subst, ◌∙◌, arith}
use Rattle.std.proofs.ByRecursion.{All-from_get_or}
use Rattle.std.proofs.lemmas.List.{length_push, length-set, get_or_append_left, get_or_push, get_or_past, get_or-set_same, get_or-set_other}
use Rattle.std.proofs.lemmas.List.Sums.{sum_by_push, sum_by-set, get_or-le-sum_by}
use Rattle.std.proofs.lemmas.Bool.{false≢true, cases_eq, cases_order, eq-eqb, ne_eqb}
use Rattle.std.specs.List.{AllByRecursion}
use Rattle.births.specs.declared.Birth.{Birth}
use Rattle.makes.specs.Places.{target_sort, Shape, shape_at, parents_of, no_birth, birth_at}
use Rattle.makes.specs.Sound.{counts_at, SoundBirths}
use Rattle.makes.specs.Tree.{up, Earlier, holds}
use Rattle.makes.specs.Shapes.{count_by_cons, count_by_same, shape_old, shape_new, up_old, up_new, earlier_more}
use Rattle.makes.specs.Slots.{default_more}
use Rattle.makes.specs.TreeLemmas.{holds_kept, holds_more}
use Rattle.makes.specs.Views.{not_above}

count_by_none : {X : Type 0} (f : X → Bool) (xs : List X) → AllByRecursion (λ x. f x ≡ false) xs → count_by f xs ≡ 0
count_by_none f [] h = refl
count_by_none f (x ∷ xs) h = count_by_cons f x xs ∙ (λ i. cond (h.0 i) 1 0 + count_by_none f xs h.1 i)

-- a live process counts for every place that holds its home
pub lodger_counts : (us : List ℕ) (bs : List (Birth ℕ)) (x i : ℕ) → i < length bs → (birth_at bs i).live ≡ true → holds us x (birth_at bs i).at ≡ true → 0 < count_by (counts_at us x) bs
lodger_counts us bs x i h live held =
    let one = get_or-le-sum_by (λ b. cond (counts_at us x b) 1 0) bs i no_birth h in
    let is : ◌≡◌ {A = ℕ} (cond (counts_at us x (birth_at bs i)) 1 0) 1 = λ j. cond (live j && held j) 1 0 in
    omega arith

-- new births in the table, and changed ones
pub birth_old : (bs : List (Birth ℕ)) (b : Birth ℕ) (i : ℕ) → i < length bs → birth_at (bs ++ b ∷ []) i ≡ birth_at bs i
birth_old bs b i h = get_or_append_left bs (b ∷ []) no_birth i h

pub birth_new : (bs : List (Birth ℕ)) (b : Birth ℕ) → birth_at (bs ++ b ∷ []) (length bs) ≡ b
birth_new bs b = get_or_push bs b no_birth (length bs) refl

pub birth_cases : (bs : List (Birth ℕ)) (b : Birth ℕ) (P : ℕ → Birth ℕ → Type 0) → ((i : ℕ) → i < length bs → P i (birth_at bs i)) → P (length bs) b → (i : ℕ) → i < length (bs ++ b ∷ []) → P i (birth_at (bs ++ b ∷ []) i)
birth_cases bs b P old new i h =
    let n = length_push bs b in
    ⊎_elim
    (λ e. subst (λ j. P j (birth_at (bs ++ b ∷ []) j)) (sym e) (subst (P (length bs)) (sym (birth_new bs b)) new))
    (⊎_elim (λ lt. subst (P i) (sym (birth_old bs b i lt)) (old i lt)) (λ gt. absurd (omega arith)))
    (cases_order i (length bs))

pub set_cases : (bs : List (Birth ℕ)) (i : ℕ) (b : Birth ℕ) → i < length bs → (P : ℕ → Birth ℕ → Type 0) → ((j : ℕ) → j < length bs → (j ≢ i) → P j (birth_at bs j)) → P i b → (j : ℕ) → j < length (slice_set bs i b) → P j (birth_at (slice_set bs i b) j)
set_cases bs i b hi P other this j h =
    let n = length-set bs i b in
    ⊎_elim
    (λ e. subst (λ k. P k (birth_at (slice_set bs i b) k)) (sym e) (subst (P i) (sym (get_or-set_same bs i b no_birth hi)) this))
    (λ ne. subst (P j) (sym (get_or-set_other bs i j b no_birth ne)) (other j (omega arith) ne))
    (cases_eq j i)

module _ (ts : List Shape) (t : Shape) (bs : List (Birth ℕ)) (ls : List ℕ) (earlier : Earlier (parents_of ts)) (within : t.parent < length ts) (sound : SoundBirths bs ts ls) where
  -- the births count for the first places as before, and not for a new one
  counts_old : (x : ℕ) → count_by (counts_at (parents_of (ts ++ t ∷ [])) x) bs ≡ count_by (counts_at (parents_of ts) x) bs
  counts_old x =
      count_by_same (counts_at (parents_of (ts ++ t ∷ [])) x) (counts_at (parents_of ts) x) bs
      (All-from_get_or (λ b. counts_at (parents_of (ts ++ t ∷ [])) x b ≡ counts_at (parents_of ts) x b) bs no_birth
      (λ i h. ap (λ e. (birth_at bs i).live && e) (holds_kept (parents_of ts) (parents_of (ts ++ t ∷ [])) earlier (length ts) (up_old ts t) x (birth_at bs i).at (sound.housed i h))))

  and_none : (b : Bool) → (b && false) ≡ false
  and_none true = refl
  and_none false = refl

  not_held : (i : ℕ) → i < length bs → holds (parents_of (ts ++ t ∷ [])) (length ts) (birth_at bs i).at ≡ false
  not_held i h = not_above (parents_of (ts ++ t ∷ [])) (earlier_more ts t earlier within) ((birth_at bs i).at + 1) (length ts) (birth_at bs i).at (sound.housed i h)

  counts_new : count_by (counts_at (parents_of (ts ++ t ∷ [])) (length ts)) bs ≡ 0
  counts_new =
      count_by_none (counts_at (parents_of (ts ++ t ∷ [])) (length ts)) bs
      (All-from_get_or (λ b. counts_at (parents_of (ts ++ t ∷ [])) (length ts) b ≡ false) bs no_birth
      (λ i h. ap (λ e. (birth_at bs i).live && e) (not_held i h) ∙ and_none (birth_at bs i).live))

  homely_old : (i : ℕ) → i < length bs → target_sort (shape_at (ts ++ t ∷ []) (birth_at bs i).at).sort ≡ false
  homely_old i h = ap (λ (s : Shape). target_sort s.sort) (shape_old ts t (birth_at bs i).at (sound.housed i h)) ∙ sound.homely i h

  housed_old : (i : ℕ) → i < length bs → (birth_at bs i).at < length (ts ++ t ∷ [])
  housed_old i h = let n = length_push ts t in let o = sound.housed i h in omega arith

  -- A place more, where nobody is.
  pub births_place : length ls ≡ length ts → SoundBirths bs (ts ++ t ∷ []) (ls ++ 0 ∷ [])
  births_place sized = record {
    housed = housed_old;
    homely = homely_old;
    only = sound.only;
    live = λ x h.
        let n = length_push ts t in
        let c = default_more ls 0 x in
        let old = counts_old x in
        ⊎_elim
        (λ e. let z = get_or_past ls x 0 (omega arith) in let w = ap (λ y. count_by (counts_at (parents_of (ts ++ t ∷ [])) y) bs) e ∙ counts_new in omega arith)
        (⊎_elim (λ lt. let l = sound.live x lt in omega arith) (λ gt. absurd (omega arith)))
        (cases_order x (length ts));
  }

  -- A process that turns into the new place, right above which it was at home.
  module _ (i : ℕ) (in_table : i < length bs) (lives : (birth_at bs i).live ≡ true) (above : t.parent ≡ (birth_at bs i).at) (no_target : target_sort t.sort ≡ false) (sized : length ls ≡ length ts) where
    -- what held its old home holds the new one
    held_same : (x : ℕ) → x < length ts → holds (parents_of (ts ++ t ∷ [])) x (length ts) ≡ holds (parents_of (ts ++ t ∷ [])) x (birth_at bs i).at
    held_same x h =
        holds_more (parents_of (ts ++ t ∷ [])) (earlier_more ts t earlier within) x (length ts) (omega arith)
        ∙ ap (λ b. b || holds (parents_of (ts ++ t ∷ [])) x (up (parents_of (ts ++ t ∷ [])) (length ts))) (ne_eqb x (length ts) (λ e. omega arith))
        ∙ ap (holds (parents_of (ts ++ t ∷ [])) x) (up_new ts t ∙ above)

    held_itself : holds (parents_of (ts ++ t ∷ [])) (length ts) (length ts) ≡ true
    held_itself =
        holds_more (parents_of (ts ++ t ∷ [])) (earlier_more ts t earlier within) (length ts) (length ts) (omega arith)
        ∙ ap (λ b. b || holds (parents_of (ts ++ t ∷ [])) (length ts) (up (parents_of (ts ++ t ∷ [])) (length ts))) (eq-eqb (length ts) (length ts) refl)

    pub births_make : SoundBirths (slice_set bs i (record { process = (birth_at bs i).process; at = length ts; live = (birth_at bs i).live })) (ts ++ t ∷ []) (ls ++ 1 ∷ [])
    births_make =
        let b : Birth ℕ = record { process = (birth_at bs i).process; at = length ts; live = (birth_at bs i).live } in
        let us = parents_of (ts ++ t ∷ []) in
        let n = length_push ts t in
        record {
          housed = set_cases bs i b in_table (λ j y. y.at < length (ts ++ t ∷ [])) (λ j h ne. housed_old j h) (omega arith);
          homely = set_cases bs i b in_table (λ j y. target_sort (shape_at (ts ++ t ∷ []) y.at).sort ≡ false) (λ j h ne. homely_old j h)
              (ap (λ (s : Shape). target_sort s.sort) (shape_new ts t refl) ∙ no_target);
          only = λ j k hj hk lj lk same.
              let m = length-set bs i b in
              let seen : (x : ℕ) → x < length (slice_set bs i b) → ((birth_at (slice_set bs i b) x).live ≡ (birth_at bs x).live) × ((birth_at (slice_set bs i b) x).process ≡ (birth_at bs x).process) =
              set_cases bs i b in_table (λ x y. (y.live ≡ (birth_at bs x).live) × (y.process ≡ (birth_at bs x).process)) (λ x h ne. (refl, refl)) (refl, refl) in
              sound.only j k (omega arith) (omega arith) (sym (seen j hj).0 ∙ lj) (sym (seen k hk).0 ∙ lk) (sym (seen j hj).1 ∙ same ∙ (seen k hk).1);
          live = λ x h.
              let swap = sum_by-set (λ y. cond (counts_at us x y) 1 0) bs i b no_birth in_table in
              let old = counts_old x in
              ⊎_elim
              (λ e.
              let z = ap (λ y. count_by (counts_at us y) bs) e ∙ counts_new in
              let was : ◌≡◌ {A = ℕ} (cond (counts_at us x (birth_at bs i)) 1 0) 0 = (λ j. cond (lives j && holds us (e j) (birth_at bs i).at) 1 0) ∙ (λ j. cond (not_held i in_table j) 1 0) in
              let is : ◌≡◌ {A = ℕ} (cond (counts_at us x b) 1 0) 1 = (λ j. cond (lives j && holds us (e j) (length ts)) 1 0) ∙ (λ j. cond (held_itself j) 1 0) in
              let l = get_or_push ls 1 0 x (sized ∙ sym e) in
              omega arith)
              (⊎_elim
              (λ lt.
              let same : ◌≡◌ {A = ℕ} (cond (counts_at us x b) 1 0) (cond (counts_at us x (birth_at bs i)) 1 0) = λ j. cond ((birth_at bs i).live && held_same x lt j) 1 0 in
              let l = get_or_append_left ls (1 ∷ []) 0 x (omega arith) in
              let o = sound.live x lt in
              omega arith)
              (λ gt. absurd (omega arith)))
              (cases_order x (length ts));
        }

-- A process born at x.
module _ (ts : List Shape) (bs : List (Birth ℕ)) (ls after : List ℕ) (sound : SoundBirths bs ts ls) (p x : ℕ) (within : x < length ts) (no_target : target_sort (shape_at ts x).sort ≡ false)
    (nobody : (i : ℕ) → i < length bs → (birth_at bs i).live ≡ true → (birth_at bs i).process ≢ p)
    (one_more : (y : ℕ) → y < length ts → slice_index after y ≡ cond (holds (parents_of ts) y x) (slice_index ls y + 1) (slice_index ls y)) where
  counted : (b : Bool) (l n : ℕ) → l ≡ n → cond b (l + 1) l ≡ n + cond b 1 0
  counted true l n e = omega arith
  counted false l n e = omega arith

  pub births_born : SoundBirths (bs ++ record { process = p; at = x; live = true } ∷ []) ts after
  births_born =
      let b : Birth ℕ = record { process = p; at = x; live = true } in
      record {
        housed = birth_cases bs b (λ i y. y.at < length ts) sound.housed within;
        homely = birth_cases bs b (λ i y. target_sort (shape_at ts y.at).sort ≡ false) sound.homely no_target;
        only = λ i j hi hj li lj same.
            birth_cases bs b (λ k y. y.live ≡ true → y.process ≡ (birth_at (bs ++ b ∷ []) j).process → k ≡ j)
            (λ k h l e.
            birth_cases bs b (λ m y. y.live ≡ true → (birth_at bs k).process ≡ y.process → k ≡ m)
            (λ m h' l' e'. sound.only k m h h' l l' e') (λ l' e'. absurd (nobody k h l e')) j hj lj e)
            (λ l e.
            birth_cases bs b (λ m y. y.live ≡ true → p ≡ y.process → length bs ≡ m)
            (λ m h' l' e'. absurd (nobody m h' l' (sym e'))) (λ l' e'. refl) j hj lj e)
            i hi li same;
        live = λ y h.
            one_more y h ∙ counted (holds (parents_of ts) y x) (slice_index ls y) _ (sound.live y h) ∙ sym (sum_by_push (λ z. cond (counts_at (parents_of ts) y z) 1 0) bs b);
      }

-- A process that dies.
module _ (ts : List Shape) (bs : List (Birth ℕ)) (ls after : List ℕ) (sound : SoundBirths bs ts ls) (i : ℕ) (in_table : i < length bs) (lives : (birth_at bs i).live ≡ true)
    (one_less : (y : ℕ) → y < length ts → slice_index after y ≡ cond (holds (parents_of ts) y (birth_at bs i).at) (slice_index ls y - 1) (slice_index ls y)) where
  left : (b : Bool) (l n m : ℕ) → l ≡ n → m + cond b 1 0 ≡ n + 0 → cond b (l - 1) l ≡ m
  left true l n m e d = omega arith
  left false l n m e d = omega arith

  pub births_dead : SoundBirths (slice_set bs i (record { process = (birth_at bs i).process; at = (birth_at bs i).at; live = false })) ts after
  births_dead =
      let b : Birth ℕ = record { process = (birth_at bs i).process; at = (birth_at bs i).at; live = false } in
      let us = parents_of ts in
      record {
        housed = set_cases bs i b in_table (λ j y. y.at < length ts) (λ j h ne. sound.housed j h) (sound.housed i in_table);
        homely = set_cases bs i b in_table (λ j y. target_sort (shape_at ts y.at).sort ≡ false) (λ j h ne. sound.homely j h) (sound.homely i in_table);
        only = λ j k hj hk lj lk same.
            let m = length-set bs i b in
            let seen : (x : ℕ) → x < length (slice_set bs i b) → (birth_at (slice_set bs i b) x).live ≡ true → ((birth_at bs x).live ≡ true) × ((birth_at (slice_set bs i b) x).process ≡ (birth_at bs x).process) =
            set_cases bs i b in_table (λ x y. y.live ≡ true → ((birth_at bs x).live ≡ true) × (y.process ≡ (birth_at bs x).process)) (λ x h ne l. (l, refl)) (λ l. absurd (false≢true l)) in
            sound.only j k (omega arith) (omega arith) (seen j hj lj).0 (seen k hk lk).0 (sym (seen j hj lj).1 ∙ same ∙ (seen k hk lk).1);
        live = λ y h.
            let swap = sum_by-set (λ z. cond (counts_at us y z) 1 0) bs i b no_birth in_table in
            one_less y h ∙ left (holds us y (birth_at bs i).at) (slice_index ls y) _ _ (sound.live y h) ((λ j. count_by (counts_at us y) (slice_set bs i b) + cond (sym lives j && holds us y (birth_at bs i).at) 1 0) ∙ swap);
      }
