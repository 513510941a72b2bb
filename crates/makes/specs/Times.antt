-- The starts and ends of makes and steps, event by event.
use Rattle.std.specs.Prelude.{◌≡◌, ℕ, ◌+◌, ◌<◌, ◌≤◌, Bool, true, false, cond, ◌⊎◌, List, [], ◌∷◌, ◌++◌, length, get_or, is_some, Some, None, Option, ◌==◌, ◌≢◌, nat_eq, slice_index, slice_index_or, slice_set, refl}
use Rattle.std.proofs.Common.{⊎_elim, sym, ap, subst, ◌∙◌, arith}
use Rattle.std.proofs.lemmas.Option.{none-some, same_Some}
use Rattle.std.proofs.lemmas.List.{length_push, length-set, get_or_append_left, get_or_push, get_or_past, get_or-set_same, get_or-set_other}
use Rattle.std.proofs.lemmas.Bool.{false≢true, ne_eqb, cases_eq, cases_order}
use Rattle.makes.specs.Places.{step, Shape, shape_at, parents_of}
use Rattle.makes.specs.Sound.{lasting, SoundTree, SoundTimes}
use Rattle.makes.specs.Tree.{up, holds}
use Rattle.makes.specs.Shapes.{shape_old, new_or_old, shape_new, up_old, up_new, above_target, above_step}

-- a later number
pub times_later : (n m : ℕ) (ts : List Shape) (ls : List ℕ) (ss es : List (Option ℕ)) → n ≤ m → SoundTimes n ts ls ss es → SoundTimes m ts ls ss es
times_later n m ts ls ss es h sound = record {
  past = λ x k e. let p = sound.past x k e in omega arith;
  forward = sound.forward;
  started = sound.started;
  over = sound.over;
}

-- an element more at the end
module _ {X : Type 0} (xs : List X) (y d : X) where
  pub seen_cases : (P : ℕ → X → Type 0) → ((x : ℕ) → x < length xs → P x (slice_index_or xs x d)) → P (length xs) y → ((x : ℕ) → length xs < x → P x d) → (x : ℕ) → P x (slice_index_or (xs ++ y ∷ []) x d)
  seen_cases P old new past x =
      let n = length_push xs y in
      ⊎_elim
      (λ e. subst (λ z. P z (slice_index_or (xs ++ y ∷ []) z d)) (sym e) (subst (P (length xs)) (sym (get_or_push xs y d (length xs) refl)) new))
      (⊎_elim
      (λ lt. subst (P x) (sym (get_or_append_left xs (y ∷ []) d x lt)) (old x lt))
      (λ gt. subst (P x) (sym (get_or_past (xs ++ y ∷ []) x d (omega arith))) (past x gt)))
      (cases_order x (length xs))

-- where the parent's parent of a step stands, in the first places of a longer tree
module _ (ts : List Shape) (t : Shape) (tree : SoundTree ts) (x : ℕ) (within : x < length ts) (is-step : (shape_at ts x).sort ≡ step) where
  pub twice_up : (up (parents_of (ts ++ t ∷ [])) (up (parents_of (ts ++ t ∷ [])) x) ≡ up (parents_of ts) (up (parents_of ts) x)) × (up (parents_of ts) (up (parents_of ts) x) < length ts)
  twice_up =
      let a = above_step ts tree x within is-step in
      let below : up (parents_of ts) x < length ts = let l = a.1 in omega arith in
      let b = above_target ts tree (up (parents_of ts) x) below a.2 in
      (ap (up (parents_of (ts ++ t ∷ []))) (up_old ts t x within) ∙ up_old ts t (up (parents_of ts) x) below, let l = a.1 in let m = b.1 in omega arith)

-- where somebody was, one more ends nothing
still_open : (b : Bool) (o : Option ℕ) (l : ℕ) → (b ≡ true → 0 < l) → is_some o ≡ (l == 0) → is_some o ≡ (cond b (l + 1) l == 0)
still_open true o l some was = let lt = some refl in was ∙ ne_eqb l 0 (λ z. omega arith) ∙ sym (ne_eqb (l + 1) 0 (λ z. omega arith))
still_open false o l some was = was

-- A place more.
module _ (n : ℕ) (ts : List Shape) (ls : List ℕ) (ss es : List (Option ℕ)) (sound : SoundTimes n ts ls ss es) (t : Shape) (l : ℕ) (tree : SoundTree ts)
    (sized-l : length ls ≡ length ts) (sized-s : length ss ≡ length ts) (sized-e : length es ≡ length ts) where
  new_sort : (x : ℕ) → x ≡ length ts → (shape_at (ts ++ t ∷ []) x).sort ≡ t.sort
  new_sort x is = ap (λ (s : Shape). s.sort) (shape_new ts t is)

  old_sort : (x : ℕ) → x < length ts → (shape_at (ts ++ t ∷ []) x).sort ≡ (shape_at ts x).sort
  old_sort x lt = ap (λ (s : Shape). s.sort) (shape_old ts t x lt)

  -- One that has not started: a make or a target.
  pub times_place : (t.sort ≢ step) → (lasting t.sort ≡ true → (l == 0) ≡ false) → SoundTimes (n + 1) (ts ++ t ∷ []) (ls ++ l ∷ []) (ss ++ None ∷ []) (es ++ None ∷ [])
  times_place no_step open-new = record {
    past = λ x k. seen_cases ss None None (λ y o. o ≡ Some k → k ≤ n + 1) (λ y h e. let p = sound.past y k e in omega arith) (λ e. absurd (none-some _ e)) (λ y h e. absurd (none-some _ e)) x;
    forward = λ x k m.
        seen_cases ss None None (λ y o. o ≡ Some k → slice_index_or (es ++ None ∷ []) y None ≡ Some m → k ≤ m)
        (λ y h e d. sound.forward y k m e (sym (get_or_append_left es (None ∷ []) None y (omega arith)) ∙ d)) (λ e d. absurd (none-some _ e)) (λ y h e d. absurd (none-some _ e)) x;
    started = λ x h e.
        ⊎_elim
        (λ is. absurd (no_step (sym (new_sort x is) ∙ e)))
        (λ lt.
        let s = sym (old_sort x lt) ∙ e in
        let two = twice_up ts t tree x lt s in
        let low = two.1 in
        ap (λ y. is_some (slice_index_or (ss ++ None ∷ []) y None)) two.0
        ∙ ap is_some (get_or_append_left ss (None ∷ []) None (up (parents_of ts) (up (parents_of ts) x)) (omega arith))
        ∙ sound.started x lt s)
        (new_or_old ts t x h);
    over = λ x h lasts.
        ⊎_elim
        (λ is.
        ap is_some (get_or_push es None None x (sized-e ∙ sym is)) ∙ sym (open-new (sym (ap lasting (new_sort x is)) ∙ lasts)) ∙ ap (λ z. nat_eq z 0) (sym (get_or_push ls l 0 x (sized-l ∙ sym is))))
        (λ lt.
        ap is_some (get_or_append_left es (None ∷ []) None x (omega arith)) ∙ sound.over x lt (sym (ap lasting (old_sort x lt)) ∙ lasts)
        ∙ ap (λ z. nat_eq z 0) (sym (get_or_append_left ls (l ∷ []) 0 x (omega arith))))
        (new_or_old ts t x h);
  }

  -- A step that starts now, below a target of the make m, which has begun; where the step counts, somebody was before it.
  module _ (m : ℕ) (m_within : m < length ts) (begun : Option ℕ) (begun_is : (begun ≡ slice_index_or ss m None) ⊎ ((slice_index_or ss m None ≡ None) × (begun ≡ Some (n + 1)))) (begun_some : is_some begun ≡ true)
      (m_open : is_some (slice_index_or es m None) ≡ false) (t_within : t.parent < length ts) (t-above : up (parents_of ts) t.parent ≡ m) (after : List ℕ)
      (one_more : (y : ℕ) → y < length ts → slice_index after y ≡ cond (holds (parents_of (ts ++ t ∷ [])) y (length ts)) (slice_index ls y + 1) (slice_index ls y)) (new-one : get_or after (length ts) 0 ≡ 1)
      (peopled : (y : ℕ) → y < length ts → holds (parents_of (ts ++ t ∷ [])) y (length ts) ≡ true → lasting (shape_at ts y).sort ≡ true → 0 < slice_index ls y) where
    begun_past : (k : ℕ) → begun ≡ Some k → k ≤ n + 1
    begun_past k e =
        ⊎_elim (λ same. let p = sound.past m k (sym same ∙ e) in omega arith) (λ new. let q = same_Some _ _ (sym new.1 ∙ e) in omega arith) begun_is

    pub times_step : SoundTimes (n + 1) (ts ++ t ∷ []) after (slice_set ss m begun ++ Some (n + 1) ∷ []) (es ++ None ∷ [])
    times_step =
        let long = length-set ss m begun in
        record {
          past = λ x k.
              seen_cases (slice_set ss m begun) (Some (n + 1)) None (λ y o. o ≡ Some k → k ≤ n + 1)
              (λ y h e. ⊎_elim
              (λ is. begun_past k (sym (ap (λ z. get_or (slice_set ss m begun) z None) is ∙ get_or-set_same ss m begun None (omega arith)) ∙ e))
              (λ ne. let p = sound.past y k (sym (get_or-set_other ss m y begun None ne) ∙ e) in omega arith)
              (cases_eq y m))
              (λ e. let q = same_Some _ _ e in omega arith) (λ y h e. absurd (none-some _ e)) x;
          forward = λ x k z.
              seen_cases (slice_set ss m begun) (Some (n + 1)) None (λ y o. o ≡ Some k → slice_index_or (es ++ None ∷ []) y None ≡ Some z → k ≤ z)
              (λ y h e d.
              let same = sym (get_or_append_left es (None ∷ []) None y (omega arith)) ∙ d in
              ⊎_elim
              (λ is. absurd (false≢true (sym m_open ∙ ap is_some (ap (λ w. get_or es w None) (sym is) ∙ same))))
              (λ ne. sound.forward y k z (sym (get_or-set_other ss m y begun None ne) ∙ e) same)
              (cases_eq y m))
              (λ e d. absurd (none-some _ (sym (get_or_push es None None (length (slice_set ss m begun)) (sized-e ∙ sym (long ∙ sized-s))) ∙ d)))
              (λ y h e d. absurd (none-some _ e)) x;
          started = λ x h e.
              ⊎_elim
              (λ is.
              ap (λ y. is_some (slice_index_or (slice_set ss m begun ++ Some (n + 1) ∷ []) y None)) (ap (λ y. up (parents_of (ts ++ t ∷ [])) (up (parents_of (ts ++ t ∷ [])) y)) is ∙ ap (up (parents_of (ts ++ t ∷ []))) (up_new ts t) ∙ up_old ts t t.parent t_within ∙ t-above)
              ∙ ap is_some (get_or_append_left (slice_set ss m begun) (Some (n + 1) ∷ []) None m (omega arith) ∙ get_or-set_same ss m begun None (omega arith))
              ∙ begun_some)
              (λ lt.
              let s = sym (old_sort x lt) ∙ e in
              let two = twice_up ts t tree x lt s in
              let low = two.1 in
              ap (λ y. is_some (slice_index_or (slice_set ss m begun ++ Some (n + 1) ∷ []) y None)) two.0
              ∙ ap is_some (get_or_append_left (slice_set ss m begun) (Some (n + 1) ∷ []) None (up (parents_of ts) (up (parents_of ts) x)) (omega arith))
              ∙ ⊎_elim
              (λ is. ap is_some (ap (λ w. get_or (slice_set ss m begun) w None) is ∙ get_or-set_same ss m begun None (omega arith)) ∙ begun_some)
              (λ ne. ap is_some (get_or-set_other ss m (up (parents_of ts) (up (parents_of ts) x)) begun None ne) ∙ sound.started x lt s)
              (cases_eq (up (parents_of ts) (up (parents_of ts) x)) m))
              (new_or_old ts t x h);
          over = λ x h lasts.
              ⊎_elim
              (λ is. ap is_some (get_or_push es None None x (sized-e ∙ sym is)) ∙ sym (ap (λ z. nat_eq z 0) (ap (λ y. slice_index after y) is ∙ new-one)))
              (λ lt.
              let last = sym (ap lasting (old_sort x lt)) ∙ lasts in
              ap is_some (get_or_append_left es (None ∷ []) None x (omega arith))
              ∙ still_open (holds (parents_of (ts ++ t ∷ [])) x (length ts)) (slice_index_or es x None) (slice_index ls x) (λ held. peopled x lt held last) (sound.over x lt last)
              ∙ ap (λ z. nat_eq z 0) (sym (one_more x lt)))
              (new_or_old ts t x h);
        }

-- A process born where somebody was: nothing starts or ends.
pub times_born : (n : ℕ) (ts : List Shape) (ls after : List ℕ) (ss es : List (Option ℕ)) → SoundTimes n ts ls ss es → (x : ℕ)
    → ((y : ℕ) → y < length ts → slice_index after y ≡ cond (holds (parents_of ts) y x) (slice_index ls y + 1) (slice_index ls y))
    → ((y : ℕ) → y < length ts → holds (parents_of ts) y x ≡ true → lasting (shape_at ts y).sort ≡ true → 0 < slice_index ls y)
    → SoundTimes (n + 1) ts after ss es
times_born n ts ls after ss es sound x one_more peopled = record {
  past = λ y k e. let p = sound.past y k e in omega arith;
  forward = sound.forward;
  started = sound.started;
  over = λ y h lasts. still_open (holds (parents_of ts) y x) (slice_index_or es y None) (slice_index ls y) (λ held. peopled y h held lasts) (sound.over y h lasts) ∙ ap (λ z. nat_eq z 0) (sym (one_more y h));
}

-- A death: what the last process leaves ends now.
pub times_dead : (n : ℕ) (ts : List Shape) (ls after : List ℕ) (ss es es' : List (Option ℕ)) → SoundTimes n ts ls ss es
    → ((x : ℕ) → (slice_index_or es' x None ≡ slice_index_or es x None) ⊎ ((slice_index_or es x None ≡ None) × (slice_index_or es' x None ≡ Some (n + 1))))
    → ((x : ℕ) → x < length ts → lasting (shape_at ts x).sort ≡ true → is_some (slice_index_or es' x None) ≡ (slice_index after x == 0))
    → SoundTimes (n + 1) ts after ss es'
times_dead n ts ls after ss es es' sound ended over = record {
  past = λ y k e. let p = sound.past y k e in omega arith;
  forward = λ x k z e d.
      ⊎_elim (λ same. sound.forward x k z e (sym same ∙ d)) (λ new. let p = sound.past x k e in let q = same_Some _ _ (sym new.1 ∙ d) in omega arith) (ended x);
  started = sound.started;
  over = over;
}
