-- Over a run, the starts and ends in the state are those that the calls tell.
use Rattle.std.proofs.Common.{◌≡◌, ℕ, suc, ◌+◌, ◌<◌, true, false, eqb, ◌⊎◌, List, [], ◌∷◌, ◌++◌, length, get_or, set, is_some, Some, None, Option, sym, refl, ap, ◌∙◌, subst, inl, inr, ⊎_elim, add-one, arith}
use Rattle.std.proofs.lemmas.Option.{none-some, same_Some}
use Rattle.std.proofs.lemmas.List.{length-map, length-set, get_or_push, get_or_past, get_or_append_left, get_or-set_same, get_or-set_other}
use Rattle.std.proofs.lemmas.Bool.{false≢true, eqb-true, eqb-false, eq-eqb, ne_eqb, cases_eq, cases_lt, cases_order}
use Rattle.order.specs.Events.{birth, make, target, death, post, await}
use Rattle.order.specs.Runs.{Call, tell, stamp}
use Rattle.makes.specs.declared.places.Kind.{Kind}
use Rattle.makes.specs.declared.places.Kind.TheVariants.{Session, Make, Target, Step}
use Rattle.makes.specs.declared.places.Place.{Place}
use Rattle.makes.specs.Machine.{Build, born_at, with_step, turned_make, declared, died, counted}
use Rattle.makes.specs.Places.{make as a_make, step, sort_of, is_make, start_of, end_of, kind_begun, kind_at, Shape, shape, shapes, shape_at, lives, starts, ends, stand}
use Rattle.makes.specs.Runs.{make_in, Peopled, own, Begun, begun_now, begun_before, Starts, step_born, first_step, started_before, Ended, last_death, ended_before}
use Rattle.makes.specs.Sound.{lasting, Sound}
use Rattle.makes.specs.Entries.{more_starts, more_ends}
use Rattle.makes.specs.Columns.{new_step, ready_starts, ready_ends, made_starts, made_ends, grown_starts, grown_ends}
use Rattle.makes.specs.Deaths.{died_shapes, died_starts}
use Rattle.makes.specs.Later.{Later, some_of}
use Rattle.makes.proofs.RunsEvents.{Parent}
use Rattle.makes.proofs.RunsPeopled.{peopled_to, peopled_from, peopled_within}
use Rattle.makes.proofs.RunsPlaces.{Follows, same_size, more_size, new_shape, size, parent_make, parent_within, step_shapes}
use Rattle.makes.specs.Shapes.{shape_is, make_shape, step_make}
use Rattle.makes.specs.Slots.{default_more}
use Rattle.makes.specs.Sorts.{begun_start, begun_some}
use Rattle.makes.specs.Views.{start_is, end_is}

-- the starts and ends in the state, and what the calls tell
pub record Timed (calls : List Call) (s : Build) : Type 0 where
  pub begun : (m : ℕ) → Begun m calls → is_some (get_or (starts s.places) m None) ≡ true
  pub begun_to : (m n : ℕ) → (shape_at (shapes s.places) m).sort ≡ a_make → get_or (starts s.places) m None ≡ Some n → Begun m calls
  pub starts_to : (x n : ℕ) → get_or (starts s.places) x None ≡ Some n → Starts x calls n
  pub starts_from : (x n : ℕ) → Starts x calls n → get_or (starts s.places) x None ≡ Some n
  pub ends_to : (x n : ℕ) → get_or (ends s.places) x None ≡ Some n → Ended x calls n
  pub ends_from : (x n : ℕ) → lasting (shape_at (shapes s.places) x).sort ≡ true → Ended x calls n → get_or (ends s.places) x None ≡ Some n
  pub ends_within : (x n : ℕ) → Ended x calls n → x < length s.places

-- the number of the next call
next_number : {calls : List Call} {s : Build} → Follows calls s → s.number + 1 ≡ suc (length calls)
next_number {s = s} f = add-one s.number ∙ ap suc f.counted

-- what is there is within the list
some_within : (xs : List (Option ℕ)) (x n : ℕ) → get_or xs x None ≡ Some n → x < length xs
some_within xs x n e = ⊎_elim (λ h. h) (λ past. absurd (none-some _ (sym (get_or_past xs x None past) ∙ e))) (cases_lt x (length xs))

not_there : (o : Option ℕ) → is_some o ≡ false → o ≡ None
not_there None e = refl
not_there (Some n) e = absurd (false≢true (sym e))

-- what ends is a make or a step
ended_lasts : (k : Kind) (n : ℕ) → end_of k ≡ Some n → lasting (sort_of k) ≡ true
ended_lasts Session n e = absurd (none-some _ e)
ended_lasts (Make m) n e = refl
ended_lasts (Target row) n e = absurd (none-some _ e)
ended_lasts (Step start end) n e = refl

pub ends_last : (ps : List Place) (x n : ℕ) → get_or (ends ps) x None ≡ Some n → lasting (shape_at (shapes ps) x).sort ≡ true
ends_last ps x n e = ap (λ (y : Shape). lasting y.sort) (shape_is ps x) ∙ ended_lasts (kind_at ps x) n (sym (end_is ps x) ∙ e)

-- what has started or ended is in the table
pub start_within : (s : Build) (x n : ℕ) → get_or (starts s.places) x None ≡ Some n → x < length s.places
start_within s x n e = let w = some_within (starts s.places) x n e in let z = length-map s.places (λ (y : Place). start_of y.kind) in omega arith

pub end_within : (s : Build) (x n : ℕ) → get_or (ends s.places) x None ≡ Some n → x < length s.places
end_within s x n e = let w = some_within (ends s.places) x n e in let z = length-map s.places (λ (y : Place). end_of y.kind) in omega arith

-- the calls that start and end nothing: all but a birth that names a target and a death
abbrev Idle : Call → Type 0
Idle (tell (birth p q t)) = t ≡ 0
Idle (tell (make p)) = Unit {0}
Idle (tell (target p ks)) = Unit {0}
Idle (tell (death p)) = ⊥
Idle (tell (post p f)) = Unit {0}
Idle (tell (await p f)) = Unit {0}
Idle (stamp p) = Unit {0}

begun_idle : {calls : List Call} {c : Call} {m : ℕ} → Idle c → Begun m (c ∷ calls) → Begun m calls
begun_idle idle (begun_now ne h) = absurd (ne idle)
begun_idle idle (begun_before b) = b

starts_idle : {calls : List Call} {c : Call} {x n : ℕ} → Idle c → Starts x (c ∷ calls) n → Starts x calls n
starts_idle idle (step_born ne h) = absurd (ne idle)
starts_idle idle (first_step ne h i) = absurd (ne idle)
starts_idle idle (started_before b) = b

ended_idle : {calls : List Call} {c : Call} {x n : ℕ} → Idle c → Ended x (c ∷ calls) n → Ended x calls n
ended_idle idle (last_death some gone) = absurd idle
ended_idle idle (ended_before b) = b

ended_birth : {calls : List Call} {x p q t n : ℕ} → Ended x (tell (birth p q t) ∷ calls) n → Ended x calls n
ended_birth (ended_before b) = b

begun_death : {calls : List Call} {m p : ℕ} → Begun m (tell (death p) ∷ calls) → Begun m calls
begun_death (begun_before b) = b

starts_death : {calls : List Call} {x p n : ℕ} → Starts x (tell (death p) ∷ calls) n → Starts x calls n
starts_death (started_before b) = b

-- A call that starts and ends nothing.
module _ {calls : List Call} (c : Call) (s t : Build) (timed : Timed calls s) (later : Later s t) where
  lasts_before : (x : ℕ) → x < length s.places → lasting (shape_at (shapes t.places) x).sort ≡ true → lasting (shape_at (shapes s.places) x).sort ≡ true
  lasts_before x w e = sym (ap (λ (y : Shape). lasting y.sort) (later.shape x w)) ∙ e

  module _ (idle : Idle c)
      (same_starts : (x : ℕ) → get_or (starts t.places) x None ≡ get_or (starts s.places) x None) (same_ends : (x : ℕ) → get_or (ends t.places) x None ≡ get_or (ends s.places) x None) where
    pub quiet : Timed (c ∷ calls) t
    quiet = record {
      begun = λ m b. ap is_some (same_starts m) ∙ timed.begun m (begun_idle idle b);
      begun_to = λ m n l e.
          let was = sym (same_starts m) ∙ e in
          begun_before (timed.begun_to m n (sym (ap (λ (y : Shape). y.sort) (later.shape m (start_within s m n was))) ∙ l) was);
      starts_to = λ x n e. started_before (timed.starts_to x n (sym (same_starts x) ∙ e));
      starts_from = λ x n e. same_starts x ∙ timed.starts_from x n (starts_idle idle e);
      ends_to = λ x n e. ended_before (timed.ends_to x n (sym (same_ends x) ∙ e));
      ends_from = λ x n l e. let old = ended_idle idle e in same_ends x ∙ timed.ends_from x n (lasts_before x (timed.ends_within x n old) l) old;
      ends_within = λ x n e. let w = timed.ends_within x n (ended_idle idle e) in let l = later.longer in omega arith;
    }

module _ {calls : List Call} (s : Build) (timed : Timed calls s) where
  pub born_timed : (p q t h : ℕ) → eqb t 0 ≡ true → Later s (born_at s p s.places (stand s.places h)) → Timed (tell (birth p q t) ∷ calls) (born_at s p s.places (stand s.places h))
  born_timed p q t h e later =
      let x = stand s.places h in
      quiet (tell (birth p q t)) s (born_at s p s.places x) timed later (eqb-true t 0 e)
      (λ y. ap (λ zs. get_or zs y None) (more_starts s.places x)) (λ y. ap (λ zs. get_or zs y None) (more_ends s.places x))

  pub make_timed : (p i : ℕ) → Later s (turned_make s i) → Timed (tell (make p) ∷ calls) (turned_make s i)
  make_timed p i later =
      quiet (tell (make p)) s (turned_make s i) timed later tt
      (λ y. ap (λ zs. get_or zs y None) (made_starts s i) ∙ default_more (starts s.places) None y)
      (λ y. ap (λ zs. get_or zs y None) (made_ends s i) ∙ default_more (ends s.places) None y)

  pub target_timed : (p h : ℕ) (ks : List ℕ) → Later s (declared s h ks) → Timed (tell (target p ks) ∷ calls) (declared s h ks)
  target_timed p h ks later =
      quiet (tell (target p ks)) s (declared s h ks) timed later tt
      (λ y. ap (λ zs. get_or zs y None) (grown_starts s h ks) ∙ default_more (starts s.places) None y)
      (λ y. ap (λ zs. get_or zs y None) (grown_ends s h ks) ∙ default_more (ends s.places) None y)

  pub stamp_timed : (p : ℕ) → Later s (counted s) → Timed (stamp p ∷ calls) (counted s)
  stamp_timed p later = quiet (stamp p) s (counted s) timed later tt (λ y. refl) (λ y. refl)

-- A death: what the last process leaves ends.
module _ {calls : List Call} (s : Build) (f : Follows calls s) (sound : Sound s) (timed : Timed calls s) (p i : ℕ) (on : Follows (tell (death p) ∷ calls) (died s i)) (sound-on : Sound (died s i))
    (later : Later s (died s i)) where
  -- ended exactly if nobody peoples it
  peopled_open : (x : ℕ) → x < length s.places → lasting (shape_at (shapes s.places) x).sort ≡ true → Peopled calls x → get_or (ends s.places) x None ≡ None
  peopled_open x w l on-x =
      let some = peopled_from f sound x on-x in
      let z = length-map s.places shape in
      not_there _ (sound.times.over x (omega arith) l ∙ ne_eqb (get_or (lives s.places) x 0) 0 (λ e. omega arith))

  pub death_timed : Timed (tell (death p) ∷ calls) (died s i)
  death_timed = record {
    begun = λ m b. ap (λ zs. is_some (get_or zs m None)) (died_starts s i) ∙ timed.begun m (begun_death b);
    begun_to = λ m n l e.
        let was = sym (ap (λ zs. get_or zs m None) (died_starts s i)) ∙ e in
        begun_before (timed.begun_to m n (sym (ap (λ (y : Shape). y.sort) (later.shape m (start_within s m n was))) ∙ l) was);
    starts_to = λ x n e. started_before (timed.starts_to x n (sym (ap (λ zs. get_or zs x None) (died_starts s i)) ∙ e));
    starts_from = λ x n e. ap (λ zs. get_or zs x None) (died_starts s i) ∙ timed.starts_from x n (starts_death e);
    ends_to = ends_to_on;
    ends_from = ends_from_on;
    ends_within = within_on;
  }
    where
      last_of : (x n : ℕ) → x < length s.places → get_or (ends s.places) x None ≡ None → get_or (ends (died s i).places) x None ≡ Some n → Peopled calls x × (Peopled (tell (death p) ∷ calls) x → ⊥)
      last_of x n w was is =
          let z = length-map s.places shape in
          let z' = length-map (died s i).places shape in
          let n' = same_size s (died s i) (died_shapes s i) in
          let lasts = ends_last (died s i).places x n is in
          let lasted = sym (ap (λ (y : Shape). lasting y.sort) (later.shape x w)) ∙ lasts in
          let busy = eqb-false _ 0 (sym (sound.times.over x (omega arith) lasted) ∙ ap is_some was) in
          let shut = eqb-true _ 0 (sym (sound-on.times.over x (omega arith) lasts) ∙ ap is_some is) in
          (peopled_to f sound x w (omega arith), λ some. let lt = peopled_from on sound-on x some in omega arith)

      ends_to_on : (x n : ℕ) → get_or (ends (died s i).places) x None ≡ Some n → Ended x (tell (death p) ∷ calls) n
      ends_to_on x n e =
          let lt = end_within (died s i) x n e in
          let n' = same_size s (died s i) (died_shapes s i) in
          let w : x < length s.places = omega arith in
          ⊎_elim
          (λ same. ended_before (timed.ends_to x n (sym same ∙ e)))
          (λ new.
          let both = last_of x (s.number + 1) w new.0 new.1 in
          subst (Ended x (tell (death p) ∷ calls)) (sym (next_number f) ∙ same_Some _ _ (sym new.1 ∙ e)) (last_death both.0 both.1))
          (later.ends x w)

      within_on : (x n : ℕ) → Ended x (tell (death p) ∷ calls) n → x < length (died s i).places
      within_on x n (last_death some gone) = let w = peopled_within f sound x some in let n' = same_size s (died s i) (died_shapes s i) in omega arith
      within_on x n (ended_before e) = let w = timed.ends_within x n e in let n' = same_size s (died s i) (died_shapes s i) in omega arith

      ends_from_on : (x n : ℕ) → lasting (shape_at (shapes (died s i).places) x).sort ≡ true → Ended x (tell (death p) ∷ calls) n → get_or (ends (died s i).places) x None ≡ Some n
      ends_from_on x n l (ended_before e) =
          let w = timed.ends_within x n e in
          let was = timed.ends_from x n (sym (ap (λ (y : Shape). lasting y.sort) (later.shape x w)) ∙ l) e in
          ⊎_elim (λ same. same ∙ was) (λ new. absurd (none-some _ (sym new.0 ∙ was))) (later.ends x w)
      ends_from_on x n l (last_death some gone) =
          let w = peopled_within f sound x some in
          let n' = same_size s (died s i) (died_shapes s i) in
          let z' = length-map (died s i).places shape in
          let was = peopled_open x w (sym (ap (λ (y : Shape). lasting y.sort) (later.shape x w)) ∙ l) some in
          let empty : get_or (lives (died s i).places) x 0 ≡ 0 =
          ⊎_elim (λ e. e) (λ ne. absurd (gone (peopled_to on sound-on x (omega arith) (omega arith)))) (cases_eq (get_or (lives (died s i).places) x 0) 0) in
          let shut = sound-on.times.over x (omega arith) l ∙ eq-eqb _ 0 empty in
          ⊎_elim
          (λ same. absurd (false≢true (sym (ap is_some (same ∙ was)) ∙ shut)))
          (λ new. new.1 ∙ ap Some (next_number f))
          (later.ends x w)

-- A birth at a new step of the make h: the step starts, and the make too if this is its first.
module _ {calls : List Call} (s : Build) (f : Follows calls s) (sound : Sound s) (timed : Timed calls s) (p q t h : ℕ) (named : eqb t 0 ≡ false) (parent : Parent s q h)
    (makes : is_make (kind_at s.places h) ≡ true) (later : Later s (born_at s p (with_step s h t) (length s.places))) (sound-on : Sound (born_at s p (with_step s h t) (length s.places))) where
  abbrev stepped : Build
  stepped = born_at s p (with_step s h t) (length s.places)

  -- the make's start after the birth
  abbrev start_on : Option ℕ
  start_on = start_of (kind_begun (s.number + 1) (kind_at s.places h))

  h_is : make_in calls q ≡ Some h
  h_is = parent_make f sound parent makes

  step_ends : (x : ℕ) → get_or (ends stepped.places) x None ≡ get_or (ends s.places) x None
  step_ends x = ap (λ zs. get_or zs x None) (more_ends (with_step s h t) (length s.places) ∙ ready_ends s h t) ∙ default_more (ends s.places) None x

  step_starts : starts stepped.places ≡ set (starts s.places) h start_on ++ Some (s.number + 1) ∷ []
  step_starts = more_starts (with_step s h t) (length s.places) ∙ ready_starts s h t

  long : length (set (starts s.places) h start_on) ≡ length s.places
  long = length-set (starts s.places) h start_on ∙ length-map s.places (λ (z : Place). start_of z.kind)

  h_in : h < length (starts s.places)
  h_in = let w = parent_within f sound parent in let z = length-map s.places (λ (y : Place). start_of y.kind) in omega arith

  -- the start of the new step, of the make, and of another place
  start_new : get_or (starts stepped.places) (length s.places) None ≡ Some (s.number + 1)
  start_new = ap (λ zs. get_or zs (length s.places) None) step_starts ∙ get_or_push (set (starts s.places) h start_on) (Some (s.number + 1)) None (length s.places) long

  start_old : (x : ℕ) → x < length s.places → get_or (starts stepped.places) x None ≡ get_or (set (starts s.places) h start_on) x None
  start_old x w = let l = long in ap (λ zs. get_or zs x None) step_starts ∙ get_or_append_left (set (starts s.places) h start_on) (Some (s.number + 1) ∷ []) None x (omega arith)

  start_make : get_or (starts stepped.places) h None ≡ start_on
  start_make = start_old h (parent_within f sound parent) ∙ get_or-set_same (starts s.places) h start_on None h_in

  start_other : (x : ℕ) → x < length s.places → (x ≡ h → ⊥) → get_or (starts stepped.places) x None ≡ get_or (starts s.places) x None
  start_other x w ne = start_old x w ∙ get_or-set_other (starts s.places) h x start_on None ne

  -- the make is running: its own process lives
  h_open : is_some (end_of (kind_at s.places h)) ≡ false
  h_open =
      let some = peopled_from f sound h (own q h_is) in
      let w = parent_within f sound parent in
      let z = length-map s.places shape in
      ap is_some (sym (end_is s.places h)) ∙ sound.times.over h (omega arith) (ap lasting (make_shape s.places h makes)) ∙ ne_eqb (get_or (lives s.places) h 0) 0 (λ e. omega arith)

  h_started : is_some start_on ≡ true
  h_started = begun_some (s.number + 1) (kind_at s.places h) makes h_open

  -- the make had started before, or starts now with its first step
  h_starts : (get_or (starts s.places) h None ≡ start_on) ⊎ ((get_or (starts s.places) h None ≡ None) × (start_on ≡ Some (s.number + 1)))
  h_starts =
      ⊎_elim (λ same. inl (start_is s.places h ∙ sym same)) (λ new. inr (start_is s.places h ∙ new.0, new.1)) (begun_start (s.number + 1) (kind_at s.places h))

  target_named : t ≡ 0 → ⊥
  target_named = eqb-false t 0 named

  ended_step : (x n : ℕ) → Ended x (tell (birth p q t) ∷ calls) n → Ended x calls n
  ended_step x n e = ended_birth e

  begun_on : (m : ℕ) → Begun m (tell (birth p q t) ∷ calls) → is_some (get_or (starts stepped.places) m None) ≡ true
  begun_on m (begun_now ne e) = ap (λ x. is_some (get_or (starts stepped.places) x None)) (same_Some _ _ (sym e ∙ h_is)) ∙ ap is_some start_make ∙ h_started
  begun_on m (begun_before b) =
      let was = some_of _ (timed.begun m b) in
      ap is_some (later.starts m was.0 (start_within s m was.0 was.1) was.1)

  new_sort : (shape_at (shapes stepped.places) (length s.places)).sort ≡ step
  new_sort = ap (λ (y : Shape). y.sort) (new_shape s stepped (new_step s h t) (step_shapes s p h t))

  -- the new step, the make, and the others
  by_place : (P : ℕ → Type 0) → P (length s.places) → P h → ((x : ℕ) → x < length s.places → (x ≡ h → ⊥) → P x) → (x : ℕ) → x < length stepped.places → P x
  by_place P new own_make others x w =
      let n = more_size s stepped (new_step s h t) (step_shapes s p h t) in
      ⊎_elim
      (λ e. subst P (sym e) new)
      (⊎_elim (λ lt. ⊎_elim (λ e. subst P (sym e) own_make) (λ ne. others x lt ne) (cases_eq x h)) (λ gt. absurd (omega arith)))
      (cases_order x (length s.places))

  starts_on : (x n : ℕ) → get_or (starts stepped.places) x None ≡ Some n → Starts x (tell (birth p q t) ∷ calls) n
  starts_on x n e =
      by_place (λ y. get_or (starts stepped.places) y None ≡ Some n → Starts y (tell (birth p q t) ∷ calls) n)
      (λ new. subst (Starts (length s.places) (tell (birth p q t) ∷ calls)) (sym (next_number f) ∙ same_Some _ _ (sym start_new ∙ new)) (step_born target_named (sym (size f sound))))
      (λ at.
      ⊎_elim
      (λ same. started_before (timed.starts_to h n (same ∙ sym start_make ∙ at)))
      (λ now.
      subst (Starts h (tell (birth p q t) ∷ calls)) (sym (next_number f) ∙ same_Some _ _ (sym (start_make ∙ now.1) ∙ at))
      (first_step target_named h_is (λ b. false≢true (sym (ap is_some now.0) ∙ timed.begun h b))))
      h_starts)
      (λ y w ne at. started_before (timed.starts_to y n (sym (start_other y w ne) ∙ at)))
      x (start_within stepped x n e) e

  starts_back : (x n : ℕ) → Starts x (tell (birth p q t) ∷ calls) n → get_or (starts stepped.places) x None ≡ Some n
  starts_back x n (step_born ne at) = ap (λ y. get_or (starts stepped.places) y None) (at ∙ size f sound) ∙ start_new ∙ ap Some (next_number f)
  starts_back x n (first_step ne e first) =
      let x-is = same_Some _ _ (sym e ∙ h_is) in
      ap (λ y. get_or (starts stepped.places) y None) x-is ∙ start_make
      ∙ ⊎_elim
      (λ same. let k = some_of start_on h_started in absurd (first (subst (λ y. Begun y calls) (sym x-is) (timed.begun_to h k.0 (make_shape s.places h makes) (same ∙ k.1)))))
      (λ now. now.1 ∙ ap Some (next_number f))
      h_starts
  starts_back x n (started_before b) = let was = timed.starts_from x n b in later.starts x n (start_within s x n was) was

  pub step_timed : Timed (tell (birth p q t) ∷ calls) (born_at s p (with_step s h t) (length s.places))
  step_timed = record {
    begun = begun_on;
    begun_to = λ m n l e.
        by_place (λ y. (shape_at (shapes stepped.places) y).sort ≡ a_make → get_or (starts stepped.places) y None ≡ Some n → Begun y (tell (birth p q t) ∷ calls))
        (λ sort at. absurd (step_make (sym new_sort ∙ sort)))
        (λ sort at. begun_now target_named h_is)
        (λ y w ne sort at. begun_before (timed.begun_to y n (sym (ap (λ (z : Shape). z.sort) (later.shape y w)) ∙ sort) (sym (start_other y w ne) ∙ at)))
        m (start_within stepped m n e) l e;
    starts_to = starts_on;
    starts_from = starts_back;
    ends_to = λ x n e. ended_before (timed.ends_to x n (sym (step_ends x) ∙ e));
    ends_from = λ x n l e.
        let old = ended_step x n e in
        step_ends x ∙ timed.ends_from x n (sym (ap (λ (y : Shape). lasting y.sort) (later.shape x (timed.ends_within x n old))) ∙ l) old;
    ends_within = λ x n e. let w = timed.ends_within x n (ended_step x n e) in let l = later.longer in omega arith;
  }
