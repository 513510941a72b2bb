-- What is seen of the table of places, place by place, and after a walk.
use Rattle.std.specs.Prelude.{◌≡◌, ℕ, zero, suc, ◌+◌, ◌<◌, Bool, true, false, cond, ◌||◌, List, [], length, None, ◌==◌, slice_index, slice_index_or, slice_set, refl}
use Rattle.std.proofs.Common.{⊎_elim, sym, ap, ◌∙◌, arith}
use Rattle.std.proofs.lemmas.List.{length-set, get_or-set_same, get_or-set_other}
use Rattle.std.proofs.lemmas.Bool.{eqb-false, eq-eqb, ne_eqb, cases_eq, cases_Bool}
use Rattle.makes.specs.declared.places.Place.{Place}
use Rattle.makes.specs.Places.{start_of, end_of, no_place, place_at, kind_at, lives, starts, ends, changed}
use Rattle.makes.specs.Tree.{up, Earlier, line_in, line, among, holds}
use Rattle.makes.specs.TreeLemmas.{holds_from_line, holds_le}
use Rattle.makes.specs.Walks.{map_at}

pub live_is : (ps : List Place) (x : ℕ) → slice_index (lives ps) x ≡ (place_at ps x).live
live_is ps x = map_at (λ (p : Place). p.live) ps x no_place

pub start_is : (ps : List Place) (x : ℕ) → slice_index_or (starts ps) x None ≡ start_of (kind_at ps x)
start_is ps x = map_at (λ (p : Place). start_of p.kind) ps x no_place

pub end_is : (ps : List Place) (x : ℕ) → slice_index_or (ends ps) x None ≡ end_of (kind_at ps x)
end_is ps x = map_at (λ (p : Place). end_of p.kind) ps x no_place

-- a place does not hold one with a lower number
pub not_above : (us : List ℕ) → Earlier us → (k x y : ℕ) → y < x → among x (line_in us k y) ≡ false
not_above us earlier k x y lt =
    ⊎_elim (λ yes. let l = holds_le us earlier (holds_from_line us k x y yes) in absurd (omega arith)) (λ no'. no') (cases_Bool (among x (line_in us k y)))

-- a walk changes the places of its line, and no others
module _ (us : List ℕ) (earlier : Earlier us) (f : Place → Place) (j : ℕ) where
  changed_at : (k x : ℕ) (ps : List Place) → x < length ps → place_at (changed f ps (line_in us k x)) j ≡ cond (among j (line_in us k x)) (f (place_at ps j)) (place_at ps j)
  changed_at zero x ps h = refl
  changed_at (suc k) x ps h = go (changed_at k (up us x) (slice_set ps x (f (place_at ps x)))) (x == 0) refl
    where
      once : List Place
      once = slice_set ps x (f (place_at ps x))

      here : j ≡ x → place_at (slice_set ps x (f (place_at ps x))) j ≡ f (place_at ps j)
      here e = ap (place_at (slice_set ps x (f (place_at ps x)))) e ∙ get_or-set_same ps x (f (place_at ps x)) no_place h ∙ ap (λ y. f (place_at ps y)) (sym e)

      go : (up us x < length (slice_set ps x (f (place_at ps x))) → place_at (changed f (slice_set ps x (f (place_at ps x))) (line_in us k (up us x))) j
          ≡ cond (among j (line_in us k (up us x))) (f (place_at (slice_set ps x (f (place_at ps x))) j)) (place_at (slice_set ps x (f (place_at ps x))) j))
          → (b : Bool) → (x == 0) ≡ b
          → place_at (changed f (slice_set ps x (f (place_at ps x))) (elim b [ true ↦ [] | false ↦ line_in us k (up us x) ])) j
          ≡ cond (j == x || among j (elim b [ true ↦ [] | false ↦ line_in us k (up us x) ])) (f (place_at ps j)) (place_at ps j)
      go rest true e =
          ⊎_elim
          (λ is. here is ∙ sym (ap (λ b. cond (b || false) (f (place_at ps j)) (place_at ps j)) (eq-eqb j x is)))
          (λ ne. get_or-set_other ps x j (f (place_at ps x)) no_place ne ∙ sym (ap (λ b. cond (b || false) (f (place_at ps j)) (place_at ps j)) (ne_eqb j x ne)))
          (cases_eq j x)
      go rest false e =
          let pos = eqb-false x 0 e in
          let less = earlier x (omega arith) in
          let long = length-set ps x (f (place_at ps x)) in
          let later = rest (omega arith) in
          ⊎_elim
          (λ is.
          later
          ∙ (λ i. cond ((ap (λ y. among y (line_in us k (up us x))) is ∙ not_above us earlier k x (up us x) less) i) (f (place_at (slice_set ps x (f (place_at ps x))) j)) (here is i))
          ∙ sym (ap (λ b. cond (b || among j (line_in us k (up us x))) (f (place_at ps j)) (place_at ps j)) (eq-eqb j x is)))
          (λ ne.
          later
          ∙ (λ i. cond (among j (line_in us k (up us x))) (f (get_or-set_other ps x j (f (place_at ps x)) no_place ne i)) (get_or-set_other ps x j (f (place_at ps x)) no_place ne i))
          ∙ sym (ap (λ b. cond (b || among j (line_in us k (up us x))) (f (place_at ps j)) (place_at ps j)) (ne_eqb j x ne)))
          (cases_eq j x)

  pub walked_at : (x : ℕ) (ps : List Place) → x < length ps → place_at (changed f ps (line us x)) j ≡ cond (holds us j x) (f (place_at ps j)) (place_at ps j)
  walked_at x ps h = changed_at (x + 1) x ps h
