-- Walks up the tree of places: what one turn does, and what the whole leaves.
use Rattle.std.specs.Prelude.{◌≡◌, ℕ, zero, suc, ◌+◌, ◌-◌, ◌<◌, ◌≤◌, Bool, true, false, cond, List, [], ◌∷◌, map, length, ◌==◌, ◌≢◌, slice_index_or, slice_set, refl}
use Rattle.std.proofs.Common.{sym, ap, subst, ◌∙◌, arith}
use Rattle.std.proofs.lemmas.List.{length-set, get_or-set_other}
use Rattle.makes.specs.declared.places.Kind.{Kind}
use Rattle.makes.specs.declared.places.Kind.TheVariants.{Session, Make, Target, Step}
use Rattle.makes.specs.declared.places.Place.{Place}
use Rattle.makes.specs.Places.{kind_closed, with_kind, one_less, no_place, place_at, shape, parents, changed}
use Rattle.makes.specs.Tree.{up, Earlier, Holds, itself, under, line, levels, climb_in, climb}
use Rattle.makes.specs.TreeLemmas.{holds_trans, line_more, length_line, line_some, turn_first, turn_second}

-- a column at a place is read off the place, also past the end
pub map_at : {X Y : Type 0} (g : X → Y) (xs : List X) (i : ℕ) (d : X) → slice_index_or (map g xs) i (g d) ≡ g (slice_index_or xs i d)
map_at g [] i d = refl
map_at g (x ∷ xs) zero d = refl
map_at g (x ∷ xs) (suc i) d = map_at g xs i d

-- the parent of a place, in the table
pub up_at : (ps : List Place) (x : ℕ) → up (parents ps) x ≡ (place_at ps x).parent
up_at [] x = refl
up_at (p ∷ ps) zero = refl
up_at (p ∷ ps) (suc x) = up_at ps x

-- an element that looks as the one before it leaves what is seen of the list
pub map_set_same : {X Y : Type 0} (g : X → Y) (xs : List X) (i : ℕ) (y d : X) → g y ≡ g (slice_index_or xs i d) → map g (slice_set xs i y) ≡ map g xs
map_set_same g [] i y d e = refl
map_set_same g (x ∷ xs) zero y d e = ap (λ z. z ∷ map g xs) e
map_set_same g (x ∷ xs) (suc i) y d e = ap (λ zs. g x ∷ zs) (map_set_same g xs i y d e)

-- a place that ends keeps its shape
closed_shape : (n : ℕ) (p : Place) (k : Kind) → shape (with_kind p (kind_closed n k)) ≡ shape (with_kind p k)
closed_shape n p Session = refl
closed_shape n p (Make m) = refl
closed_shape n p (Target row) = refl
closed_shape n p (Step start end) = refl

pub less_shape : (n : ℕ) (p : Place) → shape (one_less n p) ≡ shape p
less_shape n p = go (p.live - 1 == 0)
  where
    go : (b : Bool) → shape (with_kind p (cond b (kind_closed n p.kind) p.kind)) ≡ shape p
    go true = closed_shape n p p.kind
    go false = refl

-- A walk from home up has come to x, where R says what a change may make of a place: the places from x up are untouched, and, where a change
-- can only make f of a place, what is left to do leads where the whole does.
pub record Walk (R : Place → Place → Type 0) (old ps : List Place) (home x : ℕ) : Type 0 where
  pub within : x < length ps
  pub rest : (j : ℕ) → j ≤ x → place_at ps j ≡ place_at old j
  pub leads : (f : Place → Place) → ((p q : Place) → R p q → q ≡ f p) → changed f ps (line (parents old) x) ≡ changed f old (line (parents old) home)
  pub above : Holds (parents old) x home

pub walk_none : (R : Place → Place → Type 0) (ps : List Place) (home : ℕ) → home < length ps → Walk R ps ps home home
walk_none R ps home h = record { within = h; rest = λ j l. refl; leads = λ f only. refl; above = itself }

module _ {R : Place → Place → Type 0} {old ps : List Place} {home x : ℕ} (earlier : Earlier (parents old)) (w : Walk R old ps home x) where
  parent_is : (place_at ps x).parent ≡ up (parents old) x
  parent_is = ap (λ (p : Place). p.parent) (w.rest x (omega arith)) ∙ sym (up_at old x)

  pub walk_less : (x ≢ 0) → (place_at ps x).parent < x
  walk_less ne = let e = earlier x (omega arith) in let p = parent_is in omega arith

  pub walk_more : (q : Place) → R (place_at ps x) q → (x ≢ 0) → Walk R old (slice_set ps x q) home (place_at ps x).parent
  walk_more q made ne =
      let p : 0 < x = omega arith in
      let less = walk_less ne in
      let low = w.within in
      record {
        within = omega (arith, length-set ps x q);
        rest = λ j l. get_or-set_other ps x j q no_place (λ e. omega arith) ∙ w.rest j (omega arith);
        leads = λ f only.
            (λ i. changed f (slice_set ps x (only (place_at ps x) q made i)) (line (parents old) (parent_is i)))
            ∙ sym (ap (changed f ps) (line_more (parents old) earlier x p))
            ∙ w.leads f only;
        above = holds_trans (subst (λ y. Holds (parents old) y x) (sym parent_is) (under p itself)) w.above;
      }

-- The climb in the table: one turn of the first, and of the second.
pub record Climbed (ps : List Place) (a b x y left right : ℕ) : Type 0 where
  pub x_within : x < length ps
  pub y_within : y < length ps
  pub turns : ℕ
  pub enough : length (line (parents ps) x) + length (line (parents ps) y) ≤ turns + 2
  pub leads : climb_in (parents ps) turns x y left right ≡ climb (parents ps) a b

module _ (ps : List Place) (earlier : Earlier (parents ps)) where
  pub parent_less : (x : ℕ) → 0 < x → (place_at ps x).parent < x
  parent_less x p = let e = earlier x p in let i = up_at ps x in omega arith

  shorter : (x : ℕ) → 0 < x → length (line (parents ps) x) ≡ suc (length (line (parents ps) (place_at ps x).parent))
  shorter x p = length_line (parents ps) earlier x p ∙ ap (λ z. suc (length (line (parents ps) z))) (up_at ps x)

  pub climb_none : {a b : ℕ} → a < length ps → b < length ps → Climbed ps a b a b a b
  climb_none {a} {b} h i =
      let p = line_some (parents ps) earlier a in
      let q = line_some (parents ps) earlier b in
      record { x_within = h; y_within = i; turns = levels (parents ps) a + levels (parents ps) b; enough = omega arith; leads = refl }

  module _ {a b : ℕ} (x y l r : ℕ) where
    climb_second : (k : ℕ) → x < y → x < length ps → y < length ps → length (line (parents ps) x) + length (line (parents ps) y) ≤ k + 2
        → climb_in (parents ps) k x y l r ≡ climb (parents ps) a b → Climbed ps a b x (place_at ps y).parent l y
    climb_second zero lt h i few e =
        let s = shorter y (omega arith) in
        let p = line_some (parents ps) earlier x in
        let q = line_some (parents ps) earlier (place_at ps y).parent in
        absurd (omega arith)
    climb_second (suc k) lt h i few e =
        let s = shorter y (omega arith) in
        let less = parent_less y (omega arith) in
        record {
          x_within = h;
          y_within = omega arith;
          turns = k;
          enough = omega arith;
          leads = ap (λ z. climb_in (parents ps) k x z l y) (sym (up_at ps y)) ∙ sym (turn_second (parents ps) k x y l r lt) ∙ e;
        }

    climb_first : (k : ℕ) → y < x → x < length ps → y < length ps → length (line (parents ps) x) + length (line (parents ps) y) ≤ k + 2
        → climb_in (parents ps) k x y l r ≡ climb (parents ps) a b → Climbed ps a b (place_at ps x).parent y x r
    climb_first zero lt h i few e =
        let s = shorter x (omega arith) in
        let p = line_some (parents ps) earlier y in
        let q = line_some (parents ps) earlier (place_at ps x).parent in
        absurd (omega arith)
    climb_first (suc k) lt h i few e =
        let s = shorter x (omega arith) in
        let less = parent_less x (omega arith) in
        record {
          x_within = omega arith;
          y_within = i;
          turns = k;
          enough = omega arith;
          leads = ap (λ z. climb_in (parents ps) k z y x r) (sym (up_at ps x)) ∙ sym (turn_first (parents ps) k x y l r lt) ∙ e;
        }

  pub second_more : {a b x y l r : ℕ} → Climbed ps a b x y l r → x < y → Climbed ps a b x (place_at ps y).parent l y
  second_more {x = x} {y = y} {l = l} {r = r} c lt = climb_second x y l r c.turns lt c.x_within c.y_within c.enough c.leads

  pub first_more : {a b x y l r : ℕ} → Climbed ps a b x y l r → y < x → Climbed ps a b (place_at ps x).parent y x r
  first_more {x = x} {y = y} {l = l} {r = r} c lt = climb_first x y l r c.turns lt c.x_within c.y_within c.enough c.leads
