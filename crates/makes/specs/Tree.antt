-- A tree of places, as the list of their parents: place x stands right below place `up us x`. Place 0 is the root, and a parent has a lower
-- number than the places below it.
use Rattle.std.specs.Prelude.{◌≡◌, ℕ, zero, suc, ◌+◌, ◌-◌, ◌<◌, Bool, true, false, ◌||◌, ◌⊎◌, List, [], ◌∷◌, length, ◌==◌, nat_lt, slice_index}
use Rattle.makes.specs.declared.climb.Meeting.{Meeting}

abbrev pub up : List ℕ → ℕ → ℕ
up us x = slice_index us x

-- parents come first
abbrev pub Earlier : List ℕ → Type 0
Earlier us = (x : ℕ) → 0 < x → up us x < x

-- A place holds itself and everything below it.
pub data Holds (us : List ℕ) (x : ℕ) : ℕ → Type 0 where
  itself : Holds us x x
  under : {y : ℕ} → 0 < y → Holds us x (up us y) → Holds us x y

-- s is the place right below c that holds x
pub record Branch (us : List ℕ) (c s x : ℕ) : Type 0 where
  pub below : 0 < s
  pub parent : up us s ≡ c
  pub holds : Holds us s x

-- the side of x at c: the place right below c that holds x, or c where x is c itself
abbrev pub Side : List ℕ → ℕ → ℕ → ℕ → Type 0
Side us c s x = ((s ≡ c) × (x ≡ c)) ⊎ Branch us c s x

-- c is the lowest place that holds both x and y
pub record Lowest (us : List ℕ) (x y c : ℕ) : Type 0 where
  pub first : Holds us c x
  pub second : Holds us c y
  pub least : (z : ℕ) → Holds us z x → Holds us z y → Holds us z c

-- Two places meet in the lowest place that holds both, each with its side.
pub record Meets (us : List ℕ) (x y : ℕ) (m : Meeting) : Type 0 where
  pub lowest : Lowest us x y m.place
  pub left : Side us m.place m.left x
  pub right : Side us m.place m.right y

-- the line of a place: the places that hold it, from itself up to the root
abbrev pub line_in : List ℕ → ℕ → ℕ → List ℕ
line_in us zero x = []
line_in us (suc k) x = x ∷ elim (x == 0) [ true ↦ [] | false ↦ line_in us k (up us x) ]

abbrev pub line : List ℕ → ℕ → List ℕ
line us x = line_in us (x + 1) x

-- how many levels a place is below the root
abbrev pub levels : List ℕ → ℕ → ℕ
levels us x = length (line us x) - 1

abbrev pub among : ℕ → List ℕ → Bool
among x [] = false
among x (y ∷ ys) = x == y || among x ys

-- whether x holds y
abbrev pub holds : List ℕ → ℕ → ℕ → Bool
holds us x y = among x (line us y)

-- The climb of two places, of so many turns at most: the higher number goes up to its parent until both are one.
abbrev pub climb_in : List ℕ → ℕ → ℕ → ℕ → ℕ → ℕ → Meeting
climb_in us zero x y left right = record { place = x; left = left; right = right }
climb_in us (suc k) x y left right =
    elim (x == y) [
      | true ↦ record { place = x; left = left; right = right }
      | false ↦ elim (nat_lt x y) [ true ↦ climb_in us k x (up us y) left y | false ↦ climb_in us k (up us x) y x right ]
    ]

-- each turn goes up one level
abbrev pub climb : List ℕ → ℕ → ℕ → Meeting
climb us x y = climb_in us (levels us x + levels us y) x y x y
