-- Places and births: what they tell, and how events change them.
use Rattle.std.specs.Prelude.{ℕ, ◌+◌, ◌-◌, Bool, true, false, cond, ◌&&◌, List, [], ◌∷◌, ◌++◌, map, Some, None, Option, ◌==◌, nat_le, slice_index, slice_index_or, slice_set}
use Rattle.std.specs.List.{list_all}
use Rattle.births.specs.declared.Birth.{Birth}
use Rattle.makes.specs.declared.places.Kind.{Kind}
use Rattle.makes.specs.declared.places.Kind.TheVariants.{Session, Make, Target, Step}
use Rattle.makes.specs.declared.places.Place.{Place}
use Rattle.makes.specs.declared.places.Status.{Status}
use Rattle.makes.specs.declared.places.Status.TheVariants.{Unstarted, Running, Ended}

-- a make's start and end, as far as they have come
abbrev pub status_start : Status → Option ℕ
status_start Unstarted = None
status_start (Running since) = Some since
status_start (Ended started n) = started

abbrev pub status_end : Status → Option ℕ
status_end Unstarted = None
status_end (Running since) = None
status_end (Ended started n) = Some n

-- what the birth of a step at n, and the last death at n, make of a status
abbrev pub begun : ℕ → Status → Status
begun n Unstarted = Running n
begun n (Running since) = Running since
begun n (Ended started e) = Ended started e

abbrev pub closed : ℕ → Status → Status
closed n Unstarted = Ended None n
closed n (Running since) = Ended (Some since) n
closed n (Ended started e) = Ended started e

-- The sorts of places, and what is told by the sort alone.
pub data Sort : Type 0 where
  session make target step : Sort

abbrev pub sort_of : Kind → Sort
sort_of Session = session
sort_of (Make m) = make
sort_of (Target row) = target
sort_of (Step start end) = step

abbrev pub make_sort : Sort → Bool
make_sort session = false
make_sort make = true
make_sort target = false
make_sort step = false

abbrev pub target_sort : Sort → Bool
target_sort session = false
target_sort make = false
target_sort target = true
target_sort step = false

-- the session and the steps: where processes stand
abbrev pub stand_sort : Sort → Bool
stand_sort session = true
stand_sort make = false
stand_sort target = false
stand_sort step = true

abbrev pub is_make : Kind → Bool
is_make k = make_sort (sort_of k)

abbrev pub is_target : Kind → Bool
is_target k = target_sort (sort_of k)

abbrev pub is_stand : Kind → Bool
is_stand k = stand_sort (sort_of k)

-- which make it is, and how many targets it has declared; 0 of what is no make
abbrev pub ordinal_of : Kind → ℕ
ordinal_of Session = 0
ordinal_of (Make m) = m.ordinal
ordinal_of (Target row) = 0
ordinal_of (Step start end) = 0

abbrev pub targets_of : Kind → ℕ
targets_of Session = 0
targets_of (Make m) = m.targets
targets_of (Target row) = 0
targets_of (Step start end) = 0

-- the row of a target; 0 of what is none
abbrev pub row_of : Kind → ℕ
row_of Session = 0
row_of (Make m) = 0
row_of (Target row) = row
row_of (Step start end) = 0

-- the start and the end of a make or a step
abbrev pub start_of : Kind → Option ℕ
start_of Session = None
start_of (Make m) = status_start m.status
start_of (Target row) = None
start_of (Step start end) = Some start

abbrev pub end_of : Kind → Option ℕ
end_of Session = None
end_of (Make m) = status_end m.status
end_of (Target row) = None
end_of (Step start end) = end

-- a make whose step is born at n
abbrev pub kind_begun : ℕ → Kind → Kind
kind_begun n Session = Session
kind_begun n (Make m) = Make (record { status = begun n m.status; ordinal = m.ordinal; targets = m.targets })
kind_begun n (Target row) = Target row
kind_begun n (Step start end) = Step start end

-- a make with one target more
abbrev pub kind_declared : Kind → Kind
kind_declared Session = Session
kind_declared (Make m) = Make (record { status = m.status; ordinal = m.ordinal; targets = m.targets + 1 })
kind_declared (Target row) = Target row
kind_declared (Step start end) = Step start end

-- a make or step that ends at n, if it has not ended before
abbrev pub first_end : Option ℕ → ℕ → Option ℕ
first_end None n = Some n
first_end (Some e) n = Some e

abbrev pub kind_closed : ℕ → Kind → Kind
kind_closed n Session = Session
kind_closed n (Make m) = Make (record { status = closed n m.status; ordinal = m.ordinal; targets = m.targets })
kind_closed n (Target row) = Target row
kind_closed n (Step start end) = Step start (first_end end n)

abbrev pub with_kind : Place → Kind → Place
with_kind p kind = record { parent = p.parent; depth = p.depth; live = p.live; kind = kind }

-- one live process more at or below the place, and one less: with the last one the place ends at n
abbrev pub one_more : Place → Place
one_more p = record { parent = p.parent; depth = p.depth; live = p.live + 1; kind = p.kind }

abbrev pub one_less : ℕ → Place → Place
one_less n p = record { parent = p.parent; depth = p.depth; live = p.live - 1; kind = cond (p.live - 1 == 0) (kind_closed n p.kind) p.kind }

-- The table of places.
abbrev pub no_place : Place
no_place = record { parent = 0; depth = 0; live = 0; kind = Session }

abbrev pub place_at : List Place → ℕ → Place
place_at ps x = slice_index_or ps x no_place

abbrev pub kind_at : List Place → ℕ → Kind
kind_at ps x = (place_at ps x).kind

-- the shape of the tree: what of a place never changes
pub record Shape : Type 0 where
  pub parent : ℕ
  pub depth : ℕ
  pub sort : Sort
  pub ordinal : ℕ
  pub row : ℕ

abbrev pub shape : Place → Shape
shape p = record { parent = p.parent; depth = p.depth; sort = sort_of p.kind; ordinal = ordinal_of p.kind; row = row_of p.kind }

abbrev pub shapes : List Place → List Shape
shapes ps = map shape ps

abbrev pub shape_at : List Shape → ℕ → Shape
shape_at ts x = slice_index_or ts x (shape no_place)

abbrev pub parents_of : List Shape → List ℕ
parents_of ts = map (λ t. t.parent) ts

abbrev pub parents : List Place → List ℕ
parents ps = parents_of (shapes ps)

-- what changes: how many targets each make has declared, how many live processes are at or below each place, and the starts and ends
abbrev pub counts : List Place → List ℕ
counts ps = map (λ p. targets_of p.kind) ps

abbrev pub lives : List Place → List ℕ
lives ps = map (λ p. p.live) ps

abbrev pub starts : List Place → List (Option ℕ)
starts ps = map (λ p. start_of p.kind) ps

abbrev pub ends : List Place → List (Option ℕ)
ends ps = map (λ p. end_of p.kind) ps

-- where a process with this home stands: a make stands right below the place of its own process
abbrev pub stand : List Place → ℕ → ℕ
stand ps home = cond (is_make (kind_at ps home)) (place_at ps home).parent home

-- the places of a line, each changed
abbrev pub changed : (Place → Place) → List Place → List ℕ → List Place
changed f ps [] = ps
changed f ps (x ∷ xs) = changed f (slice_set ps x (f (place_at ps x))) xs

-- the places with a new make, right below the place of its own process, which is a live process there
abbrev pub make_added : List Place → ℕ → ℕ → List Place
make_added ps home ordinal = ps ++ record { parent = home; depth = (place_at ps home).depth + 1; live = 1; kind = Make (record { status = Unstarted; ordinal = ordinal; targets = 0 }) } ∷ []

-- the places with a new one last, below `above` and as deep as the make m, whose kind is now `made`
abbrev pub added_below : List Place → ℕ → Kind → ℕ → Kind → List Place
added_below ps m made above kind = slice_set ps m (with_kind (place_at ps m) made) ++ record { parent = above; depth = (place_at ps m).depth; live = 0; kind = kind } ∷ []

-- the places with a new step below a target of the make m, which starts at n: the make has begun
abbrev pub step_added : ℕ → List Place → ℕ → ℕ → List Place
step_added n ps m above = added_below ps m (kind_begun n (kind_at ps m)) above (Step n None)

-- the places with a new target of the make m
abbrev pub target_added : List Place → ℕ → ℕ → List Place
target_added ps m row = added_below ps m (kind_declared (kind_at ps m)) m (Target row)

-- The table of births.
abbrev pub no_birth : Birth ℕ
no_birth = record { process = 0; at = 0; live = false }

abbrev pub birth_at : List (Birth ℕ) → ℕ → Birth ℕ
birth_at bs i = slice_index_or bs i no_birth

-- each is the number of a declared target
abbrev pub all_declared : ℕ → List ℕ → Bool
all_declared targets ks = list_all (λ k. nat_le 1 k && nat_le k targets) ks

-- the row of a make's target, by its number from 1; the places of the make's targets are kept from `first` on
abbrev pub row_in : List Place → List ℕ → ℕ → ℕ → ℕ
row_in ps slots first k = row_of (kind_at ps (slice_index slots (first + (k - 1))))
