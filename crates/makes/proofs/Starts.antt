-- A new make order has what reachable states keep.
use Rattle.std.proofs.Common.{◌≡◌, ℕ, zero, suc, ◌+◌, ◌*◌, ◌<◌, ◌≤◌, true, List, [], ◌∷◌, length, get_or, Some, None, refl, arith}
use Rattle.std.proofs.lemmas.List.{length-replicate}
use Rattle.std.proofs.lemmas.Bool.{false≢true}
use Rattle.makes.specs.declared.room.Room.{Room}
use Rattle.makes.specs.Machine.{capped, start_in, start}
use Rattle.makes.specs.Places.{Sort, session, make, target, step, no_place, Shape, shape, shape_at, parents_of}
use Rattle.makes.specs.Shapes.{session_make, session_target, session_step}
use Rattle.makes.specs.Sound.{levels_left, makes_above, SoundTree, lasting, Sound}
use Rattle.makes.specs.Tree.{Earlier, levels}

-- the session alone
abbrev alone : List Shape
alone = shape no_place ∷ []

-- the only place of the session alone is its root
only_root : (P : ℕ → Type 0) → P 0 → (x : ℕ) → x < length alone → P x
only_root P root zero h = root
only_root P root (suc x) h = absurd (omega arith)

-- which is no make, target or step
session_other : (s : Sort) → (session ≡ s → ⊥) → (x : ℕ) → x < length alone → (shape_at alone x).sort ≡ s → ⊥
session_other s other = only_root (λ x. (shape_at alone x).sort ≡ s → ⊥) other

above_alone : Earlier (parents_of alone)
above_alone zero h = absurd (omega arith)
above_alone (suc x) h = omega arith

alone_sound : SoundTree alone
alone_sound = record {
  some = omega arith;
  root = refl;
  earlier = above_alone;
  fitting = λ x p h. absurd (omega arith);
  levelled = only_root (λ x. levels (parents_of alone) x + levels_left (shape_at alone x).sort ≡ 3 * (shape_at alone x).depth) refl;
  deep = only_root (λ x. makes_above alone x ≡ (shape_at alone x).depth) refl;
  shallow = only_root (λ x. (shape_at alone x).depth ≤ 16) (omega arith);
}

-- nothing has started or ended
pub never : (x k : ℕ) → get_or (None ∷ []) x None ≡ Some k → ⊥
never zero k e = cc
never (suc x) k e = cc

pub nothing_declared : (x : ℕ) → ◌≡◌ {A = ℕ} (get_or (0 ∷ []) x 0) 0
nothing_declared zero = refl
nothing_declared (suc x) = refl

pub start_sound : (room : Room) → room.births ≤ 4096 → room.makes ≤ 64 → room.targets ≤ 512 → Sound (start_in room)
start_sound room births makes targets = record {
  number = omega arith;
  tree = alone_sound;
  times = record {
    past = λ x k e. absurd (never x k e);
    forward = λ x k e s t. absurd (never x k s);
    started = λ x h e. absurd (session_other step session_step x h e);
    over = λ x h e. absurd (only_root (λ y. lasting (shape_at alone y).sort ≡ true → ⊥) false≢true x h e);
  };
  births = record { housed = λ i h. absurd (omega arith); homely = λ i h. absurd (omega arith); only = λ i j h k. absurd (omega arith); live = only_root _ refl };
  rows = record { whole = λ t h. absurd (omega arith); lower = λ t u h. absurd (omega arith); chained = λ t u v h. absurd (omega arith) };
  slots = record {
    row = λ x h e. absurd (session_other target session_target x h e);
    ordinal = λ x h e. absurd (session_other make session_make x h e);
    apart = λ x y h k e. absurd (session_other make session_make x h e);
    few = λ x. let z = nothing_declared x in omega arith;
    slotted = λ x k h e. absurd (session_other make session_make x h e);
  };
  room = record {
    births = omega arith;
    makes = omega arith;
    targets = omega arith;
    most_births = births;
    most_makes = makes;
    most_targets = targets;
    slots = length-replicate (room.makes * room.targets) 0;
    places = omega arith;
  };
}

pub new_sound : (room : Room) → Sound (start room)
new_sound room = start_sound (capped room) (omega arith) (omega arith) (omega arith)
