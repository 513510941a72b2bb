-- The make order as a machine.
use Rattle.std.specs.Prelude.{ℕ, ◌+◌, ◌-◌, ◌*◌, ◌≤◌, min, Bool, true, false, cond, not, ◌&&◌, ◌||◌, List, [], ◌∷◌, ◌++◌, map, reverse, length, replicate, is_some, Some, None, Ok, Err, Option, Result, ◌==◌, nat_le, nat_lt, slice_index, slice_set}
use Rattle.std.specs.Option.{option_map}
use Rattle.faults.specs.declared.OrderFault.{OrderFault}
use Rattle.faults.specs.declared.OrderFault.TheVariants.{NotLive, LiveAlready, NotMake, MakeAlready, Undeclared, TooDeep, TableFull, UsedUp, Unfit}
use Rattle.order.specs.declared.Timestamp.{Timestamp}
use Rattle.order.specs.Events.{Told, birth, make, target, death, post, await}
use Rattle.order.specs.Machine.{checked}
use Rattle.order.specs.Meaning.{Meaning, last_number}
use Rattle.births.specs.declared.Birth.{Birth}
use Rattle.makes.specs.declared.climb.Meeting.{Meeting}
use Rattle.makes.specs.declared.places.Place.{Place}
use Rattle.makes.specs.declared.room.Room.{Room}
use Rattle.births.specs.Births.{live_birth}
use Rattle.makes.specs.Places.{is_make, is_stand, ordinal_of, targets_of, row_of, start_of, end_of, one_more, one_less, no_place, place_at, kind_at, parents, stand, changed, make_added, step_added, target_added, birth_at, all_declared, row_in}
use Rattle.makes.specs.Rows.{needs, joined_row}
use Rattle.makes.specs.Tree.{line, climb}

-- The number, the room, the births and the places, each oldest first, how many makes there are, for each make the places of its targets, and for
-- each target its row of prerequisites.
pub record Build : Type 0 where
  pub number : ℕ
  pub room : Room
  pub births : List (Birth ℕ)
  pub places : List Place
  pub makes : ℕ
  pub slots : List ℕ
  pub rows : List (List ℕ)

-- room over a limit counts as the limit
abbrev pub capped : Room → Room
capped room = record { births = min room.births 4096; makes = min room.makes 64; targets = min room.targets 512 }

-- a new order: the session alone
abbrev pub start_in : Room → Build
start_in room = record {
  number = 0;
  room = room;
  births = [];
  places = no_place ∷ [];
  makes = 0;
  slots = replicate (room.makes * room.targets) 0;
  rows = [];
}

abbrev pub start : Room → Build
start room = start_in (capped room)

-- the birth of a live process, and its home
abbrev pub found : Build → ℕ → Option ℕ
found s p = live_birth (reverse s.births) p

abbrev pub lives_in : Build → ℕ → Bool
lives_in s p = is_some (found s p)

abbrev pub home_of : Build → ℕ → Option ℕ
home_of s p = option_map (λ i. (birth_at s.births i).at) (found s p)

-- a parent's home: the session for parent 0
abbrev pub parent_home : Build → ℕ → Option ℕ
parent_home s q = cond (q == 0) (Some 0) (home_of s q)

-- where the places of a make's targets are kept, and the place of one of them; targets are numbered from 1
abbrev pub slots_from : Build → ℕ → ℕ
slots_from s m = ordinal_of (kind_at s.places m) * s.room.targets

abbrev pub target_at : Build → ℕ → ℕ → ℕ
target_at s m k = slice_index s.slots (slots_from s m + (k - 1))

-- the make m has declared a target with this number
abbrev pub HasTarget : Build → ℕ → ℕ → Type 0
HasTarget s m k = (1 ≤ k) × (k ≤ targets_of (kind_at s.places m))

-- a process born at the number n and place x, where the places are these
abbrev pub settled : ℕ → Build → ℕ → List Place → ℕ → Build
settled n s p ps x = record {
  number = n;
  room = s.room;
  births = s.births ++ record { process = p; at = x; live = true } ∷ [];
  places = changed one_more ps (line (parents ps) x);
  makes = s.makes;
  slots = s.slots;
  rows = s.rows;
}

abbrev pub born_at : Build → ℕ → List Place → ℕ → Build
born_at s p ps x = settled (s.number + 1) s p ps x

-- the places with a new step of the make's target, which starts at n; the make has begun
abbrev pub stepped : ℕ → Build → ℕ → ℕ → List Place
stepped n s m t = step_added n s.places m (target_at s m t)

abbrev pub with_step : Build → ℕ → ℕ → List Place
with_step s m t = stepped (s.number + 1) s m t

-- without a target a process is born where its parent stands, else at a new step
abbrev pub born : Build → ℕ → ℕ → ℕ → Build
born s p h t = cond (t == 0) (born_at s p s.places (stand s.places h)) (born_at s p (with_step s h t) (length s.places))

abbrev pub birth_checks : Build → ℕ → ℕ → ℕ → List (Bool × OrderFault)
birth_checks s p h t =
    (p == 0 || lives_in s p, LiveAlready)
    ∷ (not (t == 0) && not (is_make (kind_at s.places h)), NotMake)
    ∷ (nat_lt (targets_of (kind_at s.places h)) t, Undeclared)
    ∷ (nat_le s.room.births (length s.births), TableFull)
    ∷ (s.number == last_number, UsedUp)
    ∷ []

abbrev pub birth_from : Build → ℕ → ℕ → Option ℕ → Result Build OrderFault
birth_from s p t None = Err NotLive
birth_from s p t (Some h) = checked (birth_checks s p h t) (Ok (born s p h t))

abbrev pub tell_birth : Build → ℕ → ℕ → ℕ → Result Build OrderFault
tell_birth s p q t = birth_from s p t (parent_home s q)

-- a process that turns out at n to be a make: a new place right below where it stands, which is its home from now on
abbrev pub turned : ℕ → Build → ℕ → Build
turned n s i = record {
  number = n;
  room = s.room;
  births = slice_set s.births i (record { process = (birth_at s.births i).process; at = length s.places; live = (birth_at s.births i).live });
  places = make_added s.places (birth_at s.births i).at s.makes;
  makes = s.makes + 1;
  slots = s.slots;
  rows = s.rows;
}

abbrev pub turned_make : Build → ℕ → Build
turned_make s i = turned (s.number + 1) s i

abbrev pub make_checks : Build → ℕ → List (Bool × OrderFault)
make_checks s h =
    (is_make (kind_at s.places h), MakeAlready)
    ∷ (nat_le 16 (place_at s.places h).depth, TooDeep)
    ∷ (nat_le s.room.makes s.makes, TableFull)
    ∷ (s.number == last_number, UsedUp)
    ∷ []

abbrev pub make_from : Build → Option ℕ → Result Build OrderFault
make_from s None = Err NotLive
make_from s (Some i) = checked (make_checks s (birth_at s.births i).at) (Ok (turned_make s i))

abbrev pub tell_make : Build → ℕ → Result Build OrderFault
tell_make s p = make_from s (found s p)

-- the rows of a make's targets, by their numbers
abbrev pub rows_of : Build → ℕ → List ℕ → List ℕ
rows_of s m ks = map (row_in s.places s.slots (slots_from s m)) ks

-- a make with one target more, declared at n
abbrev pub listed : ℕ → Build → ℕ → List ℕ → Build
listed n s m ks = record {
  number = n;
  room = s.room;
  births = s.births;
  places = target_added s.places m (length s.rows);
  makes = s.makes;
  slots = slice_set s.slots (slots_from s m + targets_of (kind_at s.places m)) (length s.places);
  rows = s.rows ++ joined_row s.rows (rows_of s m ks) ∷ [];
}

abbrev pub declared : Build → ℕ → List ℕ → Build
declared s m ks = listed (s.number + 1) s m ks

abbrev pub target_checks : Build → ℕ → List ℕ → List (Bool × OrderFault)
target_checks s h ks =
    (not (is_make (kind_at s.places h)), NotMake)
    ∷ (not (all_declared (targets_of (kind_at s.places h)) ks), Undeclared)
    ∷ (nat_le s.room.targets (length s.rows), TableFull)
    ∷ (s.number == last_number, UsedUp)
    ∷ []

abbrev pub target_from : Build → List ℕ → Option ℕ → Result Build OrderFault
target_from s ks None = Err NotLive
target_from s ks (Some h) = checked (target_checks s h ks) (Ok (declared s h ks))

abbrev pub tell_target : Build → ℕ → List ℕ → Result Build OrderFault
tell_target s p ks = target_from s ks (home_of s p)

-- a process that ends at n: what held its home counts one less
abbrev pub ended : ℕ → Build → ℕ → Build
ended n s i = record {
  number = n;
  room = s.room;
  births = slice_set s.births i (record { process = (birth_at s.births i).process; at = (birth_at s.births i).at; live = false });
  places = changed (one_less n) s.places (line (parents s.places) (birth_at s.births i).at);
  makes = s.makes;
  slots = s.slots;
  rows = s.rows;
}

abbrev pub died : Build → ℕ → Build
died s i = ended (s.number + 1) s i

abbrev pub death_from : Build → Option ℕ → Result Build OrderFault
death_from s None = Err NotLive
death_from s (Some i) = checked ((s.number == last_number, UsedUp) ∷ []) (Ok (died s i))

abbrev pub tell_death : Build → ℕ → Result Build OrderFault
tell_death s p = death_from s (found s p)

abbrev pub tell_make_order : Build → Told → Result Build OrderFault
tell_make_order s (birth p q t) = tell_birth s p q t
tell_make_order s (make p) = tell_make s p
tell_make_order s (target p ks) = tell_target s p ks
tell_make_order s (death p) = tell_death s p
tell_make_order s (post p f) = Err Unfit
tell_make_order s (await p f) = Err Unfit

-- the number n and no other change
abbrev pub numbered : ℕ → Build → Build
numbered n s = record {
  number = n;
  room = s.room;
  births = s.births;
  places = s.places;
  makes = s.makes;
  slots = s.slots;
  rows = s.rows;
}

abbrev pub counted : Build → Build
counted s = numbered (s.number + 1) s

abbrev pub stamp_from : Build → Option ℕ → Result (Timestamp × Build) OrderFault
stamp_from s None = Err NotLive
stamp_from s (Some h) = checked ((s.number == last_number, UsedUp) ∷ []) (Ok (record { number = s.number + 1; place = stand s.places h }, counted s))

abbrev pub stamp_make_order : Build → ℕ → Result (Timestamp × Build) OrderFault
stamp_make_order s p = stamp_from s (home_of s p)

-- the number has been given out, and the place is the session or a step
abbrev pub known_in : Build → Timestamp → Bool
known_in s a = nat_le 1 a.number && (nat_le a.number s.number && (nat_lt a.place (length s.places) && is_stand (kind_at s.places a.place)))

-- the end has come, and is below the start
abbrev pub ends_before : Option ℕ → Option ℕ → Bool
ends_before None o = false
ends_before (Some e) None = false
ends_before (Some e) (Some n) = nat_lt e n

-- a side at c: c itself, which starts and ends at the timestamp's number n, or a place right below c
abbrev pub side_start : List Place → ℕ → ℕ → ℕ → Option ℕ
side_start ps c x n = cond (x == c) (Some n) (start_of (kind_at ps x))

abbrev pub side_end : List Place → ℕ → ℕ → ℕ → Option ℕ
side_end ps c x n = cond (x == c) (Some n) (end_of (kind_at ps x))

-- Below a make the prerequisites decide, elsewhere the one side's end and the other's start.
abbrev pub judged : Build → Meeting → ℕ → ℕ → Bool
judged s m a b =
    cond (is_make (kind_at s.places m.place))
    (needs s.rows (row_of (kind_at s.places m.right)) (row_of (kind_at s.places m.left)))
    (ends_before (side_end s.places m.place m.left a) (side_start s.places m.place m.right b))

abbrev pub before_in : Build → Timestamp → Timestamp → Bool
before_in s a b =
    known_in s a && (known_in s b && (nat_lt a.number b.number
    && judged s (climb (parents s.places) a.place b.place) a.number b.number))

abbrev pub meaning : Build → Meaning
meaning s = record { number = s.number; lives = lives_in s; known = known_in s; before = before_in s }
