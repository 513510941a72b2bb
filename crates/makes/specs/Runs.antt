-- The make order over whole runs: what its answers say of the accepted calls alone. The calls stand newest first.
-- Places are named in the order in which they came into being: 0 is the session, and the k-th place that a call made is k.
use Rattle.std.specs.Prelude.{◌≡◌, ℕ, suc, ◌-◌, ◌<◌, ◌≤◌, Bool, true, false, cond, ◌⊎◌, List, [], ◌∷◌, ◌++◌, length, is_some, Some, None, Decides, count_by, Option, ◌==◌, ◌≢◌, slice_index, slice_index_or}
use Rattle.order.specs.declared.Timestamp.{Timestamp}
use Rattle.order.specs.Events.{birth, make, target, death, post, await}
use Rattle.order.specs.Runs.{Call, tell, stamp, Ran, Alive}
use Rattle.makes.specs.declared.climb.Meeting.{Meeting}
use Rattle.makes.specs.declared.room.Room.{Room}
use Rattle.makes.specs.Machine.{Build, start}
use Rattle.makes.specs.Order.{make_machine}
use Rattle.makes.specs.Places.{Sort, session, make as a_make, target as a_target, step, make_sort}
use Rattle.makes.specs.Sound.{fits_below, lasting}
use Rattle.makes.specs.Tree.{up, Holds, Meets, line, levels}

-- The calls were accepted one after the other by a new make order, and led to this state.
abbrev pub SinceStart : List Call → Build → Type 0
SinceStart calls s = (room : Room) × Ran make_machine (start room) calls s

-- The sorts of the places, oldest first: a make by its call, a target by its call, a step by a birth that names a target.
abbrev pub sorts_in : List Call → List Sort
sorts_in [] = session ∷ []
sorts_in (tell (birth p parent t) ∷ calls) = cond (t == 0) (sorts_in calls) (sorts_in calls ++ step ∷ [])
sorts_in (tell (make p) ∷ calls) = sorts_in calls ++ a_make ∷ []
sorts_in (tell (target p ks) ∷ calls) = sorts_in calls ++ a_target ∷ []
sorts_in (tell (death p) ∷ calls) = sorts_in calls
sorts_in (tell (post p f) ∷ calls) = sorts_in calls
sorts_in (tell (await p f) ∷ calls) = sorts_in calls
sorts_in (stamp p ∷ calls) = sorts_in calls

abbrev pub sort_in : List Call → ℕ → Sort
sort_in calls x = slice_index_or (sorts_in calls) x session

-- how many places there are, which is also the name of the next one
abbrev pub next_place : List Call → ℕ
next_place calls = length (sorts_in calls)

-- The place of a live process: the session or its parent's place, or the new step if its birth names a target.
abbrev pub place_in : List Call → ℕ → Option ℕ
place_in [] p = None
place_in (tell (birth q parent t) ∷ calls) p =
    cond (q == p) (cond (t == 0) (cond (parent == 0) (Some 0) (place_in calls parent)) (Some (next_place calls))) (place_in calls p)
place_in (tell (make q) ∷ calls) p = place_in calls p
place_in (tell (target q ks) ∷ calls) p = place_in calls p
place_in (tell (death q) ∷ calls) p = cond (q == p) None (place_in calls p)
place_in (tell (post q f) ∷ calls) p = place_in calls p
place_in (tell (await q f) ∷ calls) p = place_in calls p
place_in (stamp q ∷ calls) p = place_in calls p

-- The make that a live process is, if it is one. A process born under a number that returns is another process, and no make.
abbrev pub make_in : List Call → ℕ → Option ℕ
make_in [] p = None
make_in (tell (birth q parent t) ∷ calls) p = cond (q == p) None (make_in calls p)
make_in (tell (make q) ∷ calls) p = cond (q == p) (Some (next_place calls)) (make_in calls p)
make_in (tell (target q ks) ∷ calls) p = make_in calls p
make_in (tell (death q) ∷ calls) p = cond (q == p) None (make_in calls p)
make_in (tell (post q f) ∷ calls) p = make_in calls p
make_in (tell (await q f) ∷ calls) p = make_in calls p
make_in (stamp q ∷ calls) p = make_in calls p

-- whether that is the place x
abbrev pub is_place : Option ℕ → ℕ → Bool
is_place None x = false
is_place (Some y) x = y == x

-- the place of a call's process or make, which every accepted call has
abbrev pub the : Option ℕ → ℕ
the None = 0
the (Some x) = x

-- The targets of a make, oldest first, and the one of a number; they are numbered from 1.
abbrev pub targets_in : List Call → ℕ → List ℕ
targets_in [] m = []
targets_in (tell (birth p parent t) ∷ calls) m = targets_in calls m
targets_in (tell (make p) ∷ calls) m = targets_in calls m
targets_in (tell (target p ks) ∷ calls) m = cond (is_place (make_in calls p) m) (targets_in calls m ++ next_place calls ∷ []) (targets_in calls m)
targets_in (tell (death p) ∷ calls) m = targets_in calls m
targets_in (tell (post p f) ∷ calls) m = targets_in calls m
targets_in (tell (await p f) ∷ calls) m = targets_in calls m
targets_in (stamp p ∷ calls) m = targets_in calls m

abbrev pub target_in : List Call → ℕ → ℕ → ℕ
target_in calls m k = slice_index (targets_in calls m) (k - 1)

-- The tree: the place right above each place, oldest first. A make stands below its process's place, a target below its make, a step below the
-- target that its birth names. Above the session there is none, and the 0 there means nothing.
abbrev pub parents_in : List Call → List ℕ
parents_in [] = 0 ∷ []
parents_in (tell (birth p parent t) ∷ calls) = cond (t == 0) (parents_in calls) (parents_in calls ++ target_in calls (the (make_in calls parent)) t ∷ [])
parents_in (tell (make p) ∷ calls) = parents_in calls ++ the (place_in calls p) ∷ []
parents_in (tell (target p ks) ∷ calls) = parents_in calls ++ the (make_in calls p) ∷ []
parents_in (tell (death p) ∷ calls) = parents_in calls
parents_in (tell (post p f) ∷ calls) = parents_in calls
parents_in (tell (await p f) ∷ calls) = parents_in calls
parents_in (stamp p ∷ calls) = parents_in calls

-- Somebody lives at or below the place, or is the make that the place is.
pub data Peopled (calls : List Call) (x : ℕ) : Type 0 where
  below : (p : ℕ) {y : ℕ} → place_in calls p ≡ Some y → Holds (parents_in calls) x y → Peopled calls x
  own : (p : ℕ) → make_in calls p ≡ Some x → Peopled calls x

-- A step of the make has been born.
pub data Begun (m : ℕ) : List Call → Type 0 where
  begun_now : {p parent t : ℕ} {calls : List Call} → (t ≢ 0) → make_in calls parent ≡ Some m → Begun m (tell (birth p parent t) ∷ calls)
  begun_before : {c : Call} {calls : List Call} → Begun m calls → Begun m (c ∷ calls)

-- A step starts with its birth, and a make with the birth of its first step: with the number of that call.
pub data Starts (x : ℕ) : List Call → ℕ → Type 0 where
  step_born : {p parent t : ℕ} {calls : List Call} → (t ≢ 0) → x ≡ next_place calls → Starts x (tell (birth p parent t) ∷ calls) (suc (length calls))
  first_step : {p parent t : ℕ} {calls : List Call} → (t ≢ 0) → make_in calls parent ≡ Some x → (Begun x calls → ⊥) → Starts x (tell (birth p parent t) ∷ calls) (suc (length calls))
  started_before : {c : Call} {calls : List Call} {n : ℕ} → Starts x calls n → Starts x (c ∷ calls) n

-- A step or a make ends with the last death among those at or below it and its own process: with the number of that call.
pub data Ended (x : ℕ) : List Call → ℕ → Type 0 where
  last_death : {p : ℕ} {calls : List Call} → Peopled calls x → (Peopled (tell (death p) ∷ calls) x → ⊥) → Ended x (tell (death p) ∷ calls) (suc (length calls))
  ended_before : {c : Call} {calls : List Call} {n : ℕ} → Ended x calls n → Ended x (c ∷ calls) n

-- The declaration of the target x names the target y.
pub data Names (x y : ℕ) : List Call → Type 0 where
  named_now : {p m j : ℕ} {ks : List ℕ} {calls : List Call} → make_in calls p ≡ Some m → j < length ks → x ≡ next_place calls → y ≡ target_in calls m (slice_index ks j) → Names x y (tell (target p ks) ∷ calls)
  named_before : {c : Call} {calls : List Call} → Names x y calls → Names x y (c ∷ calls)

-- y is a prerequisite of x, directly or through others.
pub data Prerequisite (calls : List Call) (y : ℕ) : ℕ → Type 0 where
  directly : {x : ℕ} → Names x y calls → Prerequisite calls y x
  through : {x z : ℕ} → Names x z calls → Prerequisite calls y z → Prerequisite calls y x

-- A timestamp is known if its number is that of a call, and its place the session or a step.
pub record Known (calls : List Call) (a : Timestamp) : Type 0 where
  pub from_one : 1 ≤ a.number
  pub counted : a.number ≤ length calls
  pub placed : (a.place ≡ 0) ⊎ (sort_in calls a.place ≡ step)

-- The side x at c of a timestamp with the number n: where x is c itself, it starts and ends at n.
abbrev pub SideStarts : List Call → ℕ → ℕ → ℕ → ℕ → Type 0
SideStarts calls c x n k = ((x ≡ c) × (k ≡ n)) ⊎ ((x ≢ c) × Starts x calls k)

abbrev pub SideEnds : List Call → ℕ → ℕ → ℕ → ℕ → Type 0
SideEnds calls c x n e = ((x ≡ c) × (e ≡ n)) ⊎ ((x ≢ c) × Ended x calls e)

-- the left side ended before the right side started
abbrev pub SidesApart : List Call → Meeting → ℕ → ℕ → Type 0
SidesApart calls m a b = (e : ℕ) × (k : ℕ) × SideEnds calls m.place m.left a e × SideStarts calls m.place m.right b k × (e < k)

-- Where two places meet, the sort of the meeting place says what orders the numbers a and b at them.
abbrev pub Rule : Sort → List Call → Meeting → ℕ → ℕ → Type 0
Rule a_make calls m a b = Prerequisite calls m.left m.right
Rule a_target calls m a b = (e : ℕ) × (k : ℕ) × Ended m.left calls e × Starts m.right calls k × (e < k)
Rule session calls m a b = SidesApart calls m a b
Rule step calls m a b = SidesApart calls m a b

-- Of two known timestamps the lower-numbered is before the other if the rule of the lowest place that holds both says so.
pub record Before (calls : List Call) (a b : Timestamp) : Type 0 where
  pub first : Known calls a
  pub second : Known calls b
  pub lower : a.number < b.number
  pub meeting : Meeting
  pub meets : Meets (parents_in calls) a.place b.place meeting
  pub rule : Rule (sort_in calls meeting.place) calls meeting a.number b.number

-- What every run has, in these words. So no accepted call meets the 0 that stands for nothing, and starts and ends are what they are called.
pub record Orderly (calls : List Call) : Type 0 where
  -- a process has a place exactly while it lives, and that is the session or a step
  pub placed : (p : ℕ) → Decides (is_some (place_in calls p)) (Alive p calls)
  pub stands : (p x : ℕ) → place_in calls p ≡ Some x → (x ≡ 0) ⊎ (sort_in calls x ≡ step)
  -- a make stands right below its own process's place, and its targets stand right below it
  pub owned : (p m : ℕ) → make_in calls p ≡ Some m → (sort_in calls m ≡ a_make) × (place_in calls p ≡ Some (up (parents_in calls) m))
  pub targets : (m k : ℕ) → k < length (targets_in calls m) → (sort_in calls (slice_index (targets_in calls m) k) ≡ a_target) × (up (parents_in calls) (slice_index (targets_in calls m) k) ≡ m)
  -- below the session and below steps stand makes, below makes targets, below targets steps
  pub fits : (x : ℕ) → 0 < x → x < next_place calls → fits_below (sort_in calls x) (sort_in calls (up (parents_in calls) x)) ≡ true
  -- at most 16 makes hold a place, so that it is at most 48 levels below the session
  pub shallow : (x : ℕ) → x < next_place calls → (count_by (λ y. make_sort (sort_in calls y)) (line (parents_in calls) x) ≤ 16) × (levels (parents_in calls) x ≤ 48)
  -- what starts does so once: each step, and each make that holds a step, has started
  pub started : (x y : ℕ) → Holds (parents_in calls) x y → lasting (sort_in calls x) ≡ true → sort_in calls y ≡ step → (n : ℕ) × Starts x calls n
  pub once_started : (x n k : ℕ) → Starts x calls n → Starts x calls k → n ≡ k
  -- a make or a step ends once, not before its start, and has ended exactly if nobody peoples it: it is never peopled again
  pub once_ended : (x n k : ℕ) → lasting (sort_in calls x) ≡ true → Ended x calls n → Ended x calls k → n ≡ k
  pub forward : (x n k : ℕ) → lasting (sort_in calls x) ≡ true → Starts x calls n → Ended x calls k → n ≤ k
  pub over : (x : ℕ) → lasting (sort_in calls x) ≡ true → ((n : ℕ) × Ended x calls n) ⊎ Peopled calls x
  pub never_again : (x n : ℕ) → lasting (sort_in calls x) ≡ true → Ended x calls n → Peopled calls x → ⊥
