-- The stage order over whole runs: what its answers say of the accepted calls alone.
use Rattle.std.specs.Prelude.{◌≡◌, ℕ, ◌-◌, ◌<◌, ◌≤◌, ◌⊎◌, List, [], ◌∷◌, ◌++◌, length, slice_index_or}
use Rattle.order.specs.declared.Timestamp.{Timestamp}
use Rattle.order.specs.Events.{birth, make, target, death, post, await}
use Rattle.order.specs.Runs.{Call, tell, stamp, Ran, Bears}
use Rattle.stages.specs.Machine.{Staged, stages, start}

-- The calls, newest first, were accepted one after the other by a new stage order, and led to this state.
abbrev pub SinceStart : List Call → Staged → Type 0
SinceStart calls s = (room : ℕ) × Ran stages (start room) calls s

-- the births among the calls, oldest first, each by its process and its stage
abbrev pub births_in : List Call → List (ℕ × ℕ)
births_in [] = []
births_in (tell (birth p parent stage) ∷ calls) = births_in calls ++ (p, stage) ∷ []
births_in (tell (make p) ∷ calls) = births_in calls
births_in (tell (target p ts) ∷ calls) = births_in calls
births_in (tell (death p) ∷ calls) = births_in calls
births_in (tell (post p f) ∷ calls) = births_in calls
births_in (tell (await p f) ∷ calls) = births_in calls
births_in (stamp p ∷ calls) = births_in calls

-- the stage of a place: that of the birth with this count, from 1
abbrev pub stage_in : List Call → ℕ → ℕ
stage_in calls place = (slice_index_or (births_in calls) (place - 1) (0, 0)).1

-- A process has the place of its latest birth, and that is how many births there were up to then.
pub data Placed (p : ℕ) : List Call → ℕ → Type 0 where
  born : {c : Call} {calls : List Call} → Bears p c → Placed p (c ∷ calls) (length (births_in (c ∷ calls)))
  still : {c : Call} {calls : List Call} {k : ℕ} → (Bears p c → ⊥) → Placed p calls k → Placed p (c ∷ calls) k

-- A timestamp is known if its number is that of a call and its place that of a birth.
pub record Known (calls : List Call) (a : Timestamp) : Type 0 where
  pub from_one : 1 ≤ a.number
  pub counted : a.number ≤ length calls
  pub placed : 1 ≤ a.place
  pub born : a.place ≤ length (births_in calls)

-- Of two known timestamps the lower-numbered is before the other if the places are equal or its stage is lower.
pub record Before (calls : List Call) (a b : Timestamp) : Type 0 where
  pub first : Known calls a
  pub second : Known calls b
  pub lower : a.number < b.number
  pub staged : (a.place ≡ b.place) ⊎ (stage_in calls a.place < stage_in calls b.place)
