-- The law of orders: what a machine owes to be an order.
use Rattle.std.specs.Prelude.{◌≡◌, ℕ, ◌+◌, true, false, is_ok, Ok, Decides}
use Rattle.std.specs.Result.{result_err}
use Rattle.order.specs.declared.Timestamp.{Timestamp}
use Rattle.order.specs.Events.{Told}
use Rattle.order.specs.Machine.{Machine}
use Rattle.order.specs.Meaning.{Lawful, Advanced, last_number, lives_after, stamp_fault}

-- an accepted event
pub record EventTaken (m : Machine) (s : m.State) (e : Told) (t : m.State) : Type 0 where
  pub advanced : Advanced (m.means s) (m.means t)
  pub lives : (p : ℕ) → (m.means t).lives p ≡ lives_after e (m.means s).lives p
  pub valid : m.valid t

-- a timestamp given
pub record StampGiven (m : Machine) (s : m.State) (k : Timestamp) (t : m.State) : Type 0 where
  pub advanced : Advanced (m.means s) (m.means t)
  pub lives : (p : ℕ) → (m.means t).lives p ≡ (m.means s).lives p
  pub valid : m.valid t
  pub newest : k.number ≡ (m.means s).number + 1
  pub known : (m.means t).known k ≡ true

-- Each fact is of every valid state. A refused call has no state after it: it leaves the state that it met.
pub record Right (m : Machine) : Type 0 where
  pub lawful : (s : m.State) → m.valid s → Lawful (m.means s)
  pub taken : (s : m.State) (e : Told) (t : m.State) → m.valid s → m.tell s e ≡ Ok t → EventTaken m s e t
  -- at the last number every event is refused
  pub ended : (s : m.State) (e : Told) → m.valid s → (m.means s).number ≡ last_number → is_ok (m.tell s e) ≡ false
  pub given : (s : m.State) (p : ℕ) (k : Timestamp) (t : m.State) → m.valid s → m.stamp s p ≡ Ok (k, t) → StampGiven m s k t
  -- a timestamp is refused exactly as the meaning says
  pub refused : (s : m.State) (p : ℕ) → m.valid s → result_err (m.stamp s p) ≡ stamp_fault (m.means s) p
  -- some process lives exactly if the machine says so
  pub somebody : (s : m.State) → m.valid s → Decides (m.any s) ((p : ℕ) × ((m.means s).lives p ≡ true))
