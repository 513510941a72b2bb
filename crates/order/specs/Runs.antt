-- Runs: what a whole list of accepted calls makes of an order.
use Rattle.std.specs.Prelude.{◌≡◌, ℕ, List, [], ◌∷◌, Ok, Err, Result}
use Rattle.std.specs.Result.{result_unwrap_or}
use Rattle.faults.specs.declared.OrderFault.{OrderFault}
use Rattle.order.specs.declared.Timestamp.{Timestamp}
use Rattle.order.specs.Events.{Told, birth, make, target, death, post, await}
use Rattle.order.specs.Machine.{Machine}

-- a call that can be accepted: an event told, or a timestamp taken for a process
pub data Call : Type 0 where
  tell : Told → Call
  stamp : ℕ → Call

-- The calls, newest first, were accepted one after the other and led from the state s to another.
pub data Ran (m : Machine) (s : m.State) : List Call → m.State → Type 0 where
  none : Ran m s [] s
  told : {calls : List Call} {t u : m.State} {e : Told} → Ran m s calls t → m.tell t e ≡ Ok u → Ran m s (tell e ∷ calls) u
  given : {calls : List Call} {t u : m.State} {p : ℕ} {k : Timestamp} → Ran m s calls t → m.stamp t p ≡ Ok (k, u) → Ran m s (stamp p ∷ calls) u

abbrev pub stamp_state : {S : Type 0} → S → Result (Timestamp × S) OrderFault → S
stamp_state s (Ok r) = r.1
stamp_state s (Err f) = s

-- the state that a call leaves, and that a list of calls leaves, newest first; a refused call leaves the state that it met
abbrev pub after_call : (m : Machine) → m.State → Call → m.State
after_call m s (tell e) = result_unwrap_or (m.tell s e) s
after_call m s (stamp p) = stamp_state s (m.stamp s p)

abbrev pub after : (m : Machine) → m.State → List Call → m.State
after m s [] = s
after m s (c ∷ calls) = after_call m (after m s calls) c

-- the call is the birth of the process
abbrev pub Bears : ℕ → Call → Type 0
Bears p (tell (birth q parent t)) = q ≡ p
Bears p (tell (make q)) = ⊥
Bears p (tell (target q ts)) = ⊥
Bears p (tell (death q)) = ⊥
Bears p (tell (post q f)) = ⊥
Bears p (tell (await q f)) = ⊥
Bears p (stamp q) = ⊥

-- the call is the death of the process
abbrev pub Ends : ℕ → Call → Type 0
Ends p (tell (birth q parent t)) = ⊥
Ends p (tell (make q)) = ⊥
Ends p (tell (target q ts)) = ⊥
Ends p (tell (death q)) = q ≡ p
Ends p (tell (post q f)) = ⊥
Ends p (tell (await q f)) = ⊥
Ends p (stamp q) = ⊥

-- A process lives if it was born and has not died since.
pub data Alive (p : ℕ) : List Call → Type 0 where
  born : {c : Call} {calls : List Call} → Bears p c → Alive p (c ∷ calls)
  still : {c : Call} {calls : List Call} → Alive p calls → (Ends p c → ⊥) → Alive p (c ∷ calls)
