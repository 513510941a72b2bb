-- What an order does, exactly: a machine that can be run.
use Rattle.std.specs.Prelude.{◌≡◌, ℕ, Bool, true, false, List, [], ◌∷◌, Ok, Err, Result, MatchResult}
use Rattle.faults.specs.declared.OrderFault.{OrderFault}
use Rattle.order.specs.declared.Timestamp.{Timestamp}
use Rattle.order.specs.Events.{Told}
use Rattle.order.specs.Meaning.{Meaning}

pub record Machine : Type 1 where
  pub State : Type 0
  -- the state after an event, or the refusal
  pub tell : State → Told → Result State OrderFault
  -- a process's next timestamp and the state after, or the refusal
  pub stamp : State → ℕ → Result (Timestamp × State) OrderFault
  -- whether any process lives
  pub any : State → Bool
  pub means : State → Meaning
  -- what a new state has and every accepted call keeps
  pub valid : State → Type 0

-- A call from s to t answers r as the machine answers x: accepted, t is the machine's state; refused, t is s.
abbrev pub Tells : {S U : Type 0} → Result S OrderFault → Result U OrderFault → S → S → Type 0
Tells x r s t = MatchResult r (λ _. x ≡ Ok t) (λ f. (x ≡ Err f) × (t ≡ s))

-- The same of a call that answers a timestamp.
abbrev pub Stamps : {S : Type 0} → Result (Timestamp × S) OrderFault → Result Timestamp OrderFault → S → S → Type 0
Stamps x r s t = MatchResult r (λ k. x ≡ Ok (k, t)) (λ f. (x ≡ Err f) × (t ≡ s))

-- refused with the fault if the test holds, else x
abbrev pub refused_if : {X : Type 0} → Bool → OrderFault → Result X OrderFault → Result X OrderFault
refused_if true f x = Err f
refused_if false f x = x

-- The checks of a call, in their order: the first whose test holds refuses with its fault, and if none does, x is the answer.
abbrev pub checked : {X : Type 0} → List (Bool × OrderFault) → Result X OrderFault → Result X OrderFault
checked [] x = x
checked (c ∷ cs) x = refused_if c.0 c.1 (checked cs x)
