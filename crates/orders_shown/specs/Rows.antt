-- A worked row: an order, a state of it, and calls and questions with the answers that the rules give.
use Rattle.std.specs.Prelude.{ℕ, Bool, true, false, ◌&&◌, List, [], ◌∷◌, Ok, Err, Result, ◌==◌}
use Rattle.faults.specs.declared.OrderFault.{OrderFault}
use Rattle.faults.specs.Numbers.{order_number}
use Rattle.order.specs.declared.Timestamp.{Timestamp}
use Rattle.order.specs.Events.{Told}
use Rattle.order.specs.Machine.{Machine}

pub data Ask : Type 0 where
  tell : Told → Ask
  stamp : ℕ → Ask
  lives : ℕ → Ask
  any_lives : Ask
  known : Timestamp → Ask
  before : Timestamp → Timestamp → Ask

-- an event taken in, a timestamp, a refusal by its number in the rules, or a yes or no
pub data Answer : Type 0 where
  taken : Answer
  stamped : Timestamp → Answer
  refused : ℕ → Answer
  truth : Bool → Answer

-- a timestamp, by its number and its place
abbrev pub at : ℕ → ℕ → Timestamp
at number place = record { number = number; place = place }

-- what an order answers, and the state after
abbrev told_answer : {S : Type 0} → S → Result S OrderFault → Answer × S
told_answer s (Ok t) = (taken, t)
told_answer s (Err f) = (refused (order_number f), s)

abbrev stamp_answer : {S : Type 0} → S → Result (Timestamp × S) OrderFault → Answer × S
stamp_answer s (Ok r) = (stamped r.0, r.1)
stamp_answer s (Err f) = (refused (order_number f), s)

abbrev pub answer : (m : Machine) → m.State → Ask → Answer × m.State
answer m s (tell e) = told_answer s (m.tell s e)
answer m s (stamp p) = stamp_answer s (m.stamp s p)
answer m s (lives p) = (truth ((m.means s).lives p), s)
answer m s any_lives = (truth (m.any s), s)
answer m s (known a) = (truth ((m.means s).known a), s)
answer m s (before a b) = (truth ((m.means s).before a b), s)

-- whether two answers are equal
abbrev alike : Bool → Bool → Bool
alike true b = b
alike false true = false
alike false false = true

abbrev same_answer : Answer → Answer → Bool
same_answer taken taken = true
same_answer taken (stamped b) = false
same_answer taken (refused n) = false
same_answer taken (truth u) = false
same_answer (stamped a) taken = false
same_answer (stamped a) (stamped b) = a.number == b.number && a.place == b.place
same_answer (stamped a) (refused n) = false
same_answer (stamped a) (truth u) = false
same_answer (refused m) taken = false
same_answer (refused m) (stamped b) = false
same_answer (refused m) (refused n) = m == n
same_answer (refused m) (truth u) = false
same_answer (truth t) taken = false
same_answer (truth t) (stamped b) = false
same_answer (truth t) (refused n) = false
same_answer (truth t) (truth u) = alike t u

-- whether the order gives every answer of the list, one after the other
abbrev pub gives : (m : Machine) → m.State → List (Ask × Answer) → Bool
gives m s [] = true
gives m s (x ∷ xs) = let r = answer m s x.0 in same_answer r.0 x.1 && gives m r.1 xs

pub record Row : Type 1 where
  pub order : Machine
  pub state : order.State
  pub calls : List (Ask × Answer)

-- whether every row holds
abbrev pub all_hold : List Row → Bool
all_hold [] = true
all_hold (r ∷ rows) = gives r.order r.state r.calls && all_hold rows
