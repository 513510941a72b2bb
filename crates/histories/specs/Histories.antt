-- The history of one key, and what entering an access does: the exact account, which can be run.
use Rattle.std.specs.Prelude.{ℕ, Bool, true, false, cond, List, [], ◌∷◌, ◌++◌, reverse, length, Some, None, Option, ◌==◌}
use Rattle.std.specs.Option.{option_to_list}
use Rattle.order.specs.declared.Timestamp.{Timestamp}
use Rattle.histories.specs.declared.accesses.Access.{Access}
use Rattle.histories.specs.declared.accesses.Checked.{Checked}
use Rattle.histories.specs.declared.accesses.Kind.{Kind}
use Rattle.histories.specs.declared.accesses.Race.{Race}

-- What is kept: the last critical access, the noncritical ones since (oldest first), and the first failing pair.
pub record Kept : Type 0 where
  pub critical : Option Timestamp
  pub since : List Timestamp
  pub failed : Option Race

-- nothing was entered
abbrev pub unused : Kept
unused = record { critical = None; since = []; failed = None }

-- What a new access is checked against, in the order of the questions. A noncritical one: the last critical one, if any. A critical
-- one: the noncritical ones since, the newest first; if there are none, the last critical one, if any.
abbrev pub asked : Bool → Kept → List Timestamp
asked true k = cond (length k.since == 0) (option_to_list k.critical) (reverse k.since)
asked false k = option_to_list k.critical

-- the first of them that is not before the new one
abbrev pub first_failing : (Timestamp → Timestamp → Bool) → List Timestamp → Timestamp → Option Timestamp
first_failing before [] x = None
first_failing before (t ∷ ts) x = cond (before t x) (first_failing before ts x) (Some t)

-- What the checks against all of these find. Each counts as one.
abbrev pub checked : (Timestamp → Timestamp → Bool) → List Timestamp → Timestamp → Checked
checked before ts x = record { checks = length ts; failed = first_failing before ts x }

-- the number of the earlier access; 0 if there is none
abbrev pub earlier_number : Option Timestamp → ℕ
earlier_number None = 0
earlier_number (Some t) = t.number

-- The failing pair after a check failed, or none did: the first one stays.
abbrev pub first_race : Option Race → Option Timestamp → Timestamp → Option Race
first_race (Some r) failed x = Some r
first_race None None x = None
first_race None (Some t) x = Some (record { earlier = t; later = x })

-- what an access finds, by whether it is critical
abbrev pub found : (Timestamp → Timestamp → Bool) → Bool → Kept → Timestamp → Checked
found before c k x = checked before (asked c k) x

-- what is kept after it
abbrev pub after : (Timestamp → Timestamp → Bool) → Bool → Kept → Timestamp → Kept
after before true k x = record { critical = Some x; since = []; failed = first_race k.failed (found before true k x).failed x }
after before false k x = record { critical = k.critical; since = k.since ++ x ∷ []; failed = first_race k.failed (found before false k x).failed x }

-- the same of an access, under a rule that has these critical kinds
abbrev pub finds : (Kind → Bool) → (Timestamp → Timestamp → Bool) → Kept → Access → Checked
finds critical before k a = found before (critical a.kind) k a.at

abbrev pub enter : (Kind → Bool) → (Timestamp → Timestamp → Bool) → Kept → Access → Kept
enter critical before k a = after before (critical a.kind) k a.at
