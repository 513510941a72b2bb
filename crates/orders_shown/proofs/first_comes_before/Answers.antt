use Rattle.std.proofs.Common.{◌≡◌, Bool, true, ◌∙◌}
use Rattle.order.proofs.Runs.{ran_after}
use Rattle.order.specs.declared.Timestamp.{Timestamp}
use Rattle.order.specs.Runs.{Ran}
use Rattle.stages.specs.Machine.{Staged, stages, start}
use Rattle.flags.specs.Machine.{Flagged, flagged, new_flags}
use Rattle.orders_shown.specs.Rows.{at}
use Rattle.orders_shown.specs.Session.{session}
use Rattle.orders_shown.proofs.first_comes_before.Goals as goal

-- the session's state gives the answer, by evaluation
session_answer : (s : Flagged Staged) → Ran (flagged stages) (new_flags (start 2)) session s → (a b : Timestamp) → a ≡ at 1 1 → b ≡ at 4 2
    → (r : Bool) → r ≡ ((flagged stages).means s).before a b → r ≡ true
session_answer s ran a b first second r is = is ∙ λ i. ((flagged stages).means (ran_after (flagged stages) (new_flags (start 2)) ran i)).before (first i) (second i)

pub returns : goal.returns
returns c = record { answer = session_answer _ c.in_ok-order.ensures.run _ _ c.at.ensures.answer c.at-2.ensures.answer c.before-2.result c.before-2.ensures.answer }
