-- What the law says of timestamps at the last number.
use Rattle.std.proofs.Common.{◌≡◌, ℕ, Bool, true, false, cond, is_ok, Some, None, Ok, Err, Result, refl, ap, ◌∙◌}
use Rattle.std.proofs.lemmas.Bool.{eq-eqb}
use Rattle.std.specs.Result.{result_err}
use Rattle.faults.specs.declared.OrderFault.{OrderFault}
use Rattle.faults.specs.declared.OrderFault.TheVariants.{NotLive, UsedUp}
use Rattle.order.specs.Machine.{Machine}
use Rattle.order.specs.Meaning.{last_number}
use Rattle.order.specs.Right.{Right}

no_answer : {X : Type 0} (lives : Bool) (r : Result X OrderFault) → result_err r ≡ cond lives (Some UsedUp) (Some NotLive) → is_ok r ≡ false
no_answer lives (Err f) e = refl
no_answer true (Ok x) e = cc
no_answer false (Ok x) e = cc

-- none is given any more
pub stamp_ended : (m : Machine) → Right m → (s : m.State) (p : ℕ) → m.valid s → (m.means s).number ≡ last_number → is_ok (m.stamp s p) ≡ false
stamp_ended m right s p v e =
    no_answer ((m.means s).lives p) (m.stamp s p)
    (right.refused s p v ∙ ap (λ b. cond ((m.means s).lives p) (cond b (Some UsedUp) None) (Some NotLive)) (eq-eqb (m.means s).number last_number e))
