-- The checks of a call, walked one by one.
use Rattle.std.proofs.Common.{◌≡◌, ℕ, zero, suc, ◌+◌, ◌≤◌, Bool, true, false, List, [], ◌∷◌, ◌==◌, is_ok, IfOk, Result, refl, arith}
use Rattle.std.proofs.lemmas.Bool.{false≢true, eqb-false}
use Rattle.faults.specs.declared.OrderFault.{OrderFault}
use Rattle.order.specs.Machine.{refused_if, checked}
use Rattle.order.specs.Meaning.{last_number}

-- each test failed
abbrev pub Passed : List (Bool × OrderFault) → Type 0
Passed [] = Unit {0}
Passed (c ∷ cs) = (c.0 ≡ false) × Passed cs

-- what is accepted has passed each check
pub passing : {X : Type 0} (P : X → Type 0) (cs : List (Bool × OrderFault)) (x : Result X OrderFault) → (Passed cs → IfOk x P) → IfOk (checked cs x) P
passing P [] x rest = rest tt
passing P (c ∷ cs) x rest = go c.0 (λ e. passing P cs x (λ ps. rest (e, ps)))
  where
    go : (b : Bool) → (b ≡ false → IfOk (checked cs x) P) → IfOk (refused_if b c.1 (checked cs x)) P
    go true h = tt
    go false h = h refl

refused_behind : {X : Type 0} (b : Bool) (f : OrderFault) (x : Result X OrderFault) → is_ok x ≡ false → is_ok (refused_if b f x) ≡ false
refused_behind true f x e = refl
refused_behind false f x e = e

-- the test of the check at a place
abbrev pub test_at : List (Bool × OrderFault) → ℕ → Bool
test_at [] k = false
test_at (c ∷ cs) zero = c.0
test_at (c ∷ cs) (suc k) = test_at cs k

-- where a test holds, the call is refused
pub refusing : {X : Type 0} (cs : List (Bool × OrderFault)) (x : Result X OrderFault) (k : ℕ) → test_at cs k ≡ true → is_ok (checked cs x) ≡ false
refusing [] x k e = absurd (false≢true e)
refusing (c ∷ cs) x zero e = go c.0 e
  where
    go : (b : Bool) → b ≡ true → is_ok (refused_if b c.1 (checked cs x)) ≡ false
    go true h = refl
    go false h = absurd (false≢true h)
refusing (c ∷ cs) x (suc k) e = refused_behind c.0 c.1 (checked cs x) (refusing cs x k e)

-- what is refused after the checks is refused
pub refused_after : {X : Type 0} (cs : List (Bool × OrderFault)) (x : Result X OrderFault) → is_ok x ≡ false → is_ok (checked cs x) ≡ false
refused_after [] x e = e
refused_after (c ∷ cs) x e = refused_behind c.0 c.1 (checked cs x) (refused_after cs x e)

-- a number that the check of the last number let pass: the next one is still to give
pub still_counted : (n : ℕ) → n ≤ last_number → (n == last_number) ≡ false → n + 1 ≤ last_number
still_counted n v e = let ne = eqb-false n last_number e in omega arith
