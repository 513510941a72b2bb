use Rattle.std.proofs.Common.{◌≡◌, ℕ, [], ◌∷◌, Ok, ◌∙◌}
use Rattle.order.specs.declared.Timestamp.{Timestamp}
use Rattle.order.specs.Machine.{Machine}
use Rattle.order.specs.Right.{Right}
use Rattle.histories.specs.Found.{Looked, none, moved, more}
use Rattle.histories.specs.Lookups.{KeptAttempts, untried, tried, looked, attempted, looked_up}
use Rattle.histories.proofs.example.made_and_looked_up.Goals as goal

-- new, a timestamp, the attempt; another timestamp, the lookup
two_looked : (m : Machine) → Right m → (s t u : m.State) (p q : ℕ) (a b : Timestamp) → m.valid s → m.stamp s p ≡ Ok (a, t) → m.stamp t q ≡ Ok (b, u)
    → (k l o : KeptAttempts) → k ≡ untried → l ≡ tried k a → o ≡ looked (m.means u).before l b → Looked (m.means u) (attempted a ∷ looked_up b ∷ []) o
two_looked m right s t u p q a b v first second k l o new f h =
    let x = right.given s p a t v first in
    let y = right.given t q b u x.valid second in
    rw (h, f, new) (more (moved (more none (attempted a) x.known) y.advanced) (looked_up b) y.known)

pub returns : goal.returns
returns g c = record {
  law = λ v.
      c.race-race.ensures.law (g.O.Order.machine.means (g.O.Order.model c.stamp-2.new.self)) _
      (two_looked g.O.Order.machine g.met.O.Order.right _ _ _ _ _ _ _ v c.in_ok-one.ensures.answer c.in_ok-two.ensures.answer _ _ _
      (c.reserve.ensures.same ∙ c.new-directory.ensures.value) c.attempt.ensures.after c.look_up.ensures.after);
}
