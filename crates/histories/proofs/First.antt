-- What the law of a run rests on: an order that moves on, and a first failing pair that stays.
use Rattle.std.proofs.Common.{◌≡◌, true, not, is_some, IfSome, Some, None, Decides, Option, refl, ◌∙◌, subst}
use Rattle.std.proofs.lemmas.Bool.{false≢true}
use Rattle.order.specs.declared.Timestamp.{Timestamp}
use Rattle.order.specs.Meaning.{Meaning, Advanced}
use Rattle.histories.specs.declared.accesses.Race.{Race}
use Rattle.histories.specs.Histories.{first_race}

-- the order moved on any number of times
pub record Steady (x y : Meaning) : Type 0 where
  pub known_stays : (t : Timestamp) → x.known t ≡ true → y.known t ≡ true
  pub before_stays : (t u : Timestamp) → x.known t ≡ true → x.known u ≡ true → y.before t u ≡ x.before t u

pub steady_self : (x : Meaning) → Steady x x
steady_self x = record { known_stays = λ t h. h; before_stays = λ t u _ _. refl }

pub steady_on : (x y z : Meaning) → Advanced x y → Steady y z → Steady x z
steady_on x y z on s = record {
  known_stays = λ t k. s.known_stays t (on.known_stays t k);
  before_stays = λ t u kt ku. s.before_stays t u (on.known_stays t kt) (on.known_stays u ku) ∙ on.before_stays t u kt ku;
}

-- the failing pair after: the one that there was, or the new one
pub first_none : (o : Option Race) (f : Option Timestamp) (x : Timestamp) → first_race o f x ≡ None → (o ≡ None) × (f ≡ None)
first_none None None x e = (refl, refl)
first_none None (Some t) x e = cc
first_none (Some r) f x e = cc

pub first_some : (P : Race → Type 0) (o : Option Race) (f : Option Timestamp) (x : Timestamp) → ((r : Race) → o ≡ Some r → P r)
    → ((t : Timestamp) → f ≡ Some t → P (record { earlier = t; later = x })) → (r : Race) → first_race o f x ≡ Some r → P r
first_some P (Some q) f x old new r e = old r e
first_some P None None x old new r e = cc
first_some P None (Some t) x old new r e = let same : record { earlier = t; later = x } ≡ r = cc in subst P same (new t refl)

-- what a failing pair, or none, tells
pub decides_failed : {X P : Type 0} (o : Option X) → (o ≡ None → P) → ((r : X) → o ≡ Some r → P → ⊥) → Decides (not (is_some o)) P
decides_failed None clean raced = (λ _. clean refl, λ _. refl)
decides_failed (Some r) clean raced = (λ e. absurd (false≢true e), λ p. absurd (raced r refl p))

pub cases_failed : {X : Type 0} (P : X → Type 0) (o : Option X) → ((r : X) → o ≡ Some r → P r) → IfSome o P
cases_failed P None shown = tt
cases_failed P (Some r) shown = shown r refl
