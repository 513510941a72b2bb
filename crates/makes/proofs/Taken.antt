-- An accepted event leads to a state that is sound again, by the law.
use Rattle.std.proofs.Common.{◌≡◌, ℕ, ◌<◌, Bool, cond, eqb, List, [], ◌∷◌, length, Some, Ok, Result, refl, ap, ◌∙◌, subst, arith}
use Rattle.std.proofs.lemmas.Bool.{eq-eqb, ne_eqb}
use Rattle.faults.specs.declared.OrderFault.{OrderFault}
use Rattle.faults.specs.declared.OrderFault.TheVariants.{UsedUp}
use Rattle.order.proofs.Checks.{Passed}
use Rattle.order.specs.Events.{Told, birth, make, target, death}
use Rattle.order.specs.Machine.{refused_if, checked}
use Rattle.order.specs.Meaning.{last_number}
use Rattle.makes.specs.Machine.{Build, found, home_of, parent_home, born, born_at, with_step, birth_checks, birth_from, turned_make, make_checks, make_from, declared, target_checks, target_from, died, death_from, tell_make_order}
use Rattle.makes.specs.Places.{stand, birth_at}
use Rattle.makes.specs.Sound.{Sound}
use Rattle.makes.specs.Law.{make_right}

-- where each check passes, the call is accepted
all_passed : {X : Type 0} (cs : List (Bool × OrderFault)) (x : Result X OrderFault) → Passed cs → checked cs x ≡ x
all_passed [] x ps = refl
all_passed (c ∷ cs) x ps = ap (λ b. refused_if b c.1 (checked cs x)) ps.0 ∙ all_passed cs x ps.1

module _ (s : Build) (sound : Sound s) where
  kept_by : (e : Told) (t : Build) → tell_make_order s e ≡ Ok t → Sound t
  kept_by e t ok = (make_right.taken s e t sound ok).valid

  birth_kept : (p q t h : ℕ) → parent_home s q ≡ Some h → Passed (birth_checks s p h t) → Sound (born s p h t)
  birth_kept p q t h at ps = kept_by (birth p q t) (born s p h t) (ap (birth_from s p t) at ∙ all_passed (birth_checks s p h t) (Ok (born s p h t)) ps)

  -- with its parent, or at a new step
  pub born_kept : (p q t h : ℕ) → parent_home s q ≡ Some h → Passed (birth_checks s p h t) → t ≡ 0 → Sound (born_at s p s.places (stand s.places h))
  born_kept p q t h at ps zero_is =
      subst Sound (ap (λ b. cond b (born_at s p s.places (stand s.places h)) (born_at s p (with_step s h t) (length s.places))) (eq-eqb t 0 zero_is)) (birth_kept p q t h at ps)

  pub stepped_kept : (p q t h : ℕ) → parent_home s q ≡ Some h → Passed (birth_checks s p h t) → 0 < t → Sound (born_at s p (with_step s h t) (length s.places))
  stepped_kept p q t h at ps some =
      subst Sound (ap (λ b. cond b (born_at s p s.places (stand s.places h)) (born_at s p (with_step s h t) (length s.places))) (ne_eqb t 0 (λ e. omega arith))) (birth_kept p q t h at ps)

  pub make_kept : (p i : ℕ) → found s p ≡ Some i → Passed (make_checks s (birth_at s.births i).at) → Sound (turned_make s i)
  make_kept p i at ps = kept_by (make p) (turned_make s i) (ap (make_from s) at ∙ all_passed (make_checks s (birth_at s.births i).at) (Ok (turned_make s i)) ps)

  pub target_kept : (p : ℕ) (ks : List ℕ) (h : ℕ) → home_of s p ≡ Some h → Passed (target_checks s h ks) → Sound (declared s h ks)
  target_kept p ks h at ps = kept_by (target p ks) (declared s h ks) (ap (target_from s ks) at ∙ all_passed (target_checks s h ks) (Ok (declared s h ks)) ps)

  pub death_kept : (p i : ℕ) → found s p ≡ Some i → (s.number ≡ last_number → ⊥) → Sound (died s i)
  death_kept p i at more = kept_by (death p) (died s i) (ap (death_from s) at ∙ all_passed ((eqb s.number last_number, UsedUp) ∷ []) (Ok (died s i)) (ne_eqb s.number last_number more, tt))
