-- Who lives and where, in the births newest first.
use Rattle.std.specs.Prelude.{◌≡◌, ℕ, suc, ◌<◌, Bool, true, false, cond, not, ◌&&◌, ◌||◌, List, [], ◌∷◌, map, length, is_some, IfSome, Some, None, Decides, Option, ◌==◌, refl}
use Rattle.std.proofs.Common.{⊎_elim, sym, ap, ◌∙◌, arith}
use Rattle.std.proofs.lemmas.List.{length-map}
use Rattle.std.proofs.lemmas.Bool.{false≢true, eq-eqb, and_from, and_parts, or_cases, or_left, or_right}
use Rattle.std.proofs.lemmas.Bool.Decides.{nat_tests}
use Rattle.births.specs.declared.Birth.{Birth}
use Rattle.births.specs.Births.{is_live, live_birth}
use Rattle.stages.specs.Births.{any_live, ended}

pub some_cond : {X : Type 0} (b : Bool) (x : X) (o : Option X) → is_some (cond b (Some x) o) ≡ (b || is_some o)
some_cond true x o = refl
some_cond false x o = refl

pub none_cond : {X : Type 0} (b : Bool) (o : Option X) → is_some (cond b None o) ≡ (not b && is_some o)
none_cond true o = refl
none_cond false o = refl

-- a live birth lies within the births
pub live_within : (xs : List (Birth ℕ)) (p : ℕ) → IfSome (live_birth xs p) (λ i. i < length xs)
live_within [] p = tt
live_within (x ∷ xs) p = go (is_live x p) (live_birth xs p) (live_within xs p)
  where
    go : (b : Bool) (o : Option ℕ) → IfSome o (λ i. i < length xs) → IfSome (cond b (Some (length xs)) o) (λ i. i < suc (length xs))
    go true o h = omega arith
    go false None h = tt
    go false (Some i) h = omega arith

-- a birth after a death, asked for a process
live_ended : (live : Bool) (a p q : ℕ) → ((live && not (a == p)) && a == q) ≡ (not (p == q) && (live && a == q))
live_ended live a p q = grind (arith, nat_tests)

-- after a death its process has no live birth, and each other process the one that it had
pub birth_ended : (xs : List (Birth ℕ)) (p q : ℕ) → live_birth (map (ended p) xs) q ≡ cond (p == q) None (live_birth xs q)
birth_ended [] p q = go (p == q)
  where
    go : (n : Bool) → ◌≡◌ {A = Option ℕ} None (cond n None None)
    go true = refl
    go false = refl
birth_ended (x ∷ xs) p q =
    ap (λ b. cond b (Some (length (map (ended p) xs))) (live_birth (map (ended p) xs) q)) (live_ended x.live x.process p q)
    ∙ go (p == q) (is_live x q) (length (map (ended p) xs)) (live_birth (map (ended p) xs) q) (length-map xs (ended p)) (birth_ended xs p q)
  where
    go : (n b : Bool) (k : ℕ) (o : Option ℕ) → k ≡ length xs → o ≡ cond n None (live_birth xs q) → cond (not n && b) (Some k) o ≡ cond n None (cond b (Some (length xs)) (live_birth xs q))
    go true b k o size e = e
    go false true k o size e = ap Some size
    go false false k o size e = e

any_birth : (xs : List (Birth ℕ)) → any_live xs ≡ true → (p : ℕ) × (is_some (live_birth xs p) ≡ true)
any_birth [] e = absurd (false≢true e)
any_birth (x ∷ xs) e =
    ⊎_elim
    (λ live. (x.process, some_cond _ _ (live_birth xs x.process) ∙ or_left _ _ (and_from _ _ live (eq-eqb x.process _ refl))))
    (λ rest. let h = any_birth xs rest in (h.0, some_cond (is_live x h.0) _ _ ∙ or_right _ _ h.1))
    (or_cases x.live (any_live xs) e)

birth_any : (xs : List (Birth ℕ)) (p : ℕ) → is_some (live_birth xs p) ≡ true → any_live xs ≡ true
birth_any [] p e = e
birth_any (x ∷ xs) p e =
    ⊎_elim
    (λ here. or_left x.live _ (and_parts x.live _ here).0)
    (λ rest. or_right x.live _ (birth_any xs p rest))
    (or_cases (is_live x p) (is_some (live_birth xs p)) (sym (some_cond (is_live x p) _ _) ∙ e))

-- some birth lives exactly if some process has a live birth
pub any_decides : (xs : List (Birth ℕ)) → Decides (any_live xs) ((p : ℕ) × (is_some (live_birth xs p) ≡ true))
any_decides xs = (any_birth xs, λ h. birth_any xs h.0 h.1)
