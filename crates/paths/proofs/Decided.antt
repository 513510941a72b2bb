-- The tests of the form decide its facts.
use Rattle.std.proofs.Common.{◌≡◌, ℕ, zero, suc, ◌<◌, ◌≤◌, Bool, true, false, eqb, List, [], ◌∷◌, length, get_or, Decides, refl, ◌∙◌, ⊎_elim, add-one, arith}
use Rattle.std.specs.List.{Contains}
use Rattle.std.proofs.lemmas.List.Elements.{Decides-contains}
use Rattle.std.proofs.lemmas.List.{get_or_default}
use Rattle.std.proofs.lemmas.Bool.{both_ways, false≢true, not-true, or_cases, or_right}
use Rattle.std.proofs.lemmas.Bool.Decides.{Decides-by_or, Decides-eqb, Decides-at, Decides-not, nat_tests}
use Rattle.paths.specs.Forms.{slash, has, doubled, wellformed, WellFormed}

has_decides : (x : ℕ) (bs : List ℕ) → Decides (has x bs) (Contains bs x)
has_decides x bs = Decides-contains bs x (has x bs) (Decides-by_or (λ b. eqb b x) (λ b. b ≡ x) (has x) (λ b. Decides-eqb b x) refl (λ _ _. refl) bs)

-- whether a byte stands somewhere, by index
pub has_at : (x : ℕ) (bs : List ℕ) (k : ℕ) → k < length bs → get_or bs k 0 ≡ x → has x bs ≡ true
has_at x bs k l e = (has_decides x bs).1 (k, l, get_or_default bs k x 0 l ∙ e)

pub lacks_at : (x : ℕ) (bs : List ℕ) → has x bs ≡ false → (k : ℕ) → k < length bs → get_or bs k 0 ≡ x → ⊥
lacks_at x bs n k l e = both_ways (has x bs) n (has_at x bs k l e)

pub lacks : (x : ℕ) (bs : List ℕ) → ((k : ℕ) → k < length bs → get_or bs k 0 ≡ x → ⊥) → has x bs ≡ false
lacks x bs none = not-true (has x bs) ((Decides-not (has x bs) (has_decides x bs)).1 (λ m. none m.0 m.1 (get_or_default bs m.0 0 x m.1 ∙ m.2)))

begins : (bs : List ℕ) → get_or bs 0 0 ≡ slash → 1 ≤ length bs
begins [] e = omega arith
begins (x ∷ bs) e = omega arith

-- somewhere two slashes stand side by side
abbrev pub Double : List ℕ → Type 0
Double bs = (k : ℕ) × (suc k < length bs) × (get_or bs k 0 ≡ slash) × (get_or bs (suc k) 0 ≡ slash)

double_at : (bs : List ℕ) → doubled bs ≡ true → Double bs
double_at [] e = absurd (false≢true e)
double_at (x ∷ bs) e =
    ⊎_elim
    (λ here. let second : get_or bs 0 0 ≡ slash = grind (arith, nat_tests) in (0, omega (arith, begins bs second), grind (arith, nat_tests), second))
    (λ there. let h = double_at bs there in (suc h.0, omega (arith, h.1), h.2, h.3))
    (or_cases _ (doubled bs) e)

at_double : (bs : List ℕ) (k : ℕ) → get_or bs k 0 ≡ slash → get_or bs (suc k) 0 ≡ slash → doubled bs ≡ true
at_double [] k a b = absurd (omega arith)
at_double (x ∷ bs) zero a b = grind (arith, nat_tests)
at_double (x ∷ bs) (suc k) a b = or_right _ (doubled bs) (at_double bs k a b)

pub doubled_decides : (bs : List ℕ) → Decides (doubled bs) (Double bs)
doubled_decides bs = (double_at bs, λ h. at_double bs h.0 h.2 h.3)

pub sound : (bs : List ℕ) → wellformed bs ≡ true → WellFormed bs
sound bs h =
    let d : doubled bs ≡ false = grind (arith, nat_tests) in
    record {
      some = begins bs (grind (arith, nat_tests));
      short = grind (arith, nat_tests);
      absolute = grind (arith, nat_tests);
      no_zero = lacks_at 0 bs (grind (arith, nat_tests));
      no_double = λ k l a b. both_ways (doubled bs) d ((doubled_decides bs).1 (k, omega arith, a, rw add-one at b));
      no_trailing = λ l e. grind (arith, nat_tests);
    }

pub complete : (bs : List ℕ) → WellFormed bs → wellformed bs ≡ true
complete bs h =
    let z : has 0 bs ≡ false = lacks 0 bs h.no_zero in
    let d = not-true (doubled bs) ((Decides-not (doubled bs) (doubled_decides bs)).1 (λ t. h.no_double t.0 (omega (arith, t.1)) t.2 (rw add-one t.3))) in
    grind (arith, nat_tests)

pub form_decides : (bs : List ℕ) (r : Bool) → r ≡ wellformed bs → Decides r (WellFormed bs)
form_decides bs r e = Decides-at r (wellformed bs) e (sound bs, complete bs)
