-- The bits of a row: of none, of two rows joined, and of a row with one bit.
use Rattle.std.proofs.Common.{◌≡◌, ℕ, zero, suc, ◌+◌, ◌-◌, ◌/◌, ◌%◌, ◌^◌, ◌<◌, false, ◌||◌, eqb, sym, refl, ap, ◌∙◌, ⊎_elim, mod-lt, pow-suc, arith, pow_pos, pow-add}
use native.Mathlib.Nat.{zero-div, div_self, div-eq_of_lt, mul-mod_left}
use lib.Bits.{bit_or, or_shr, or_mod}
use lib.Pow.{pow-lt, shl-shr}
use Rattle.std.proofs.lemmas.Bool.{cases_order, eq-eqb, ne_eqb}
use Rattle.order.specs.Bits.{bit}

pub bit_none : (i : ℕ) → bit 0 i ≡ false
bit_none i = ap (λ n. eqb (n % 2) 1) (zero-div (2 ^ i))

one_bit : (u v : ℕ) → u < 2 → v < 2 → eqb (bit_or u v) 1 ≡ (eqb u 1 || eqb v 1)
one_bit zero zero h k = refl
one_bit zero (suc zero) h k = refl
one_bit (suc zero) zero h k = refl
one_bit (suc zero) (suc zero) h k = refl
one_bit zero (suc (suc v)) h k = absurd (omega arith)
one_bit (suc zero) (suc (suc v)) h k = absurd (omega arith)
one_bit (suc (suc u)) v h k = absurd (omega arith)

pub bit-bit_or : (a b i : ℕ) → bit (bit_or a b) i ≡ (bit a i || bit b i)
bit-bit_or a b i =
    ap (λ n. eqb n 1) (ap (λ n. n % 2) (or_shr a b i) ∙ or_mod (a / 2 ^ i) (b / 2 ^ i) 1)
    ∙ one_bit (a / 2 ^ i % 2) (b / 2 ^ i % 2) (mod-lt _ (omega arith)) (mod-lt _ (omega arith))

pub bit_power : (k i : ℕ) → bit (2 ^ k) i ≡ eqb k i
bit_power k i =
    ⊎_elim
    (λ e. ap (λ n. bit (2 ^ n) i) e ∙ ap (λ n. eqb (n % 2) 1) (div_self (pow_pos i)) ∙ sym (eq-eqb k i e))
    (⊎_elim
    (λ lt. ap (λ n. eqb (n % 2) 1) (div-eq_of_lt (pow-lt lt)) ∙ sym (ne_eqb k i (λ e. omega arith)))
    (λ gt. ap (λ n. eqb (n % 2) 1) (above gt) ∙ ap (λ n. eqb n 1) (even gt) ∙ sym (ne_eqb k i (λ e. omega arith))))
    (cases_order k i)
  where
    above : i < k → 2 ^ k / 2 ^ i ≡ 2 ^ (k - i)
    above gt = let sum : k ≡ k - i + i = omega arith in ap (λ n. n / 2 ^ i) (ap (λ n. 2 ^ n) sum ∙ pow-add 2 (k - i) i) ∙ shl-shr (2 ^ (k - i)) i

    even : i < k → 2 ^ (k - i) % 2 ≡ 0
    even gt =
        let step : k - i ≡ suc (k - i - 1) = omega arith in
        ap (λ n. n % 2) (ap (λ n. 2 ^ n) step ∙ pow-suc 2 (k - i - 1)) ∙ mul-mod_left (2 ^ (k - i - 1)) 2
