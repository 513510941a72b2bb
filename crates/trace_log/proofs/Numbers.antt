-- Numbers and their bytes.
use Rattle.std.proofs.Common.{◌≡◌, ℕ, zero, suc, ◌+◌, ◌-◌, ◌*◌, ◌/◌, ◌%◌, ◌^◌, ◌<◌, ◌≤◌, List, [], ◌∷◌, ◌++◌, length, get_or, take, drop, sym, refl, ap, ◌∙◌, subst, pow-suc, arith, w8, Fits}
use Rattle.std.specs.Int.Digits.{number_from_digits}
use Rattle.std.specs.Int.{w64, to_be_bytes}
use Rattle.std.proofs.Math.Nat.{div-div-eq-div-mul}
use Rattle.std.specs.List.{flat_map, AllByRecursion}
use Rattle.std.proofs.lemmas.Int.Digits.{number_push}
use Rattle.std.proofs.lemmas.List.{take_all}
use Rattle.std.proofs.lemmas.Nat.{div-add-mod', div_below}
use Rattle.trace_log.specs.Format.{big}
use Rattle.trace_log.specs.Decode.{pairs}

-- the bytes of a number that fits them say that number
pub number_big : (k n : ℕ) → n < 256 ^ k → number_from_digits 256 (big k n) ≡ n
number_big zero n h = omega arith
number_big (suc k) n h =
    let front = number_big k (n / 256) (div_below n 256 (256 ^ k) (omega arith) (subst (λ m. n < m) (pow-suc 256 k) h)) in
    number_push 256 (big k (n / 256)) (n % 256) ∙ ap (λ m. m * 256 + n % 256) front ∙ div-add-mod' n 256

-- the first two bytes are those of the number that they say
pub two_bytes : (bs : List ℕ) (n : ℕ) → 2 ≤ length bs → ((i : ℕ) → Fits w8 (get_or bs i 0)) → n ≡ get_or bs 0 0 * 256 + get_or bs 1 0 → bs ≡ big 2 n ++ take (length bs - 2) (drop 2 bs)
two_bytes [] n long fits e = absurd (omega arith)
two_bytes (a ∷ []) n long fits e = absurd (omega arith)
two_bytes (a ∷ b ∷ bs) n long fits e =
    let x = (fits 0).fits in
    let y = (fits 1).fits in
    let high : a ≡ n / 256 % 256 = omega arith in
    let low : b ≡ n % 256 = omega arith in
    let rest : bs ≡ take (length (a ∷ b ∷ bs) - 2) bs = sym (take_all (length (a ∷ b ∷ bs) - 2) bs (omega arith)) in
    λ i. high i ∷ low i ∷ rest i

-- the bytes of a number of eight, in the library's words
pub big_8 : (n : ℕ) → big 8 n ≡ to_be_bytes w64 n
big_8 n = simp div-div-eq-div-mul

-- the bytes of 16-bit numbers, two and two, say those numbers
pub pairs_joined : (ts : List ℕ) → AllByRecursion (λ t. t < 2 ^ 16) ts → pairs (flat_map (big 2) ts) ≡ ts
pairs_joined [] small = refl
pairs_joined (t ∷ ts) small =
    let h = small.0 in
    let same : (t / 256 % 256) * 256 + t % 256 ≡ t = omega arith in
    λ i. same i ∷ pairs_joined ts small.1 i

pub length_joined : (ts : List ℕ) → length (flat_map (big 2) ts) ≡ 2 * length ts
length_joined [] = refl
length_joined (t ∷ ts) = omega (arith, length_joined ts)
