-- Lines put together piece by piece.
use Rattle.std.proofs.Common.{◌≡◌, ℕ, zero, suc, ◌+◌, ◌*◌, ◌/◌, ◌%◌, ◌<◌, ◌≤◌, ◌⊎◌, inl, inr, ⊎_elim, Bool, cond, nat_lt, ◌||◌, ◌==◌, true, false, List, [], ◌∷◌, ◌++◌, length, take, drop, get_or, decimal, refl, sym, ap, ◌∙◌, subst, append_assoc, append-nil, zero-mul, suc-mul, arith}
use Rattle.std.specs.Simd.{first_chunks}
use Rattle.std.specs.Str.{IsAscii, IsUtf8}
use Rattle.std.proofs.lemmas.List.{take_more, take_all, take-append-drop, drop-drop, length-append}
use Rattle.std.proofs.lemmas.List.Concat.{flat_map-append}
use Rattle.std.proofs.lemmas.Str.{IsAscii-append, IsUtf8-from_ascii}
use Rattle.std.proofs.lemmas.Str.Ascii.{IsAscii-cons, IsAscii-nil}
use Rattle.std.specs.List.{flat_map}
use Rattle.std.proofs.lemmas.Bool.Decides.{nat_tests}
use Rattle.log_list.specs.Lines.{fields, hex, shown_byte, shown_path}

-- numbers, each after a space
pub fields_joined : (ns : List ℕ) → flat_map (λ n. 32 ∷ decimal n) ns ≡ fields ns
fields_joined [] = refl
fields_joined (n ∷ []) = ap (λ l. 32 ∷ l) (append-nil (decimal n))
fields_joined (n ∷ m ∷ ns) = ap (λ l. 32 ∷ (decimal n ++ l)) (fields_joined (m ∷ ns))

-- what is shown of the first i bytes of a path
pub record Shown (bs : List ℕ) (i : ℕ) (xs : List ℕ) : Type 0 where
  pub same : xs ≡ flat_map shown_byte (take i bs)
  pub few : length xs ≤ 4 * i
  pub ascii : IsAscii xs

hex_ascii : (d : ℕ) → d < 16 → hex d < 128
hex_ascii d h = grind (arith, nat_tests)

-- what is shown of a byte, in its two ways
shown_is : (b : ℕ) (t : Bool) → (nat_lt b 33 || (nat_lt 126 b || b == 92)) ≡ t → let bs = 92 ∷ 120 ∷ hex (b / 16) ∷ hex (b % 16) ∷ [] in (cond t bs (b ∷ []) ≡ bs) ⊎ ((cond t bs (b ∷ []) ≡ b ∷ []) × (b < 128))
shown_is b true e = inl refl
shown_is b false e = inr (refl, grind (arith, nat_tests))

-- it is short, and ASCII
shown_ascii : (b : ℕ) → b < 256 → IsAscii (shown_byte b) × (length (shown_byte b) ≤ 4)
shown_ascii b h =
    let hi = hex (b / 16) in
    let lo = hex (b % 16) in
    let low : IsAscii (lo ∷ []) = IsAscii-cons lo [] (hex_ascii (b % 16) (omega arith)) IsAscii-nil in
    let both : IsAscii (hi ∷ lo ∷ []) = IsAscii-cons hi (lo ∷ []) (hex_ascii (b / 16) (omega arith)) low in
    let all = IsAscii-cons 92 (120 ∷ hi ∷ lo ∷ []) (omega arith) (IsAscii-cons 120 (hi ∷ lo ∷ []) (omega arith) both) in
    ⊎_elim
    (λ e. (subst IsAscii (sym e) all, omega (arith, ap length e)))
    (λ e. (subst IsAscii (sym e.0) (IsAscii-cons b [] e.1 IsAscii-nil), omega (arith, ap length e.0)))
    (shown_is b _ refl)

-- one byte more
pub shown_more : (bs : List ℕ) (i : ℕ) (xs zs : List ℕ) → i < length bs → get_or bs i 0 < 256 → Shown bs i xs → zs ≡ xs ++ shown_byte (get_or bs i 0) → Shown bs (i + 1) zs
shown_more bs i xs zs h byte s both =
    let ys = shown_byte (get_or bs i 0) in
    let is = shown_ascii (get_or bs i 0) byte in
    record {
      same = both ∙ (λ j. s.same j ++ sym (append-nil ys) j) ∙ sym (flat_map-append shown_byte (take i bs) (get_or bs i 0 ∷ [])) ∙ ap (flat_map shown_byte) (sym (take_more bs i 0 h));
      few = omega (arith, s.few, is.1, ap length both, length-append xs ys);
      ascii = subst IsAscii (sym both) (IsAscii-append xs ys s.ascii is.0);
    }

-- a path in parts
pub parts_shown : (n k : ℕ) (bs : List ℕ) → flat_map (flat_map shown_byte) (first_chunks n k bs) ++ flat_map shown_byte (drop (k * n) bs) ≡ flat_map shown_byte bs
parts_shown n zero bs = ap (λ m. flat_map shown_byte (drop m bs)) (zero-mul n)
parts_shown n (suc k) bs =
    let others = flat_map (flat_map shown_byte) (first_chunks n k (drop n bs)) in
    append_assoc (flat_map shown_byte (take n bs)) others (flat_map shown_byte (drop (suc k * n) bs))
    ∙ ap (λ l. flat_map shown_byte (take n bs) ++ l) (ap (λ l. others ++ flat_map shown_byte l) (sym (drop-drop (k * n) n bs ∙ ap (λ m. drop m bs) (omega (arith, suc-mul k n)))) ∙ parts_shown n k (drop n bs))
    ∙ sym (flat_map-append shown_byte (take n bs) (drop n bs)) ∙ ap (flat_map shown_byte) (take-append-drop n bs)

-- all the parts of a path
pub parts_all : (bs : List ℕ) (ps : List (List ℕ)) (rest : List ℕ) (i k : ℕ) → ps ≡ first_chunks 64 k bs → rest ≡ drop (k * 64) bs → length ps ≤ i → (32 ∷ flat_map (flat_map shown_byte) (take i ps)) ++ flat_map shown_byte rest ≡ shown_path bs
parts_all bs ps rest i k are left all = ap (λ l. 32 ∷ l) ((λ j. flat_map (flat_map shown_byte) ((take_all i ps all ∙ are) j) ++ flat_map shown_byte (left j)) ∙ parts_shown 64 k bs)

-- ASCII bytes are a text: the library's lemma, under a name that an attribute can cite
pub ascii_text : (bs : List ℕ) → IsAscii bs → IsUtf8 bs
ascii_text = IsUtf8-from_ascii
