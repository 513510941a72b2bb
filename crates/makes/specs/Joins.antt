-- Rows joined to a row, one after the other: the words, and the bits.
use Rattle.std.specs.Prelude.{◌≡◌, ℕ, ◌+◌, ◌/◌, ◌%◌, ◌^◌, ◌<◌, Bool, true, false, ◌||◌, List, [], ◌∷◌, ◌++◌, map, length, take, replicate, fold, ◌==◌, slice_index, slice_set, refl}
use Rattle.std.proofs.Common.{⊎_elim, sym, ap, subst, ◌∙◌, arith}
use Rattle.std.proofs.ByRecursion.{All-weaker}
use Rattle.std.specs.Int.Bits.{bit_or}
use Rattle.std.proofs.lemmas.List.FromFn.{get_or-map-range_with_len}
use Rattle.std.proofs.lemmas.List.{length-set, length_push, map_more, get_or-set_same, get_or-set_other, get_or-replicate, get_or_append_left, get_or_push}
use Rattle.std.proofs.lemmas.List.Sums.{fold_push}
use Rattle.std.proofs.lemmas.Bool.{false≢true, eqb-true, eq-eqb, ne_eqb, cases_eq, cases_order, or_cases, or_left, or_right}
use Rattle.std.specs.List.{AllByRecursion}
use Rattle.order.proofs.Bits.{bit_none, bit-bit_or, bit_power}
use Rattle.order.specs.Bits.{bit}
use Rattle.makes.specs.Rows.{words, has_bit, needs, with_row, with_bit, joined, joined_row}
use Rattle.makes.specs.Sound.{SoundRows}

length_joined : (rows : List (List ℕ)) (row : List ℕ) (u : ℕ) → length (joined rows row u) ≡ 8
length_joined rows row u = length-set (with_row row (words rows u)) (u / 64) _

module _ (rows : List (List ℕ)) (f : ℕ → ℕ) (ks : List ℕ) (i : ℕ) (row : List ℕ) (so_far : row ≡ joined_row rows (map f (take i ks))) where
  pub joined_more : (u : ℕ) → i < length ks → u ≡ f (slice_index ks i) → joined rows row u ≡ joined_row rows (map f (take (i + 1) ks))
  joined_more u within is =
      (λ j. joined rows (so_far j) (is j))
      ∙ sym (ap (joined_row rows) (map_more f ks i 0 within) ∙ fold_push (joined rows) (replicate 8 0) (map f (take i ks)) (f (slice_index ks i)))

-- The bits of one row.
module _ (row more : List ℕ) (v : ℕ) (small : v < 512) where
  bit_with_row : has_bit (with_row row more) v ≡ (has_bit row v || has_bit more v)
  bit_with_row =
      ap (λ n. bit n (v % 64)) (get_or-map-range_with_len (λ i. bit_or (slice_index row i) (slice_index more i)) 0 8 (v / 64) (v / 64) 0 (omega arith) (omega arith))
      ∙ bit-bit_or (slice_index row (v / 64)) (slice_index more (v / 64)) (v % 64)

same_bit : (u v : ℕ) → u / 64 ≡ v / 64 → (u % 64 == v % 64) ≡ (u == v)
same_bit u v e =
    ⊎_elim
    (λ same. eq-eqb (u % 64) (v % 64) (ap (λ n. n % 64) same) ∙ sym (eq-eqb u v same))
    (λ other. ne_eqb (u % 64) (v % 64) (λ f. other (omega arith)) ∙ sym (ne_eqb u v other))
    (cases_eq u v)

or_none : (b : Bool) → (b || false) ≡ b
or_none true = refl
or_none false = refl

module _ (row : List ℕ) (u v : ℕ) (whole : length row ≡ 8) (small : u < 512) where
  bit_with_bit : has_bit (with_bit row u) v ≡ (has_bit row v || u == v)
  bit_with_bit =
      let new = bit_or (slice_index row (u / 64)) (2 ^ (u % 64)) in
      ⊎_elim
      (λ e.
      ap (λ n. bit (slice_index (slice_set row (u / 64) new) n) (v % 64)) (sym e)
      ∙ ap (λ n. bit n (v % 64)) (get_or-set_same row (u / 64) new 0 (omega arith))
      ∙ bit-bit_or (slice_index row (u / 64)) (2 ^ (u % 64)) (v % 64)
      ∙ (λ i. bit (slice_index row (e i)) (v % 64) || (bit_power (u % 64) (v % 64) ∙ same_bit u v e) i))
      (λ other.
      ap (λ n. bit n (v % 64)) (get_or-set_other row (u / 64) (v / 64) new 0 (λ f. other (sym f)))
      ∙ sym (ap (λ b. has_bit row v || b) (ne_eqb u v (λ f. other (ap (λ n. n / 64) f))) ∙ or_none (has_bit row v)))
      (cases_eq (u / 64) (v / 64))

bit_joined : (rows : List (List ℕ)) (row : List ℕ) (u v : ℕ) → u < 512 → v < 512 → has_bit (joined rows row u) v ≡ ((has_bit row v || needs rows u v) || u == v)
bit_joined rows row u v hu hv = bit_with_bit (with_row row (words rows u)) u v refl hu ∙ ap (λ b. b || u == v) (bit_with_row row (words rows u) v hv)

-- whether one of the targets is v or needs it
abbrev pub reaches : List (List ℕ) → List ℕ → ℕ → Bool
reaches rows [] v = false
reaches rows (u ∷ us) v = (needs rows u v || u == v) || reaches rows us v

or_regroup : (a b c d : Bool) → (((a || b) || c) || d) ≡ (a || ((b || c) || d))
or_regroup true b c d = refl
or_regroup false b c d = refl

bits_folded : (rows : List (List ℕ)) (us row : List ℕ) (v : ℕ) → AllByRecursion (λ u. u < 512) us → v < 512 → has_bit (fold (joined rows) row us) v ≡ (has_bit row v || reaches rows us v)
bits_folded rows [] row v small hv = sym (or_none (has_bit row v))
bits_folded rows (u ∷ us) row v small hv =
    bits_folded rows us (joined rows row u) v small.1 hv
    ∙ ap (λ b. b || reaches rows us v) (bit_joined rows row u v small.0 hv)
    ∙ or_regroup (has_bit row v) (needs rows u v) (u == v) (reaches rows us v)

length_folded : (rows : List (List ℕ)) (us row : List ℕ) → length row ≡ 8 → length (fold (joined rows) row us) ≡ 8
length_folded rows [] row e = e
length_folded rows (u ∷ us) row e = length_folded rows us (joined rows row u) (length_joined rows row u)

length_joined_row : (rows : List (List ℕ)) (us : List ℕ) → length (joined_row rows us) ≡ 8
length_joined_row rows us = length_folded rows us (replicate 8 0) refl

bit_joined_row : (rows : List (List ℕ)) (us : List ℕ) (v : ℕ) → AllByRecursion (λ u. u < 512) us → v < 512 → has_bit (joined_row rows us) v ≡ reaches rows us v
bit_joined_row rows us v small hv =
    bits_folded rows us (replicate 8 0) v small hv
    ∙ ap (λ n. bit n (v % 64) || reaches rows us v) (get_or-replicate 8 (v / 64) 0 0 (omega arith))
    ∙ ap (λ b. b || reaches rows us v) (bit_none (v % 64))

-- The table with one row more.
module _ (rows : List (List ℕ)) (us : List ℕ) where
  words_old : (t : ℕ) → t < length rows → words (rows ++ joined_row rows us ∷ []) t ≡ words rows t
  words_old t h = get_or_append_left rows (joined_row rows us ∷ []) [] t h

  words_new : words (rows ++ joined_row rows us ∷ []) (length rows) ≡ joined_row rows us
  words_new = get_or_push rows (joined_row rows us) [] (length rows) refl

  pub needs_old : (t v : ℕ) → t < length rows → needs (rows ++ joined_row rows us ∷ []) t v ≡ needs rows t v
  needs_old t v h = ap (λ row. has_bit row v) (words_old t h)

  pub needs_new : (v : ℕ) → AllByRecursion (λ u. u < 512) us → v < 512 → needs (rows ++ joined_row rows us ∷ []) (length rows) v ≡ reaches rows us v
  needs_new v few small = ap (λ row. has_bit row v) words_new ∙ bit_joined_row rows us v few small

-- what is reached lies below
reached_lower : (rows : List (List ℕ)) (us : List ℕ) (n v : ℕ) → AllByRecursion (λ u. (u < n) × (needs rows u v ≡ true → v < u)) us → reaches rows us v ≡ true → v < n
reached_lower rows [] n v each e = absurd (false≢true e)
reached_lower rows (u ∷ us) n v each e =
    ⊎_elim
    (λ here. ⊎_elim (λ needed. let a = each.0.0 in let b = each.0.1 needed in omega arith) (λ same. let a = each.0.0 in let b = eqb-true u v same in omega arith) (or_cases (needs rows u v) _ here))
    (reached_lower rows us n v each.1)
    (or_cases (needs rows u v || u == v) _ e)

-- what is reached passes on what it needs
reached_chained : (rows : List (List ℕ)) (us : List ℕ) (v w : ℕ) → AllByRecursion (λ u. needs rows u v ≡ true → needs rows u w ≡ true) us → reaches rows us v ≡ true → needs rows v w ≡ true → reaches rows us w ≡ true
reached_chained rows [] v w each e d = absurd (false≢true e)
reached_chained rows (u ∷ us) v w each e d =
    ⊎_elim
    (λ here. or_left _ _ (or_left _ _ (⊎_elim each.0 (λ same. subst (λ x. needs rows x w ≡ true) (sym (eqb-true u v same)) d) (or_cases (needs rows u v) _ here))))
    (λ rest. or_right (needs rows u w || u == w) _ (reached_chained rows us v w each.1 rest d))
    (or_cases (needs rows u v || u == v) _ e)

-- One target more, with earlier ones as prerequisites.
pub rows_more : (rows : List (List ℕ)) (us : List ℕ) → length rows < 512 → SoundRows rows → AllByRecursion (λ u. u < length rows) us → SoundRows (rows ++ joined_row rows us ∷ [])
rows_more rows us few sound below =
    let small = All-weaker (λ u. u < length rows) (λ u. u < 512) (λ u h. omega arith) us below in
    let old = needs_old rows us in
    let new : (v : ℕ) → v < 512 → needs (rows ++ joined_row rows us ∷ []) (length rows) v ≡ reaches rows us v = λ v h. needs_new rows us v small h in
    let lower_new : (v : ℕ) → v < 512 → reaches rows us v ≡ true → v < length rows = λ v h e.
    reached_lower rows us (length rows) v (All-weaker (λ u. u < length rows) (λ u. (u < length rows) × (needs rows u v ≡ true → v < u)) (λ u l. (l, sound.lower u v l h)) us below) e in
    let long = length_push rows (joined_row rows us) in
    record {
      whole = λ t ht.
          ⊎_elim
          (λ is. ap length (ap (words (rows ++ joined_row rows us ∷ [])) is ∙ words_new rows us) ∙ length_joined_row rows us)
          (⊎_elim (λ lt. ap length (words_old rows us t lt) ∙ sound.whole t lt) (λ gt. absurd (omega arith)))
          (cases_order t (length rows));
      lower = λ t u ht hu e.
          ⊎_elim
          (λ is. let r = lower_new u hu (sym (new u hu) ∙ ap (λ n. needs (rows ++ joined_row rows us ∷ []) n u) (sym is) ∙ e) in omega arith)
          (⊎_elim (λ lt. sound.lower t u lt hu (sym (old t u lt) ∙ e)) (λ gt. absurd (omega arith)))
          (cases_order t (length rows));
      chained = λ t u v ht hu hv e d.
          ⊎_elim
          (λ is.
          let r = sym (new u hu) ∙ ap (λ n. needs (rows ++ joined_row rows us ∷ []) n u) (sym is) ∙ e in
          let lt = lower_new u hu r in
          ap (λ n. needs (rows ++ joined_row rows us ∷ []) n v) is ∙ new v hv
          ∙ reached_chained rows us u v (All-weaker (λ w. w < length rows) (λ w. needs rows w u ≡ true → needs rows w v ≡ true) (λ w l k. sound.chained w u v l hu hv k (sym (old u v lt) ∙ d)) us below) r
          (sym (old u v lt) ∙ d))
          (⊎_elim
          (λ lt.
          let first = sym (old t u lt) ∙ e in
          let ul = sound.lower t u lt hu first in
          let below_u : u < length rows = omega arith in
          old t v lt ∙ sound.chained t u v lt hu hv first (sym (old u v below_u) ∙ d))
          (λ gt. absurd (omega arith)))
          (cases_order t (length rows));
    }
