-- The test for a chain decides the relation.
use Rattle.std.specs.Prelude.{◌≡◌, ℕ, zero, suc, ◌-◌, ◌^◌, ◌<◌, ◌≤◌, Bool, true, false, cond, ◌&&◌, ◌||◌, ◌⊎◌, List, [], ◌∷◌, reverse, length, Decides, ◌==◌, slice_index_or, refl}
use Rattle.std.proofs.Common.{inl, inr, ⊎_elim, sym, ap, subst, ◌∙◌, arith}
use Rattle.std.specs.Int.Bits.{bit_or}
use Rattle.std.proofs.lemmas.List.{get_or-reverse, length-reverse, reverse-reverse}
use Rattle.std.proofs.lemmas.Bool.{false≢true, eqb-true, eq-eqb, ne_eqb, and_from, and_parts, or_cases, or_left, or_right}
use Rattle.std.proofs.lemmas.Bool.Decides.{Decides-or, Decides-at}
use Rattle.std.specs.List.{ContainsAt as Has, AllByRecursion}
use Rattle.order.proofs.Bits.{bit_none, bit-bit_or, bit_power}
use Rattle.order.specs.declared.Timestamp.{Timestamp}
use Rattle.order.specs.Bits.{bit}
use Rattle.order.specs.Meaning.{Meaning, Lawful}
use Rattle.flags.specs.declared.pair.Pair.{Pair}
use Rattle.flags.specs.Chains.{same, leads, row, leads_on, through}
use Rattle.flags.specs.Machine.{SoundPairs, flag_before}
use Rattle.flags.specs.Relation.{Leads, Through, last, next, FlagBefore}

-- a pair with its count from the oldest on, in pairs newest first
data At : List Pair → ℕ → Pair → Type 0 where
  here : {y : Pair} {ys : List Pair} → At (y ∷ ys) (length ys) y
  there : {y z : Pair} {ys : List Pair} {i : ℕ} → At ys i z → At (y ∷ ys) i z

at_below : {ys : List Pair} {i : ℕ} {z : Pair} → At ys i z → i < length ys
at_below here = omega arith
at_below (there at) = let h = at_below at in omega arith

-- a bit of a row to which one bit may have been added
bit_joined : (o : Bool) (n k i : ℕ) → bit (cond o (bit_or n (2 ^ k)) n) i ≡ (bit n i || (o && k == i))
bit_joined true n k i = bit-bit_or n (2 ^ k) i ∙ ap (λ b. bit n i || b) (bit_power k i)
bit_joined false n k i = go (bit n i)
  where
    go : (b : Bool) → b ≡ (b || false)
    go true = refl
    go false = refl

only_new : (b o e : Bool) → b ≡ false → e ≡ true → (b || (o && e)) ≡ o
only_new b o e p q = grind arith

only_old : (b o e : Bool) → e ≡ false → (b || (o && e)) ≡ b
only_old b o e q = grind arith

-- the row has exactly the pairs that lead to the post
row_high : (x : Meaning) (post : Timestamp) (ys : List Pair) (i : ℕ) → length ys ≤ i → bit (row x post ys) i ≡ false
row_high x post [] i h = bit_none i
row_high x post (y ∷ ys) i h =
    bit_joined (leads x y.wait post) (row x post ys) (length ys) i
    ∙ only_old (bit (row x post ys) i) _ _ (ne_eqb (length ys) i (λ e. omega arith)) ∙ row_high x post ys i (omega arith)

row_at : (x : Meaning) (post : Timestamp) {ys : List Pair} {i : ℕ} {z : Pair} → At ys i z → bit (row x post ys) i ≡ leads x z.wait post
row_at x post (here {y} {ys}) =
    bit_joined (leads x y.wait post) (row x post ys) (length ys) (length ys)
    ∙ only_new (bit (row x post ys) (length ys)) _ _ (row_high x post ys (length ys) (omega arith)) (eq-eqb (length ys) (length ys) refl)
row_at x post (there {y} {z} {ys} {i} at) =
    let below = at_below at in
    bit_joined (leads x y.wait post) (row x post ys) (length ys) i
    ∙ only_old (bit (row x post ys) i) _ _ (ne_eqb (length ys) i (λ e. omega arith)) ∙ row_at x post at

-- the tests for equal timestamps and for a step of a chain
same_decides : (a b : Timestamp) → Decides (same a b) (a ≡ b)
same_decides a b = (
  λ e.
      let p = and_parts (a.number == b.number) _ e in
      let n = eqb-true _ _ p.0 in
      let q = eqb-true _ _ p.1 in
      λ i. record { number = n i; place = q i },
  λ e. and_from _ _ (eq-eqb a.number b.number (ap (λ k. k.number) e)) (eq-eqb a.place b.place (ap (λ k. k.place) e)),
)

pub leads_decides : (x : Meaning) (a b : Timestamp) → Decides (leads x a b) (Leads x a b)
leads_decides x a b = Decides-or (same a b) (x.before a b) (same_decides a b) (λ e. e, λ e. e)

-- A chain in pairs newest first that ends in a pair which leads to b or is wanted.
data Chain (x : Meaning) (b : Timestamp) (ys : List Pair) (wanted : ℕ) : Timestamp → Type 0 where
  end : {a : Timestamp} {i : ℕ} {y : Pair} → At ys i y → (bit wanted i || leads x y.wait b) ≡ true → Leads x a y.post → Chain x b ys wanted a
  more : {a : Timestamp} {i : ℕ} {y : Pair} → At ys i y → Leads x a y.post → Chain x b ys wanted y.wait → Chain x b ys wanted a

-- one pair more, which does not lead on to b
widened : (x : Meaning) (b : Timestamp) {ys : List Pair} (y : Pair) {wanted : ℕ} {a : Timestamp} → Chain x b ys wanted a → Chain x b (y ∷ ys) wanted a
widened x b y (end at h l) = end (there at) h l
widened x b y (more at l c) = more (there at) l (widened x b y c)

-- one pair more, which leads on to b
joined : (x : Meaning) (b : Timestamp) {ys : List Pair} (y : Pair) (wanted : ℕ) → y.earlier ≡ row x y.post ys → leads_on x b wanted y ys ≡ true
    → {a : Timestamp} → Chain x b ys (bit_or wanted y.earlier) a → Chain x b (y ∷ ys) wanted a
joined x b y wanted right on (end {i = i} {y = z} at h l) =
    ⊎_elim
    (λ e. ⊎_elim
    (λ w. end (there at) (or_left _ _ w) l)
    (λ w. more (there at) l (end here on ((leads_decides x z.wait y.post).0 (sym (row_at x y.post at) ∙ ap (λ n. bit n i) (sym right) ∙ w))))
    (or_cases (bit wanted i) (bit y.earlier i) (sym (bit-bit_or wanted y.earlier i) ∙ e)))
    (λ e. end (there at) (or_right (bit wanted i) _ e) l)
    (or_cases (bit (bit_or wanted y.earlier) i) _ h)
joined x b y wanted right on (more at l c) = more (there at) l (joined x b y wanted right on c)

-- what is wanted after a pair, by whether it leads on to b
abbrev wanted_after : Meaning → Timestamp → ℕ → Pair → List Pair → ℕ
wanted_after x b wanted y ys = cond (leads_on x b wanted y ys) (bit_or wanted y.earlier) wanted

raised : (x : Meaning) (b : Timestamp) (ys : List Pair) (y : Pair) (wanted : ℕ) {a : Timestamp} → y.earlier ≡ row x y.post ys
    → (o : Bool) → leads_on x b wanted y ys ≡ o → Chain x b ys (cond o (bit_or wanted y.earlier) wanted) a → Chain x b (y ∷ ys) wanted a
raised x b ys y wanted right true on c = joined x b y wanted right on c
raised x b ys y wanted right false on c = widened x b y c

chain_from_test : (x : Meaning) (b : Timestamp) (ys : List Pair) → SoundPairs x ys → (wanted : ℕ) (a : Timestamp) → through x a b wanted ys ≡ true → Chain x b ys wanted a
chain_from_test x b [] s wanted a e = absurd (false≢true e)
chain_from_test x b (y ∷ ys) s wanted a e =
    ⊎_elim
    (λ h. let p = and_parts (leads_on x b wanted y ys) _ h in end here p.0 ((leads_decides x a y.post).0 p.1))
    (λ r. raised x b ys y wanted s.0.earlier (leads_on x b wanted y ys) refl (chain_from_test x b ys s.1 (wanted_after x b wanted y ys) a r))
    (or_cases (leads_on x b wanted y ys && leads x a y.post) _ e)

-- numbers rise along a chain
pub leads_number : {x : Meaning} → Lawful x → {a b : Timestamp} → Leads x a b → a.number ≤ b.number
leads_number lawful (inl e) = let n = ap (λ k. k.number) e in omega arith
leads_number lawful {a} {b} (inr e) = let n = lawful.upward a b e in omega arith

at_newest : {ys : List Pair} {i n : ℕ} {z : Pair} → At ys i z → AllByRecursion (λ y. y.wait.number < n) ys → z.wait.number < n
at_newest here h = h.0
at_newest (there at) h = at_newest at h.1

-- what is known of each pair
abbrev pub KeptPair : Meaning → Pair → Type 0
KeptPair x y = (x.known y.post ≡ true) × (x.known y.wait ≡ true) × (y.post.number < y.wait.number)

at_kept : (x : Meaning) {ys : List Pair} {i : ℕ} {z : Pair} → At ys i z → SoundPairs x ys → KeptPair x z
at_kept x here s = (s.0.post_known, s.0.wait_known, s.0.rising)
at_kept x (there at) s = at_kept x at s.1

-- no chain in older pairs starts at a newer await
no_chain_down : (x : Meaning) {b : Timestamp} {ys : List Pair} {wanted : ℕ} {a : Timestamp} → Lawful x → SoundPairs x ys → AllByRecursion (λ y. y.wait.number < a.number) ys → Chain x b ys wanted a → ⊥
no_chain_down x lawful s newest (end at h l) = let p = leads_number lawful l in let q = at_newest at newest in let r = (at_kept x at s).2 in omega arith
no_chain_down x lawful s newest (more at l c) = let p = leads_number lawful l in let q = at_newest at newest in let r = (at_kept x at s).2 in omega arith

wanted_still : (o : Bool) (n w i : ℕ) → bit n i ≡ true → bit (cond o (bit_or n w) n) i ≡ true
wanted_still true n w i e = bit-bit_or n w i ∙ or_left _ _ e
wanted_still false n w i e = e

wanted_new : (o : Bool) (n w i : ℕ) → o ≡ true → bit w i ≡ true → bit (cond o (bit_or n w) n) i ≡ true
wanted_new true n w i h e = bit-bit_or n w i ∙ or_right (bit n i) _ e
wanted_new false n w i h e = absurd (false≢true h)

-- a chain uses the newest pair first and last, or is a chain in the older ones
module _ (x : Meaning) (lawful : Lawful x) (b : Timestamp) (y : Pair) (ys : List Pair) (s : SoundPairs x (y ∷ ys)) (wanted : ℕ) where
  lowered : {a : Timestamp} → Chain x b (y ∷ ys) wanted a
      → ((leads_on x b wanted y ys ≡ true) × (leads x a y.post ≡ true)) ⊎ Chain x b ys (wanted_after x b wanted y ys) a
  lowered {a} (end here h l) = inl (h, (leads_decides x a y.post).1 l)
  lowered (end {i = i} (there at) h l) =
      inr (end at (⊎_elim (λ e. or_left _ _ (wanted_still (leads_on x b wanted y ys) wanted y.earlier i e)) (λ e. or_right _ _ e) (or_cases (bit wanted i) _ h)) l)
  lowered (more here l c) =
      absurd (⊎_elim
      (λ h. let p = leads_number lawful ((leads_decides x y.wait y.post).0 h.1) in let q = s.0.rising in omega arith)
      (no_chain_down x lawful s.1 s.0.newest)
      (lowered c))
  lowered (more {i = i} {y = z} (there at) l c) =
      ⊎_elim
      (λ h. inr (end at (or_left _ _ (wanted_new (leads_on x b wanted y ys) wanted y.earlier i h.0 (ap (λ n. bit n i) s.0.earlier ∙ row_at x y.post at ∙ h.1))) l))
      (λ d. inr (more at l d))
      (lowered c)

not_nil : {x : Meaning} {b : Timestamp} {wanted : ℕ} {a : Timestamp} → Chain x b [] wanted a → ⊥
not_nil (end at h l) = elim at [ ]
not_nil (more at l c) = elim at [ ]

test_from_chain : (x : Meaning) → Lawful x → (b : Timestamp) (ys : List Pair) → SoundPairs x ys → (wanted : ℕ) (a : Timestamp) → Chain x b ys wanted a → through x a b wanted ys ≡ true
test_from_chain x lawful b [] s wanted a c = absurd (not_nil c)
test_from_chain x lawful b (y ∷ ys) s wanted a c =
    ⊎_elim
    (λ h. or_left _ _ (and_from _ _ h.0 h.1))
    (λ d. or_right _ _ (test_from_chain x lawful b ys s.1 (wanted_after x b wanted y ys) a d))
    (lowered x lawful b y ys s wanted c)

-- membership, in either order
has_at : (ys : List Pair) (k : ℕ) (y : Pair) → k < length ys → ((d : Pair) → slice_index_or ys k d ≡ y) → (i : ℕ) × At ys i y
has_at [] k y h at = absurd (omega arith)
has_at (z ∷ zs) zero y h at = (length zs, subst (At (z ∷ zs) (length zs)) (at z) here)
has_at (z ∷ zs) (suc k) y h at = let r = has_at zs k y (omega arith) at in (r.0, there r.1)

at_has : {ys : List Pair} {i : ℕ} {y : Pair} → At ys i y → Has ys y
at_has here = (0, omega arith, λ _. refl)
at_has (there at) = let h = at_has at in (suc h.0, omega arith, h.2)

has_turned : (ys : List Pair) (y : Pair) → Has (reverse ys) y → Has ys y
has_turned ys y h =
    let size = length-reverse ys in
    (length ys - 1 - h.0, omega arith, λ d. sym (get_or-reverse ys h.0 d (omega arith)) ∙ h.2 d)

turned_at : (pairs : List Pair) (y : Pair) → Has pairs y → (i : ℕ) × At (reverse pairs) i y
turned_at pairs y h =
    let r = has_turned (reverse pairs) y (subst (λ ys. Has ys y) (sym (reverse-reverse pairs)) h) in
    has_at (reverse pairs) r.0 y r.1 r.2

pub has_kept : (x : Meaning) (pairs : List Pair) → SoundPairs x (reverse pairs) → (y : Pair) → Has pairs y → KeptPair x y
has_kept x pairs s y h = at_kept x (turned_at pairs y h).1 s

-- A chain in the turned pairs, of which none is wanted at first, is a chain through the pairs.
module _ (x : Meaning) (b : Timestamp) (pairs : List Pair) where
  through_from_chain : {a : Timestamp} → Chain x b (reverse pairs) 0 a → Through x pairs a b
  through_from_chain (end {i = i} {y = y} at h l) =
      ⊎_elim
      (λ e. absurd (false≢true (sym (bit_none i) ∙ e)))
      (λ e. last y (has_turned pairs y (at_has at)) l ((leads_decides x y.wait b).0 e))
      (or_cases (bit 0 i) _ h)
  through_from_chain (more {y = y} at l c) = next y (has_turned pairs y (at_has at)) l (through_from_chain c)

  chain_from_through : {a : Timestamp} → Through x pairs a b → Chain x b (reverse pairs) 0 a
  chain_from_through (last y h l e) = let r = turned_at pairs y h in end r.1 (or_right (bit 0 r.0) _ ((leads_decides x y.wait b).1 e)) l
  chain_from_through (next y h l t) = let r = turned_at pairs y h in more r.1 l (chain_from_through t)

-- the test that is computed decides the relation
pub before_decides : (x : Meaning) → Lawful x → (pairs : List Pair) → SoundPairs x (reverse pairs) → (a b : Timestamp) → Decides (flag_before x pairs a b) (FlagBefore x pairs a b)
before_decides x lawful pairs s a b =
    Decides-or (x.before a b) _ (λ e. e, λ e. e)
    (λ e. through_from_chain x b pairs (chain_from_test x b (reverse pairs) s 0 a e), λ t. test_from_chain x lawful b (reverse pairs) s 0 a (chain_from_through x b pairs t))

-- the same of an answer that is that test's
pub answer_decides : (x : Meaning) → Lawful x → (pairs : List Pair) → SoundPairs x (reverse pairs) → (a b : Timestamp) (r : Bool) → r ≡ flag_before x pairs a b → Decides r (FlagBefore x pairs a b)
answer_decides x lawful pairs s a b r is = Decides-at r (flag_before x pairs a b) is (before_decides x lawful pairs s a b)
