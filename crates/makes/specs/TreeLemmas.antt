-- The tree of places: what holds what, lines, and where two and three places meet.
use Rattle.std.specs.Prelude.{◌≡◌, ℕ, zero, suc, ◌+◌, ◌-◌, ◌<◌, ◌≤◌, Bool, true, false, ◌||◌, ◌⊎◌, List, [], ◌∷◌, length, Decides, ◌==◌, ◌≢◌, nat_lt, refl}
use Rattle.std.proofs.Common.{inl, inr, ⊎_elim, sym, ap, subst, ◌∙◌, add-one, arith}
use Rattle.std.proofs.lemmas.Bool.{false≢true, eqb-true, eqb-false, eq-eqb, ne_eqb, lt-ltb, le-ltb, or_cases, or_left, or_right, cases_eq, cases_order}
use Rattle.makes.specs.declared.climb.Meeting.{Meeting}
use Rattle.makes.specs.Tree.{up, Earlier, Holds, itself, under, Branch, Side, Lowest, Meets, line_in, line, levels, among, holds, climb_in, climb}

-- the second of two ways, where the first is closed
else_is : {X : Type 0} (b : Bool) (x y : X) → b ≡ false → elim b [ true ↦ x | false ↦ y ] ≡ y
else_is true x y e = absurd (false≢true (sym e))
else_is false x y e = refl

then_is : {X : Type 0} (b : Bool) (x y : X) → b ≡ true → elim b [ true ↦ x | false ↦ y ] ≡ x
then_is true x y e = refl
then_is false x y e = absurd (false≢true e)

-- what a line has holds the place
pub holds_from_line : (us : List ℕ) (k x y : ℕ) → among x (line_in us k y) ≡ true → Holds us x y
holds_from_line us zero x y e = absurd (false≢true e)
holds_from_line us (suc k) x y e = ⊎_elim (λ h. subst (Holds us x) (eqb-true x y h) itself) (go (holds_from_line us k x (up us y)) (y == 0) refl) (or_cases (x == y) _ e)
  where
    go : (among x (line_in us k (up us y)) ≡ true → Holds us x (up us y)) → (b : Bool) → (y == 0) ≡ b → among x (elim b [ true ↦ [] | false ↦ line_in us k (up us y) ]) ≡ true → Holds us x y
    go up_from true f h = absurd (false≢true h)
    go up_from false f h = let n = eqb-false y 0 f in under (omega arith) (up_from h)

pub holds_trans : {us : List ℕ} {x y z : ℕ} → Holds us x y → Holds us y z → Holds us x z
holds_trans h itself = h
holds_trans h (under p i) = under p (holds_trans h i)

-- of two places that hold a third one holds the other
pub holds_chain : {us : List ℕ} {x y z : ℕ} → Holds us x z → Holds us y z → Holds us x y ⊎ Holds us y x
holds_chain itself i = inr i
holds_chain (under p h) itself = inl (under p h)
holds_chain (under p h) (under q i) = holds_chain h i

pub holds_split : {us : List ℕ} {x y : ℕ} → Holds us x y → (x ≡ y) ⊎ ((0 < y) × Holds us x (up us y))
holds_split itself = inl refl
holds_split (under p h) = inr (p, h)

-- a place that holds another than itself has a branch to it
pub branch_to : {us : List ℕ} {c z : ℕ} → Holds us c z → (z ≢ c) → (s : ℕ) × Branch us c s z
branch_to itself ne = absurd (ne refl)
branch_to {us} {c} {z} (under p h) ne =
    ⊎_elim
    (λ e. (z, record { below = p; parent = e; holds = itself }))
    (λ other. let b = branch_to h other in (b.0, record { below = b.1.below; parent = b.1.parent; holds = under p b.1.holds }))
    (cases_eq (up us z) c)

module _ (us : List ℕ) (earlier : Earlier us) where
  pub holds_le : {x y : ℕ} → Holds us x y → x ≤ y
  holds_le itself = omega arith
  holds_le {x} {y} (under p h) = let a = holds_le h in let b = earlier y p in omega arith

  pub holds_same : {x y : ℕ} → Holds us x y → Holds us y x → x ≡ y
  holds_same h i = let a = holds_le h in let b = holds_le i in omega arith

  -- the root holds every place
  root_in : (k x : ℕ) → x < k → Holds us 0 x
  root_in zero x h = absurd (omega arith)
  root_in (suc k) x h = ⊎_elim (λ e. subst (Holds us 0) (sym e) itself) (λ ne. let p : 0 < x = omega arith in let e = earlier x p in under p (root_in k (up us x) (omega arith))) (cases_eq x 0)

  pub root_holds : (x : ℕ) → Holds us 0 x
  root_holds x = root_in (suc x) x (omega arith)

  line_is : (x : ℕ) → line us x ≡ line_in us (suc x) x
  line_is x = ap (λ k. line_in us k x) (add-one x)

  -- a line goes on with the parent's line
  line_enough : (k l x : ℕ) → x < k → x < l → line_in us k x ≡ line_in us l x
  line_enough zero l x h i = absurd (omega arith)
  line_enough (suc k) zero x h i = absurd (omega arith)
  line_enough (suc k) (suc l) x h i = ap (λ xs. x ∷ xs) (go (line_enough k l (up us x)) (x == 0) refl)
    where
      go : (up us x < k → up us x < l → line_in us k (up us x) ≡ line_in us l (up us x)) → (b : Bool) → (x == 0) ≡ b
          → ◌≡◌ {A = List ℕ} (elim b [ true ↦ [] | false ↦ line_in us k (up us x) ]) (elim b [ true ↦ [] | false ↦ line_in us l (up us x) ])
      go rest true f = refl
      go rest false f = let n = eqb-false x 0 f in let e = earlier x (omega arith) in rest (omega arith) (omega arith)

  pub line_more : (x : ℕ) → 0 < x → line us x ≡ x ∷ line us (up us x)
  line_more x p =
      let e = earlier x p in
      line_is x ∙ ap (λ xs. x ∷ xs) (else_is (x == 0) [] _ (ne_eqb x 0 (λ z. omega arith)) ∙ line_enough x (up us x + 1) (up us x) e (omega arith))

  pub length_line : (x : ℕ) → 0 < x → length (line us x) ≡ suc (length (line us (up us x)))
  length_line x p = ap length (line_more x p)

  pub line_some : (x : ℕ) → 1 ≤ length (line us x)
  line_some x = let e = ap length (line_is x) in omega arith

  line_holds : {x y : ℕ} → Holds us x y → holds us x y ≡ true
  line_holds {x} itself = ap (among x) (line_is x) ∙ or_left (x == x) _ (eq-eqb x x refl)
  line_holds {x} {y} (under p h) = ap (among x) (line_more y p) ∙ or_right (x == y) _ (line_holds h)

  -- the test decides the relation
  pub holds_decides : (x y : ℕ) → Decides (holds us x y) (Holds us x y)
  holds_decides x y = (holds_from_line us (y + 1) x y, line_holds)

  -- what a place holds, by what it holds of the parent
  pub holds_more : (x y : ℕ) → 0 < y → holds us x y ≡ (x == y || holds us x (up us y))
  holds_more x y p = ap (among x) (line_more y p)

  -- a branch, and a side, is the only one
  no_branch_up : {c s x : ℕ} → Branch us c s x → Holds us s c → ⊥
  no_branch_up {c} {s} b h = let l = holds_le h in let e = earlier s b.below in let p = b.parent in omega arith

  branch_below : {c s t : ℕ} → 0 < s → up us s ≡ c → 0 < t → up us t ≡ c → Holds us s t → s ≡ t
  branch_below p e q f itself = refl
  branch_below {c} {s} {t} p e q f (under r h) = let l = holds_le h in let a = earlier s p in absurd (omega arith)

  branch_only : {c s t x : ℕ} → Branch us c s x → Branch us c t x → s ≡ t
  branch_only a b =
      ⊎_elim
      (branch_below a.below a.parent b.below b.parent)
      (λ h. sym (branch_below b.below b.parent a.below a.parent h))
      (holds_chain a.holds b.holds)

  pub side_only : {c s t x : ℕ} → Side us c s x → Side us c t x → s ≡ t
  side_only (inl a) (inl b) = a.0 ∙ sym b.0
  side_only {c} {s} {t} (inl a) (inr b) = absurd (no_branch_up b (subst (Holds us t) a.1 b.holds))
  side_only {c} {s} (inr a) (inl b) = absurd (no_branch_up a (subst (Holds us s) b.1 a.holds))
  side_only (inr a) (inr b) = branch_only a b

  pub branch_apart : {c s x : ℕ} → Branch us c s x → s ≢ c
  branch_apart {c} {s} b e = let l = earlier s b.below in let p = b.parent in omega arith

  pub lowest_only : {x y c d : ℕ} → Lowest us x y c → Lowest us x y d → c ≡ d
  lowest_only {x} {y} {c} {d} a b = holds_same (b.least c a.first a.second) (a.least d b.first b.second)

  pub meets_only : {x y : ℕ} {m n : Meeting} → Meets us x y m → Meets us x y n → m ≡ n
  meets_only {x} {y} {m} {n} a b =
      let c = lowest_only a.lowest b.lowest in
      let l = side_only (subst (λ z. Side us z m.left x) c a.left) b.left in
      let r = side_only (subst (λ z. Side us z m.right y) c a.right) b.right in
      λ i. record { place = c i; left = l i; right = r i }

  -- the two sides of a meeting are apart, or it is both itself
  pub meets_apart : {x y : ℕ} {m : Meeting} → Meets us x y m → m.left ≡ m.right → m.left ≡ m.place
  meets_apart {x} {y} {m} h e = go h.left h.right
    where
      go : Side us m.place m.left x → Side us m.place m.right y → m.left ≡ m.place
      go (inl a) r = a.0
      go (inr a) (inl b) = e ∙ b.0
      go (inr a) (inr b) = absurd (no_branch_up a (h.lowest.least m.left a.holds (subst (λ z. Holds us z y) (sym e) b.holds)))

  -- what it takes to be where two places meet
  pub meets_at : {x y c l r : ℕ} → Holds us c x → Holds us c y → Side us c l x → Side us c r y → (l ≡ r → l ≡ c) → Meets us x y (record { place = c; left = l; right = r })
  meets_at {x} {y} {c} {l} {r} hx hy sl sr apart = record { lowest = record { first = hx; second = hy; least = least }; left = sl; right = sr }
    where
      lower : (z : ℕ) → Holds us z x → Holds us z y → Holds us c z → Holds us z c
      lower z a b i =
          ⊎_elim
          (λ e. subst (Holds us z) e itself)
          (λ ne.
          let t = branch_to i ne in
          let on : (w : ℕ) → Holds us z w → Branch us c t.0 w = λ w h. record { below = t.1.below; parent = t.1.parent; holds = holds_trans t.1.holds h } in
          let el = side_only sl (inr (on x a)) in
          let er = side_only sr (inr (on y b)) in
          absurd (branch_apart t.1 (sym el ∙ apart (el ∙ sym er))))
          (cases_eq z c)

      least : (z : ℕ) → Holds us z x → Holds us z y → Holds us z c
      least z a b = ⊎_elim (λ h. h) (lower z a b) (holds_chain a hx)

-- Three places and the three meetings of two of them.
pub data Three (m n o : Meeting) : Type 0 where
  -- all meet in one place, with three sides
  level : m.place ≡ n.place → m.right ≡ n.left → o ≡ record { place = m.place; left = m.left; right = n.right } → Three m n o
  -- the first and the third are on one side, the second on another
  crossed : m.place ≡ n.place → m.right ≡ n.left → m.left ≡ n.right → (m.left ≢ m.place) → Three m n o
  -- the first two meet below
  first_lower : o ≡ n → (n.left ≢ n.place) → Three m n o
  -- the last two meet below
  second_lower : o ≡ m → (m.right ≢ m.place) → Three m n o

module _ (us : List ℕ) (earlier : Earlier us) {x y z : ℕ} {m n o : Meeting} (hm : Meets us x y m) (hn : Meets us y z n) (ho : Meets us x z o) where
  three_level : m.place ≡ n.place → Three m n o
  three_level e =
      let back : (s w : ℕ) → Side us n.place s w → Side us m.place s w = λ s w h. subst (λ c. Side us c s w) (sym e) h in
      let mid = side_only us earlier hm.right (back n.left y hn.left) in
      let hz : Holds us m.place z = subst (λ c. Holds us c z) (sym e) hn.lowest.second in
      let met : (m.left ≡ n.right → m.left ≡ m.place) → Three m n o = λ apart.
      level e mid (meets_only us earlier ho (meets_at us earlier hm.lowest.first hz hm.left (back n.right z hn.right) apart)) in
      ⊎_elim
      (λ here. met (λ _. here))
      (λ other. ⊎_elim (λ same. crossed e mid same other) (λ apart. met (λ same. absurd (apart same))) (cases_eq m.left n.right))
      (cases_eq m.left m.place)

  three_first : Holds us n.place m.place → (m.place ≢ n.place) → Three m n o
  three_first h ne =
      let b = branch_to h ne in
      let on : (w : ℕ) → Holds us m.place w → Branch us n.place b.0 w = λ w i. record { below = b.1.below; parent = b.1.parent; holds = holds_trans b.1.holds i } in
      let l = side_only us earlier hn.left (inr (on y hm.lowest.second)) in
      let left : Side us n.place n.left x = subst (λ s. Side us n.place s x) (sym l) (inr (on x hm.lowest.first)) in
      first_lower
      (meets_only us earlier ho (meets_at us earlier (holds_trans h hm.lowest.first) hn.lowest.second left hn.right (meets_apart us earlier hn)))
      (λ e. branch_apart us earlier b.1 (sym l ∙ e))

  three_second : Holds us m.place n.place → (n.place ≢ m.place) → Three m n o
  three_second h ne =
      let b = branch_to h ne in
      let on : (w : ℕ) → Holds us n.place w → Branch us m.place b.0 w = λ w i. record { below = b.1.below; parent = b.1.parent; holds = holds_trans b.1.holds i } in
      let r = side_only us earlier hm.right (inr (on y hn.lowest.first)) in
      let right : Side us m.place m.right z = subst (λ s. Side us m.place s z) (sym r) (inr (on z hn.lowest.second)) in
      second_lower
      (meets_only us earlier ho (meets_at us earlier hm.lowest.first (holds_trans h hn.lowest.second) hm.left right (meets_apart us earlier hm)))
      (λ e. branch_apart us earlier b.1 (sym r ∙ e))

  pub three : Three m n o
  three =
      ⊎_elim
      three_level
      (λ ne. ⊎_elim (λ h. three_second h (λ e. ne (sym e))) (λ h. three_first h ne) (holds_chain hm.lowest.second hn.lowest.first))
      (cases_eq m.place n.place)

-- One turn of the climb.
pub turn_second : (us : List ℕ) (k x y l r : ℕ) → x < y → climb_in us (suc k) x y l r ≡ climb_in us k x (up us y) l y
turn_second us k x y l r lt = else_is (x == y) _ _ (ne_eqb x y (λ e. omega arith)) ∙ then_is (nat_lt x y) _ _ (lt-ltb x y lt)

pub turn_first : (us : List ℕ) (k x y l r : ℕ) → y < x → climb_in us (suc k) x y l r ≡ climb_in us k (up us x) y x r
turn_first us k x y l r lt = else_is (x == y) _ _ (ne_eqb x y (λ e. omega arith)) ∙ else_is (nat_lt x y) _ _ (le-ltb x y (omega arith))

pub turn_none : (us : List ℕ) (k x y l r : ℕ) → x ≡ y → climb_in us k x y l r ≡ record { place = x; left = l; right = r }
turn_none us zero x y l r e = refl
turn_none us (suc k) x y l r e = then_is (x == y) _ _ (eq-eqb x y e)

-- The climb.
pub record Climbing (us : List ℕ) (a b x y left right : ℕ) : Type 0 where
  pub first : Holds us x a
  pub second : Holds us y b
  pub both : (z : ℕ) → Holds us z a → Holds us z b → Holds us z x × Holds us z y
  pub left_side : Side us x left a
  pub right_side : Side us y right b

module _ (us : List ℕ) (earlier : Earlier us) (a b : ℕ) where
  begins : Climbing us a b a b a b
  begins = record { first = itself; second = itself; both = λ z h i. (h, i); left_side = inl (refl, refl); right_side = inl (refl, refl) }

  -- what holds both a place and a lower-numbered one holds its parent
  past : {x y z : ℕ} → x < y → Holds us z x → Holds us z y → Holds us z (up us y)
  past {x} {y} l h itself = let k = holds_le us earlier h in absurd (omega arith)
  past l h (under p i) = i

  up_second : {x y l r : ℕ} → x < y → Climbing us a b x y l r → Climbing us a b x (up us y) l y
  up_second {x} {y} lt c =
      let p : 0 < y = omega arith in
      record {
        first = c.first;
        second = holds_trans (under p itself) c.second;
        both = λ z h i. let k = c.both z h i in (k.0, past lt k.0 k.1);
        left_side = c.left_side;
        right_side = inr (record { below = p; parent = refl; holds = c.second });
      }

  up_first : {x y l r : ℕ} → y < x → Climbing us a b x y l r → Climbing us a b (up us x) y x r
  up_first {x} {y} lt c =
      let p : 0 < x = omega arith in
      record {
        first = holds_trans (under p itself) c.first;
        second = c.second;
        both = λ z h i. let k = c.both z h i in (past lt k.1 k.0, k.1);
        left_side = inr (record { below = p; parent = refl; holds = c.first });
        right_side = c.right_side;
      }

  arrived : {x y l r : ℕ} → x ≡ y → Climbing us a b x y l r → Meets us a b (record { place = x; left = l; right = r })
  arrived {x} {y} {l} {r} e c = record {
    lowest = record { first = c.first; second = subst (λ w. Holds us w b) (sym e) c.second; least = λ z h i. (c.both z h i).0 };
    left = c.left_side;
    right = subst (λ w. Side us w r b) (sym e) c.right_side;
  }

  -- it ends in time, and where it should
  climbs : (k x y l r : ℕ) → length (line us x) + length (line us y) ≤ k + 2 → Climbing us a b x y l r → Meets us a b (climb_in us k x y l r)
  climbs zero x y l r few c =
      ⊎_elim
      (λ e. arrived e c)
      (⊎_elim
      (λ lt. let p = length_line us earlier y (omega arith) in let q = line_some us earlier (up us y) in let t = line_some us earlier x in absurd (omega arith))
      (λ lt. let p = length_line us earlier x (omega arith) in let q = line_some us earlier (up us x) in let t = line_some us earlier y in absurd (omega arith)))
      (cases_order x y)
  climbs (suc k) x y l r few c =
      ⊎_elim
      (λ e. subst (Meets us a b) (sym (turn_none us (suc k) x y l r e)) (arrived e c))
      (⊎_elim
      (λ lt. let p = length_line us earlier y (omega arith) in subst (Meets us a b) (sym (turn_second us k x y l r lt)) (climbs k x (up us y) l y (omega arith) (up_second lt c)))
      (λ lt. let p = length_line us earlier x (omega arith) in subst (Meets us a b) (sym (turn_first us k x y l r lt)) (climbs k (up us x) y x r (omega arith) (up_first lt c))))
      (cases_order x y)

  pub climb_meets : Meets us a b (climb us a b)
  climb_meets = let p = line_some us earlier a in let q = line_some us earlier b in climbs (levels us a + levels us b) a b a b (omega arith) begins

-- Two trees that agree on the first places have the same lines and climbs there.
module _ (us vs : List ℕ) (earlier : Earlier us) (n : ℕ) (agree : (x : ℕ) → x < n → up vs x ≡ up us x) where
  line_agrees : (k x : ℕ) → x < n → line_in vs k x ≡ line_in us k x
  line_agrees zero x h = refl
  line_agrees (suc k) x h = ap (λ xs. x ∷ xs) (go (line_agrees k (up us x)) (x == 0) refl)
    where
      go : (up us x < n → line_in vs k (up us x) ≡ line_in us k (up us x)) → (b : Bool) → (x == 0) ≡ b
          → ◌≡◌ {A = List ℕ} (elim b [ true ↦ [] | false ↦ line_in vs k (up vs x) ]) (elim b [ true ↦ [] | false ↦ line_in us k (up us x) ])
      go rest true f = refl
      go rest false f = let p = eqb-false x 0 f in let e = earlier x (omega arith) in ap (line_in vs k) (agree x h) ∙ rest (omega arith)

  pub line_same : (x : ℕ) → x < n → line vs x ≡ line us x
  line_same x h = line_agrees (x + 1) x h

  pub holds_kept : (x y : ℕ) → y < n → holds vs x y ≡ holds us x y
  holds_kept x y h = ap (among x) (line_same y h)

  climb_agrees : (k x y l r : ℕ) → x < n → y < n → climb_in vs k x y l r ≡ climb_in us k x y l r
  climb_agrees zero x y l r h i = refl
  climb_agrees (suc k) x y l r h i =
      ⊎_elim
      (λ e. turn_none vs (suc k) x y l r e ∙ sym (turn_none us (suc k) x y l r e))
      (⊎_elim
      (λ lt. let e = earlier y (omega arith) in turn_second vs k x y l r lt ∙ ap (λ w. climb_in vs k x w l y) (agree y i) ∙ climb_agrees k x (up us y) l y h (omega arith) ∙ sym (turn_second us k x y l r lt))
      (λ lt. let e = earlier x (omega arith) in turn_first vs k x y l r lt ∙ ap (λ w. climb_in vs k w y x r) (agree x h) ∙ climb_agrees k (up us x) y x r (omega arith) i ∙ sym (turn_first us k x y l r lt)))
      (cases_order x y)

  pub climb_kept : (x y : ℕ) → x < n → y < n → climb vs x y ≡ climb us x y
  climb_kept x y h i =
      let e : levels vs x + levels vs y ≡ levels us x + levels us y = λ j. (length (line_same x h j) - 1) + (length (line_same y i j) - 1) in
      ap (λ k. climb_in vs k x y x y) e ∙ climb_agrees (levels us x + levels us y) x y x y h i
