-- The last slash parts a path into its parent and its last component.
use Rattle.std.proofs.Common.{◌≡◌, ℕ, suc, ◌+◌, ◌-◌, ◌<◌, ◌≤◌, max, true, false, List, [], ◌∷◌, ◌++◌, length, get_or, take, drop, Some, sym, refl, ap, ◌∙◌, subst, inl, inr, arith}
use Rattle.std.specs.Str.{bytes_eq}
use Rattle.std.proofs.lemmas.Slice.Eq.{bytes_eq-Decides}
use Rattle.std.proofs.lemmas.List.{length-append, length-drop, length-take-le, get_or_append_left, get_or_at, get_or-drop, take_at, take-append-drop, drop_more}
use Rattle.std.proofs.lemmas.Bool.{cases_Bool, cond-true, cond-false, false≢true, not-true}
use Rattle.std.proofs.lemmas.Bool.Decides.{Decides-not, nat_tests}
use Rattle.paths.specs.Forms.{slash, has, wellformed, WellFormed}
use Rattle.paths.specs.Parents.{root, before_last, or_root, parent, LiesIn}
use Rattle.paths.proofs.Decided.{has_at, lacks, lacks_at, sound, complete}

-- ---- the last slash

-- a slash that none follows is the last one
before_last_is : (p name : List ℕ) → has slash name ≡ false → before_last (p ++ slash ∷ name) ≡ p
before_last_is [] name n = rw n refl
before_last_is (x ∷ p) name n =
    let len = length-append p (slash ∷ name) in
    let y = has_at slash (p ++ slash ∷ name) (length p) (omega arith) (get_or_at p slash name 0 (length p) refl) in
    rw y (ap (λ q. x ∷ q) (before_last_is p name n))

-- the same, by index
pub last_at : (bs : List ℕ) (i : ℕ) → i < length bs → get_or bs i 0 ≡ slash → ((k : ℕ) → i < k → k < length bs → get_or bs k 0 ≡ slash → ⊥) → i ≡ length (before_last bs)
last_at bs i l a none =
    let rest = drop (i + 1) bs in
    let len = length-drop (i + 1) bs in
    let e = sym (take-append-drop i bs) ∙ ap (λ q. take i bs ++ q) (drop_more bs i 0 l ∙ ap (λ b. b ∷ rest) a) in
    let n = lacks slash rest (λ k m h. none (i + 1 + k) (omega arith) (omega arith) (sym (get_or-drop (i + 1) bs k 0) ∙ h)) in
    sym (length-take-le i bs (omega arith)) ∙ ap length (sym (ap before_last e ∙ before_last_is (take i bs) rest n))

pub no_last : (bs : List ℕ) → ((k : ℕ) → k < length bs → get_or bs k 0 ≡ slash → ⊥) → 0 ≡ length (before_last bs)
no_last [] none = refl
no_last (b ∷ bs) none = rw (lacks slash bs (λ k m. none (suc k) (omega arith))) refl

-- what has a slash is the part before the last one, that slash, and a rest without
cut : (bs : List ℕ) → has slash bs ≡ true → (name : List ℕ) × (bs ≡ before_last bs ++ slash ∷ name) × (has slash name ≡ false)
cut [] h = absurd (false≢true h)
cut (b ∷ bs) h =
    elim (cases_Bool (has slash bs)) [
      | inl y ↦ let t = cut bs y in (t.0, rw y (ap (λ q. b ∷ q) t.1), t.2)
      | inr n ↦ let e : b ≡ slash = grind (arith, nat_tests) in (bs, rw (n, e) refl, n)
    ]

-- ---- what stands before it

unlike_root : (bs : List ℕ) → (bs ≡ root → ⊥) → bytes_eq bs root ≡ false
unlike_root bs differs = not-true (bytes_eq bs root) ((Decides-not (bytes_eq bs root) (bytes_eq-Decides bs root)).1 differs)

-- p is no "/", else two slashes would stand side by side
not_root : (p name : List ℕ) → WellFormed (p ++ slash ∷ name) → p ≡ root → ⊥
not_root p name h e = (subst (λ q. WellFormed (q ++ slash ∷ name)) e h).no_double 0 (omega arith) refl refl

-- what stands before a slash of a path has the form of a path
front_form : (p name : List ℕ) → 1 ≤ length p → WellFormed (p ++ slash ∷ name) → WellFormed p
front_form p name some h =
    let len = length-append p (slash ∷ name) in
    let same = get_or_append_left p (slash ∷ name) 0 in
    let end = length p - 1 in
    record {
      some = some;
      short = omega (arith, h.short);
      absolute = sym (same 0 some) ∙ h.absolute;
      no_zero = λ k l e. h.no_zero k (omega arith) (same k l ∙ e);
      no_double = λ k l a b. h.no_double k (omega arith) (same k (omega arith) ∙ a) (same (k + 1) l ∙ b);
      no_trailing = λ l e. h.no_double end (omega arith) (same end (omega arith) ∙ e) (get_or_at p slash name 0 (end + 1) (omega arith));
    }

up_form : (p name : List ℕ) → WellFormed (p ++ slash ∷ name) → wellformed (or_root p) ≡ true
up_form [] name h = refl
up_form (x ∷ p) name h = complete (x ∷ p) (front_form (x ∷ p) name (omega arith) h)

length_or_root : (p : List ℕ) → length (or_root p) ≡ max (length p) 1
length_or_root [] = refl
length_or_root (x ∷ p) = omega arith

-- ---- the parent

-- a path of more than one byte does not end in the slash that parts it
named : (p name : List ℕ) → WellFormed (p ++ slash ∷ name) → 1 < length (p ++ slash ∷ name) → 1 ≤ length name
named p [] h l =
    let len = length-append p (slash ∷ []) in
    absurd (h.no_trailing l (get_or_at p slash [] 0 (length (p ++ slash ∷ []) - 1) (omega arith)))
named p (x ∷ name) h l = omega arith

lies_in : (p name : List ℕ) → WellFormed (p ++ slash ∷ name) → 1 < length (p ++ slash ∷ name) → has slash name ≡ false → LiesIn (p ++ slash ∷ name) (or_root p)
lies_in [] name h l n =
    record { name = name; joined = refl; some = named [] name h l; no_slash = lacks_at slash name n; front = refl }
lies_in (x ∷ p) name h l n =
    record {
      name = name;
      joined = sym (cond-false _ _ _ (unlike_root (x ∷ p) (not_root (x ∷ p) name h)));
      some = named (x ∷ p) name h l;
      no_slash = lacks_at slash name n;
      front = sym (take_at (x ∷ p) (slash ∷ name) (length (x ∷ p)) refl);
    }

-- a path's bytes up to the last slash, one at least, are a directory that it lies in
pub parted : (bs : List ℕ) (n : ℕ) → wellformed bs ≡ true → 2 ≤ length bs → n ≡ max (length (before_last bs)) 1 → (wellformed (take n bs) ≡ true) × LiesIn bs (take n bs)
parted bs n w l e =
    let h = sound bs w in
    let p = before_last bs in
    let t = cut bs (has_at slash bs 0 h.some h.absolute) in
    let g = subst WellFormed t.1 h in
    let inside = subst (λ xs. LiesIn xs (or_root p)) (sym t.1) (lies_in p t.0 g (omega (arith, ap length t.1)) t.2) in
    let up = inside.front ∙ ap (λ m. take m bs) (length_or_root p ∙ sym e) in
    (subst (λ xs. wellformed xs ≡ true) up (up_form p t.0 g), subst (λ xs. LiesIn bs xs) up inside)

-- a path of one byte is "/"
pub only_root : (bs : List ℕ) → wellformed bs ≡ true → length bs < 2 → bs ≡ root
only_root [] w l = absurd (false≢true w)
only_root (x ∷ []) w l = ap (λ y. y ∷ []) (sound (x ∷ []) w).absolute
only_root (x ∷ y ∷ bs) w l = absurd (omega arith)

parent_is : (p name : List ℕ) → has slash name ≡ false → 1 ≤ length name → parent (p ++ slash ∷ name) ≡ Some (or_root p)
parent_is p name n l =
    let len = length-append p (slash ∷ name) in
    cond-false _ _ _ (unlike_root (p ++ slash ∷ name) (λ e. omega (arith, ap length e)))
    ∙ ap (λ q. Some (or_root q)) (before_last_is p name n)

or_root_same : (up : List ℕ) → wellformed up ≡ true → or_root up ≡ up
or_root_same [] w = absurd (false≢true w)
or_root_same (x ∷ up) w = refl

-- a directory that a path lies in is its parent
pub only_parent : (bs up : List ℕ) → wellformed up ≡ true → LiesIn bs up → parent bs ≡ Some up
only_parent bs up w l =
    let name = l.name in
    let n = lacks slash name l.no_slash in
    elim (cases_Bool (bytes_eq up root)) [
      | inl y ↦
          let r = (bytes_eq-Decides up root).0 y in
          ap parent (l.joined ∙ cond-true _ _ _ y ∙ ap (λ q. q ++ name) r) ∙ parent_is [] name n l.some ∙ ap Some (sym r)
      | inr f ↦ ap parent (l.joined ∙ cond-false _ _ _ f) ∙ parent_is up name n l.some ∙ ap Some (or_root_same up w)
    ]
