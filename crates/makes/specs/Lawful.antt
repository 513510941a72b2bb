-- The law of the meaning: before goes upward, goes on, and stands between known timestamps.
use Rattle.std.specs.Prelude.{◌≡◌, ℕ, ◌<◌, ◌≤◌, true, List, length, nat_le, nat_lt}
use Rattle.std.proofs.Common.{sym, ap, subst, ◌∙◌, arith}
use Rattle.std.proofs.lemmas.Bool.{ltb-true, lt-ltb, leb-true, le-leb, and_from, and_parts}
use Rattle.order.specs.declared.Timestamp.{Timestamp}
use Rattle.order.specs.Meaning.{Lawful}
use Rattle.makes.specs.declared.climb.Meeting.{Meeting}
use Rattle.makes.specs.Machine.{Build, known_in, before_in, judged, meaning}
use Rattle.makes.specs.Places.{is_make, is_stand, row_of, kind_at, parents}
use Rattle.makes.specs.Sound.{Sound}
use Rattle.makes.specs.Tree.{Side, Meets, climb}
use Rattle.makes.specs.Judging.{side_row, judged_on, judged_back, judged_left, judged_right}
use Rattle.makes.specs.TreeLemmas.{climb_meets, Three, level, crossed, first_lower, second_lower, three}

-- what a known timestamp tells
pub record KnownParts (s : Build) (a : Timestamp) : Type 0 where
  pub from_one : 1 ≤ a.number
  pub given : a.number ≤ s.number
  pub within : a.place < length s.places
  pub stands : is_stand (kind_at s.places a.place) ≡ true

pub known_parts : (s : Build) (a : Timestamp) → known_in s a ≡ true → KnownParts s a
known_parts s a e =
    let p = and_parts (nat_le 1 a.number) _ e in
    let q = and_parts (nat_le a.number s.number) _ p.1 in
    let r = and_parts (nat_lt a.place (length s.places)) _ q.1 in
    record { from_one = leb-true _ _ p.0; given = leb-true _ _ q.0; within = ltb-true _ _ r.0; stands = r.1 }

pub known_from : (s : Build) (a : Timestamp) → KnownParts s a → known_in s a ≡ true
known_from s a h = and_from _ _ (le-leb _ _ h.from_one) (and_from _ _ (le-leb _ _ h.given) (and_from _ _ (lt-ltb _ _ h.within) h.stands))

-- what before tells
pub record BeforeParts (s : Build) (a b : Timestamp) : Type 0 where
  pub first : known_in s a ≡ true
  pub second : known_in s b ≡ true
  pub lower : a.number < b.number
  pub judgement : judged s (climb (parents s.places) a.place b.place) a.number b.number ≡ true

pub before_parts : (s : Build) (a b : Timestamp) → before_in s a b ≡ true → BeforeParts s a b
before_parts s a b e =
    let p = and_parts (known_in s a) _ e in
    let q = and_parts (known_in s b) _ p.1 in
    let r = and_parts (nat_lt a.number b.number) _ q.1 in
    record { first = p.0; second = q.0; lower = ltb-true _ _ r.0; judgement = r.1 }

pub before_from : (s : Build) (a b : Timestamp) → BeforeParts s a b → before_in s a b ≡ true
before_from s a b h = and_from _ _ h.first (and_from _ _ h.second (and_from _ _ (lt-ltb _ _ h.lower) h.judgement))

module _ (s : Build) (sound : Sound s) where
  us : List ℕ
  us = parents s.places

  meets : (x y : ℕ) → Meets (parents s.places) x y (climb (parents s.places) x y)
  meets x y = climb_meets (parents s.places) sound.tree.earlier x y

  -- a judgement at equal meetings
  judged_at : (m n : Meeting) (a b : ℕ) → m ≡ n → judged s n a b ≡ true → judged s m a b ≡ true
  judged_at m n a b e h = ap (λ z. judged s z a b) e ∙ h

  judged_chain : (a b c : Timestamp) (m n o : Meeting) → KnownParts s a → KnownParts s b → KnownParts s c
      → Meets (parents s.places) a.place b.place m → Meets (parents s.places) b.place c.place n → Three m n o
      → judged s m a.number b.number ≡ true → judged s n b.number c.number ≡ true → judged s o a.number c.number ≡ true
  judged_chain a b c m n o ka kb kc hm hn (level e mid is) jm jn =
      let jn' : judged s (record { place = m.place; left = m.right; right = n.right }) b.number c.number ≡ true =
      judged_at (record { place = m.place; left = m.right; right = n.right }) n b.number c.number (λ i. record { place = e i; left = mid i; right = n.right }) jn in
      judged_at o (record { place = m.place; left = m.left; right = n.right }) a.number c.number is
      (judged_on s sound m.place m.left m.right n.right a.number b.number c.number
      (λ t. side_row s sound m.place m.left a.place t ka.within ka.stands hm.left)
      (λ t. side_row s sound m.place m.right b.place t kb.within kb.stands hm.right)
      (λ t. side_row s sound m.place n.right c.place t kc.within kc.stands (subst (λ z. Side (parents s.places) z n.right c.place) (sym e) hn.right))
      jm jn')
  judged_chain a b c m n o ka kb kc hm hn (crossed e mid same other) jm jn =
      let jn' : judged s (record { place = m.place; left = m.right; right = m.left }) b.number c.number ≡ true =
      judged_at (record { place = m.place; left = m.right; right = m.left }) n b.number c.number (λ i. record { place = e i; left = mid i; right = same i }) jn in
      let rl : is_make (kind_at s.places m.place) ≡ true → row_of (kind_at s.places m.left) < length s.rows = λ t. side_row s sound m.place m.left a.place t ka.within ka.stands hm.left in
      absurd (judged_back s sound m.place m.left a.number c.number other rl
      (judged_on s sound m.place m.left m.right m.left a.number b.number c.number rl
      (λ t. side_row s sound m.place m.right b.place t kb.within kb.stands hm.right) rl jm jn'))
  judged_chain a b c m n o ka kb kc hm hn (first_lower is other) jm jn =
      judged_at o n a.number c.number is (judged_left s sound n.place n.left n.right a.number b.number c.number other ∙ jn)
  judged_chain a b c m n o ka kb kc hm hn (second_lower is other) jm jn =
      judged_at o m a.number c.number is (sym (judged_right s sound m.place m.left m.right a.number b.number c.number other) ∙ jm)

  pub make_lawful : Lawful (meaning s)
  make_lawful = record {
    upward = λ a b e. (before_parts s a b e).lower;
    chained = λ a b c e d.
        let p = before_parts s a b e in
        let q = before_parts s b c d in
        before_from s a c (record {
          first = p.first;
          second = q.second;
          lower = let x = p.lower in let y = q.lower in omega arith;
          judgement =
              judged_chain a b c (climb (parents s.places) a.place b.place) (climb (parents s.places) b.place c.place) (climb (parents s.places) a.place c.place)
              (known_parts s a p.first) (known_parts s b p.second) (known_parts s c q.second) (meets a.place b.place) (meets b.place c.place)
              (three (parents s.places) sound.tree.earlier (meets a.place b.place) (meets b.place c.place) (meets a.place c.place))
              p.judgement q.judgement;
        });
    between = λ a b e. let p = before_parts s a b e in (p.first, p.second);
    ranged = λ a e. let p = known_parts s a e in (p.from_one, p.given);
    limited = sound.number;
  }
