-- The law of the relation: it rises, goes on, stands on known timestamps, and does not change.
use Rattle.std.specs.Prelude.{◌≡◌, ◌^◌, ◌<◌, true, cond, ◌||◌, ◌⊎◌, List, [], ◌∷◌, reverse, length, bit_or, refl}
use Rattle.std.proofs.Common.{inl, inr, ⊎_elim, sym, ap, subst, ◌∙◌, arith}
use Rattle.std.proofs.lemmas.Bool.Decides.{Decides-like, same_from_decides}
use Rattle.std.specs.List.{ContainsAt as Has}
use Rattle.order.specs.declared.Timestamp.{Timestamp}
use Rattle.order.specs.Meaning.{Meaning, Lawful, Advanced}
use Rattle.flags.specs.declared.pair.Pair.{Pair}
use Rattle.flags.specs.Chains.{same, leads, row}
use Rattle.flags.specs.Machine.{SoundPairs, flag_before, flag_meaning}
use Rattle.flags.specs.Relation.{Leads, Through, last, next, FlagBefore}
use Rattle.flags.specs.RelationLemmas.{KeptPair, leads_number, has_kept, before_decides}

module _ (x : Meaning) (lawful : Lawful x) where
  leads_on_to : {a b c : Timestamp} → Leads x a b → Leads x b c → Leads x a c
  leads_on_to {a} {b} {c} (inl e) l = subst (λ k. Leads x k c) (sym e) l
  leads_on_to {a} {b} {c} (inr e) (inl d) = inr (subst (λ k. x.before a k ≡ true) d e)
  leads_on_to {a} {b} {c} (inr e) (inr d) = inr (lawful.chained a b c e d)

  known_start : {a b : Timestamp} → x.known b ≡ true → Leads x a b → x.known a ≡ true
  known_start k (inl e) = subst (λ z. x.known z ≡ true) (sym e) k
  known_start {a} {b} k (inr e) = (lawful.between a b e).0

  known_end : {a b : Timestamp} → x.known a ≡ true → Leads x a b → x.known b ≡ true
  known_end k (inl e) = subst (λ z. x.known z ≡ true) e k
  known_end {a} {b} k (inr e) = (lawful.between a b e).1

  module _ (pairs : List Pair) where
    led_through : {a b c : Timestamp} → Leads x a b → Through x pairs b c → Through x pairs a c
    led_through l (last y h k e) = last y h (leads_on_to l k) e
    led_through l (next y h k t) = next y h (leads_on_to l k) t

    through_leads : {a b c : Timestamp} → Through x pairs a b → Leads x b c → Through x pairs a c
    through_leads (last y h k e) l = last y h k (leads_on_to e l)
    through_leads (next y h k t) l = next y h k (through_leads t l)

    through_through : {a b c : Timestamp} → Through x pairs a b → Through x pairs b c → Through x pairs a c
    through_through (last y h k e) u = next y h k (led_through e u)
    through_through (next y h k t) u = next y h k (through_through t u)

    goes_on : {a b c : Timestamp} → FlagBefore x pairs a b → FlagBefore x pairs b c → FlagBefore x pairs a c
    goes_on {a} {b} {c} (inl e) (inl d) = inl (lawful.chained a b c e d)
    goes_on (inl e) (inr u) = inr (led_through (inr e) u)
    goes_on (inr t) (inl d) = inr (through_leads t (inr d))
    goes_on (inr t) (inr u) = inr (through_through t u)

    module _ (kept : (y : Pair) → Has pairs y → KeptPair x y) where
      through_rises : {a b : Timestamp} → Through x pairs a b → a.number < b.number
      through_rises (last y h k e) = let p = leads_number lawful k in let q = (kept y h).2 in let r = leads_number lawful e in omega arith
      through_rises (next y h k t) = let p = leads_number lawful k in let q = (kept y h).2 in let r = through_rises t in omega arith

      through_known : {a b : Timestamp} → Through x pairs a b → (x.known a ≡ true) × (x.known b ≡ true)
      through_known (last y h k e) = (known_start (kept y h).0 k, known_end (kept y h).1 e)
      through_known (next y h k t) = (known_start (kept y h).0 k, (through_known t).1)

-- the law of the layer's meaning
pub flag_lawful : (x : Meaning) → Lawful x → (pairs : List Pair) → SoundPairs x (reverse pairs) → Lawful (flag_meaning x pairs)
flag_lawful x lawful pairs s =
    let is = before_decides x lawful pairs s in
    let kept = has_kept x pairs s in
    record {
      upward = λ a b e. ⊎_elim (lawful.upward a b) (through_rises x lawful pairs kept) ((is a b).0 e);
      chained = λ a b c e d. (is a c).1 (goes_on x lawful pairs ((is a b).0 e) ((is b c).0 d));
      between = λ a b e. ⊎_elim (lawful.between a b) (through_known x lawful pairs kept) ((is a b).0 e);
      ranged = lawful.ranged;
      limited = lawful.limited;
    }

-- One call later: the pairs are those that there were, and perhaps one whose await is newer than all that was known.
module _ (x y : Meaning) (ax : Lawful x) (ay : Lawful y) (on : Advanced x y) where
  leads_stays : {a b : Timestamp} → x.known a ≡ true → x.known b ≡ true → leads y a b ≡ leads x a b
  leads_stays {a} {b} ka kb = ap (λ t. same a b || t) (on.before_stays a b ka kb)

  later : {a b : Timestamp} → x.known a ≡ true → x.known b ≡ true → Leads x a b → Leads y a b
  later ka kb (inl e) = inl e
  later {a} {b} ka kb (inr e) = inr (on.before_stays a b ka kb ∙ e)

  sooner : {a b : Timestamp} → x.known a ≡ true → x.known b ≡ true → Leads y a b → Leads x a b
  sooner ka kb (inl e) = inl e
  sooner {a} {b} ka kb (inr e) = inr (sym (on.before_stays a b ka kb) ∙ e)

  row_stays : (post : Timestamp) → x.known post ≡ true → (ys : List Pair) → SoundPairs x ys → row y post ys ≡ row x post ys
  row_stays post k [] s = refl
  row_stays post k (z ∷ ys) s =
      let rest = row_stays post k ys s.1 in
      let lead = leads_stays s.0.wait_known k in
      λ i. cond (lead i) (bit_or (rest i) (2 ^ length ys)) (rest i)

  pub sound_stays : (ys : List Pair) → SoundPairs x ys → SoundPairs y ys
  sound_stays [] s = tt
  sound_stays (z ∷ ys) s = (
    record {
      post_known = on.known_stays z.post s.0.post_known;
      wait_known = on.known_stays z.wait s.0.wait_known;
      rising = s.0.rising;
      newest = s.0.newest;
      earlier = s.0.earlier ∙ sym (row_stays z.post s.0.post_known ys s.1);
    },
    sound_stays ys s.1,
  )

  module _ (pairs more : List Pair) (sx : SoundPairs x (reverse pairs)) (sy : SoundPairs y (reverse more))
      (stays : (z : Pair) → Has pairs z → Has more z) (new : (z : Pair) → Has more z → Has pairs z ⊎ (x.number < z.wait.number)) where
    through_later : {a b : Timestamp} → x.known a ≡ true → x.known b ≡ true → Through x pairs a b → Through y more a b
    through_later ka kb (last z h k e) = let q = has_kept x pairs sx z h in last z (stays z h) (later ka q.0 k) (later q.1 kb e)
    through_later ka kb (next z h k t) = let q = has_kept x pairs sx z h in next z (stays z h) (later ka q.0 k) (through_later q.1 kb t)

    -- a new await is above b, so that no chain to b goes through it
    through_sooner : {a b : Timestamp} → x.known a ≡ true → x.known b ≡ true → Through y more a b → Through x pairs a b
    through_sooner {a} {b} ka kb (last z h k e) =
        ⊎_elim
        (λ old. let q = has_kept x pairs sx z old in last z old (sooner ka q.0 k) (sooner q.1 kb e))
        (λ high. let p = leads_number ay e in let r = (ax.ranged b kb).1 in absurd (omega arith))
        (new z h)
    through_sooner {a} {b} ka kb (next z h k t) =
        ⊎_elim
        (λ old. let q = has_kept x pairs sx z old in next z old (sooner ka q.0 k) (through_sooner q.1 kb t))
        (λ high. let p = through_rises y ay more (has_kept y more sy) t in let r = (ax.ranged b kb).1 in absurd (omega arith))
        (new z h)

    pub flag_advanced : Advanced (flag_meaning x pairs) (flag_meaning y more)
    flag_advanced = record {
      counted = on.counted;
      known_stays = on.known_stays;
      before_stays = λ a b ka kb.
          same_from_decides (flag_before y more a b) (flag_before x pairs a b)
          (Decides-like _ (⊎_elim (λ e. inl (sym (on.before_stays a b ka kb) ∙ e)) (λ t. inr (through_sooner ka kb t)))
          (⊎_elim (λ e. inl (on.before_stays a b ka kb ∙ e)) (λ t. inr (through_later ka kb t))) (before_decides y ay more sy a b))
          (before_decides x ax pairs sx a b);
    }
