-- What each change of a place's kind keeps.
use Rattle.std.specs.Prelude.{◌≡◌, ℕ, ◌+◌, ◌-◌, Bool, true, false, cond, ◌⊎◌, is_some, Some, None, ◌==◌, refl}
use Rattle.std.proofs.Common.{inl, inr, sym}
use Rattle.std.proofs.lemmas.Bool.{false≢true}
use Rattle.makes.specs.declared.places.Kind.{Kind}
use Rattle.makes.specs.declared.places.Kind.TheVariants.{Session, Make, Target, Step}
use Rattle.makes.specs.declared.places.Place.{Place}
use Rattle.makes.specs.declared.places.Status.{Status}
use Rattle.makes.specs.declared.places.Status.TheVariants.{Unstarted, Running, Ended}
use Rattle.makes.specs.Places.{status_start, status_end, begun, closed, is_make, sort_of, targets_of, start_of, end_of, kind_begun, kind_declared, kind_closed, with_kind, one_less, shape}
use Rattle.makes.specs.Sound.{lasting}

-- what the birth of a step and the last death keep of a status, and what they add
module _ (n : ℕ) where
  status_begun_end : (s : Status) → status_end (begun n s) ≡ status_end s
  status_begun_end Unstarted = refl
  status_begun_end (Running since) = refl
  status_begun_end (Ended started e) = refl

  status_begun_start : (s : Status) → (status_start (begun n s) ≡ status_start s) ⊎ ((status_start s ≡ None) × (status_start (begun n s) ≡ Some n))
  status_begun_start Unstarted = inr (refl, refl)
  status_begun_start (Running since) = inl refl
  status_begun_start (Ended started e) = inl refl

  status_begun_some : (s : Status) → is_some (status_end s) ≡ false → is_some (status_start (begun n s)) ≡ true
  status_begun_some Unstarted e = refl
  status_begun_some (Running since) e = refl
  status_begun_some (Ended started k) e = absurd (false≢true (sym e))

  status_closed_start : (s : Status) → status_start (closed n s) ≡ status_start s
  status_closed_start Unstarted = refl
  status_closed_start (Running since) = refl
  status_closed_start (Ended started e) = refl

  status_closed_end : (s : Status) → (status_end (closed n s) ≡ status_end s) ⊎ ((status_end s ≡ None) × (status_end (closed n s) ≡ Some n))
  status_closed_end Unstarted = inr (refl, refl)
  status_closed_end (Running since) = inr (refl, refl)
  status_closed_end (Ended started e) = inl refl

  status_closed_some : (s : Status) → is_some (status_end (closed n s)) ≡ true
  status_closed_some Unstarted = refl
  status_closed_some (Running since) = refl
  status_closed_some (Ended started e) = refl

-- a make whose step is born
module _ (n : ℕ) (p : Place) where
  pub begun_shape : (k : Kind) → shape (with_kind p (kind_begun n k)) ≡ shape (with_kind p k)
  begun_shape Session = refl
  begun_shape (Make m) = refl
  begun_shape (Target row) = refl
  begun_shape (Step start end) = refl

  pub declared_shape : (k : Kind) → shape (with_kind p (kind_declared k)) ≡ shape (with_kind p k)
  declared_shape Session = refl
  declared_shape (Make m) = refl
  declared_shape (Target row) = refl
  declared_shape (Step start end) = refl

module _ (n : ℕ) where
  pub begun_targets : (k : Kind) → targets_of (kind_begun n k) ≡ targets_of k
  begun_targets Session = refl
  begun_targets (Make m) = refl
  begun_targets (Target row) = refl
  begun_targets (Step start end) = refl

  pub begun_end : (k : Kind) → end_of (kind_begun n k) ≡ end_of k
  begun_end Session = refl
  begun_end (Make m) = status_begun_end n m.status
  begun_end (Target row) = refl
  begun_end (Step start end) = refl

  pub begun_start : (k : Kind) → (start_of (kind_begun n k) ≡ start_of k) ⊎ ((start_of k ≡ None) × (start_of (kind_begun n k) ≡ Some n))
  begun_start Session = inl refl
  begun_start (Make m) = status_begun_start n m.status
  begun_start (Target row) = inl refl
  begun_start (Step start end) = inl refl

  -- a make that has not ended has begun
  pub begun_some : (k : Kind) → is_make k ≡ true → is_some (end_of k) ≡ false → is_some (start_of (kind_begun n k)) ≡ true
  begun_some Session m e = absurd (false≢true m)
  begun_some (Make m) made e = status_begun_some n m.status e
  begun_some (Target row) m e = absurd (false≢true m)
  begun_some (Step start end) m e = absurd (false≢true m)

  pub closed_targets : (k : Kind) → targets_of (kind_closed n k) ≡ targets_of k
  closed_targets Session = refl
  closed_targets (Make m) = refl
  closed_targets (Target row) = refl
  closed_targets (Step start end) = refl

  pub closed_start : (k : Kind) → start_of (kind_closed n k) ≡ start_of k
  closed_start Session = refl
  closed_start (Make m) = status_closed_start n m.status
  closed_start (Target row) = refl
  closed_start (Step start end) = refl

  pub closed_end : (k : Kind) → (end_of (kind_closed n k) ≡ end_of k) ⊎ ((end_of k ≡ None) × (end_of (kind_closed n k) ≡ Some n))
  closed_end Session = inl refl
  closed_end (Make m) = status_closed_end n m.status
  closed_end (Target row) = inl refl
  closed_end (Step start None) = inr (refl, refl)
  closed_end (Step start (Some e)) = inl refl

  -- what lasts and closes has an end
  pub closed_some : (k : Kind) → lasting (sort_of k) ≡ true → is_some (end_of (kind_closed n k)) ≡ true
  closed_some Session m = absurd (false≢true m)
  closed_some (Make m) made = status_closed_some n m.status
  closed_some (Target row) m = absurd (false≢true m)
  closed_some (Step start None) m = refl
  closed_some (Step start (Some e)) m = refl

pub declared_start : (k : Kind) → start_of (kind_declared k) ≡ start_of k
declared_start Session = refl
declared_start (Make m) = refl
declared_start (Target row) = refl
declared_start (Step start end) = refl

pub declared_end : (k : Kind) → end_of (kind_declared k) ≡ end_of k
declared_end Session = refl
declared_end (Make m) = refl
declared_end (Target row) = refl
declared_end (Step start end) = refl

pub declared_targets : (k : Kind) → is_make k ≡ true → targets_of (kind_declared k) ≡ targets_of k + 1
declared_targets Session m = absurd (false≢true m)
declared_targets (Make m) made = refl
declared_targets (Target row) m = absurd (false≢true m)
declared_targets (Step start end) m = absurd (false≢true m)

-- one live process less
module _ (n : ℕ) (p : Place) where
  either : {Y : Type 0} (g : Kind → Y) → g (kind_closed n p.kind) ≡ g p.kind → (b : Bool) → g (cond b (kind_closed n p.kind) p.kind) ≡ g p.kind
  either g same true = same
  either g same false = refl

  pub less_targets : targets_of (one_less n p).kind ≡ targets_of p.kind
  less_targets = either targets_of (closed_targets n p.kind) (p.live - 1 == 0)

  pub less_start : start_of (one_less n p).kind ≡ start_of p.kind
  less_start = either start_of (closed_start n p.kind) (p.live - 1 == 0)

  pub less_end : (end_of (one_less n p).kind ≡ end_of p.kind) ⊎ ((end_of p.kind ≡ None) × (end_of (one_less n p).kind ≡ Some n))
  less_end = go (p.live - 1 == 0)
    where
      go : (b : Bool) → (end_of (cond b (kind_closed n p.kind) p.kind) ≡ end_of p.kind) ⊎ ((end_of p.kind ≡ None) × (end_of (cond b (kind_closed n p.kind) p.kind) ≡ Some n))
      go true = closed_end n p.kind
      go false = inl refl
