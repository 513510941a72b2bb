-- The flags layer over whole runs: which pairs it keeps.
use Rattle.std.specs.Prelude.{◌≡◌, ℕ, List, ◌∷◌, Ok}
use Rattle.std.specs.List.{ContainsAt as Has}
use Rattle.order.specs.declared.Timestamp.{Timestamp}
use Rattle.order.specs.Events.{post, await}
use Rattle.order.specs.Machine.{Machine}
use Rattle.order.specs.Runs.{Call, tell, Ran}
use Rattle.flags.specs.declared.pair.Pair.{Pair}
use Rattle.flags.specs.Machine.{Flagged, new_flags, flagged}

-- In a run over a new layer, the process of an accepted post or await was stamped below and given this timestamp.
pub data Gave (m : Machine) (s : m.State) (p : ℕ) (c : Call) (k : Timestamp) : List Call → Type 0 where
  now : {calls : List Call} {t : Flagged m.State} {b : m.State} → Ran (flagged m) (new_flags s) calls t → m.stamp t.below p ≡ Ok (k, b) → Gave m s p c k (c ∷ calls)
  earlier : {calls : List Call} {d : Call} → Gave m s p c k calls → Gave m s p c k (d ∷ calls)

-- a timestamp that a post of the flag was given, and one that an await of it was given
abbrev pub Posted : (m : Machine) → m.State → List Call → ℕ → Timestamp → Type 0
Posted m s calls f k = (p : ℕ) × Gave m s p (tell (post p f)) k calls

abbrev pub Awaited : (m : Machine) → m.State → List Call → ℕ → Timestamp → Type 0
Awaited m s calls f k = (p : ℕ) × Gave m s p (tell (await p f)) k calls

-- The pairs are those of the accepted awaits, each with the post of its flag.
pub record PairsTold (m : Machine) (s : m.State) (calls : List Call) (pairs : List Pair) : Type 0 where
  -- each pair is of a post and an await of one flag
  pub each : (y : Pair) → Has pairs y → (f : ℕ) × Posted m s calls f y.post × Awaited m s calls f y.wait
  -- each await has its pair
  pub all : (f : ℕ) (k : Timestamp) → Awaited m s calls f k → (y : Pair) × Has pairs y × (y.wait ≡ k) × Posted m s calls f y.post
