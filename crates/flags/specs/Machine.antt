-- The flags layer as a function from machines to machines.
use Rattle.std.specs.Prelude.{◌≡◌, ℕ, ◌-◌, ◌<◌, Bool, true, cond, not, ◌&&◌, ◌||◌, List, [], ◌∷◌, ◌++◌, reverse, length, replicate, is_some, Some, None, Ok, Err, Option, Result, nat_le, slice_index_or, slice_set}
use Rattle.std.specs.List.{AllByRecursion}
use Rattle.faults.specs.declared.OrderFault.{OrderFault}
use Rattle.faults.specs.declared.OrderFault.TheVariants.{BadFlag, AwaitsFull}
use Rattle.order.specs.declared.Timestamp.{Timestamp}
use Rattle.order.specs.Events.{Told, birth, make, target, death, post, await}
use Rattle.order.specs.Machine.{Machine, checked}
use Rattle.order.specs.Meaning.{Meaning}
use Rattle.flags.specs.declared.pair.Pair.{Pair}
use Rattle.flags.specs.Chains.{row, through}

-- The state below, the post of each flag from flag 1 on, and the pairs of the awaits, oldest first.
pub record Flagged (S : Type 0) : Type 0 where
  pub below : S
  pub posts : List (Option Timestamp)
  pub pairs : List Pair

-- no flag posted
abbrev pub new_flags : {S : Type 0} → S → Flagged S
new_flags s = record { below = s; posts = replicate 32 None; pairs = [] }

-- flags run from 1 to 32
abbrev pub is_flag : ℕ → Bool
is_flag f = nat_le 1 f && nat_le f 32

-- the post of a flag, if it is a flag and was posted
abbrev pub post_of : {S : Type 0} → Flagged S → ℕ → Option Timestamp
post_of s f = cond (is_flag f) (slice_index_or s.posts (f - 1) None) None

-- a post keeps its timestamp as the flag's
abbrev pub keep_post : {S : Type 0} → Flagged S → ℕ → Result (Timestamp × S) OrderFault → Result (Flagged S) OrderFault
keep_post s f (Ok r) = Ok (record { below = r.1; posts = slice_set s.posts (f - 1) (Some r.0); pairs = s.pairs })
keep_post s f (Err e) = Err e

-- an await keeps the pair of the post k and its own timestamp, with the row of the older pairs that lead to the post
abbrev pub keep_pair : (m : Machine) → Flagged m.State → Timestamp → Result (Timestamp × m.State) OrderFault → Result (Flagged m.State) OrderFault
keep_pair m s k (Ok r) = Ok (record {
  below = r.1;
  posts = s.posts;
  pairs = s.pairs ++ record { post = k; wait = r.0; earlier = row (m.means r.1) k (reverse s.pairs) } ∷ [];
})
keep_pair m s k (Err e) = Err e

-- any other event is the order's below
abbrev pub keep_below : {S : Type 0} → Flagged S → Result S OrderFault → Result (Flagged S) OrderFault
keep_below s (Ok t) = Ok (record { below = t; posts = s.posts; pairs = s.pairs })
keep_below s (Err e) = Err e

-- a post: the flag is one, and was not posted before; then its process is stamped
abbrev pub tell_post : (m : Machine) → Flagged m.State → ℕ → ℕ → Result (Flagged m.State) OrderFault
tell_post m s p f = checked ((not (is_flag f) || is_some (post_of s f), BadFlag) ∷ []) (keep_post s f (m.stamp s.below p))

-- an await: the flag was posted, and there is room; then its process is stamped
abbrev pub await_after : (m : Machine) → Flagged m.State → ℕ → Option Timestamp → Result (Flagged m.State) OrderFault
await_after m s p None = Err BadFlag
await_after m s p (Some k) = checked ((nat_le 32 (length s.pairs), AwaitsFull) ∷ []) (keep_pair m s k (m.stamp s.below p))

-- an await, by the post of its flag
abbrev pub tell_await : (m : Machine) → Flagged m.State → ℕ → ℕ → Result (Flagged m.State) OrderFault
tell_await m s p f = await_after m s p (post_of s f)

-- each event
abbrev pub tell_flagged : (m : Machine) → Flagged m.State → Told → Result (Flagged m.State) OrderFault
tell_flagged m s (birth p q t) = keep_below s (m.tell s.below (birth p q t))
tell_flagged m s (make p) = keep_below s (m.tell s.below (make p))
tell_flagged m s (target p ts) = keep_below s (m.tell s.below (target p ts))
tell_flagged m s (death p) = keep_below s (m.tell s.below (death p))
tell_flagged m s (post p f) = tell_post m s p f
tell_flagged m s (await p f) = tell_await m s p f

-- a timestamp is that of the order below
abbrev pub stamp_kept : {S : Type 0} → Flagged S → Result (Timestamp × S) OrderFault → Result (Timestamp × Flagged S) OrderFault
stamp_kept s (Ok r) = Ok (r.0, record { below = r.1; posts = s.posts; pairs = s.pairs })
stamp_kept s (Err e) = Err e

-- before: so below, or through pairs
abbrev pub flag_before : Meaning → List Pair → Timestamp → Timestamp → Bool
flag_before x pairs a b = x.before a b || through x a b 0 (reverse pairs)

-- the meaning: all but before is as below
abbrev pub flag_meaning : Meaning → List Pair → Meaning
flag_meaning x pairs = record { number = x.number; lives = x.lives; known = x.known; before = flag_before x pairs }

-- A pair, and the older ones: it stands on known timestamps, its await is above its post and above every older await, and its row is
-- that of the pairs that lead to its post.
pub record SoundPair (x : Meaning) (y : Pair) (ys : List Pair) : Type 0 where
  pub post_known : x.known y.post ≡ true
  pub wait_known : x.known y.wait ≡ true
  pub rising : y.post.number < y.wait.number
  pub newest : AllByRecursion (λ z. z.wait.number < y.wait.number) ys
  pub earlier : y.earlier ≡ row x y.post ys

-- each pair, newest first
abbrev pub SoundPairs : Meaning → List Pair → Type 0
SoundPairs x [] = Unit {0}
SoundPairs x (y ∷ ys) = SoundPair x y ys × SoundPairs x ys

-- What reachable states keep: the order below is valid, the posts are known there, and the pairs are sound.
pub record Sound (m : Machine) (s : Flagged m.State) : Type 0 where
  pub below : m.valid s.below
  pub posts : (i : ℕ) (k : Timestamp) → slice_index_or s.posts i None ≡ Some k → (m.means s.below).known k ≡ true
  pub pairs : SoundPairs (m.means s.below) (reverse s.pairs)

-- the layer over a machine
abbrev pub flagged : Machine → Machine
flagged m = record {
  State = Flagged m.State;
  tell = tell_flagged m;
  stamp = λ s p. stamp_kept s (m.stamp s.below p);
  any = λ s. m.any s.below;
  means = λ s. flag_meaning (m.means s.below) s.pairs;
  valid = Sound m;
}
