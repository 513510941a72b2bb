-- What an order means, and the law of that meaning.
use Rattle.std.specs.Prelude.{◌≡◌, ℕ, ◌+◌, ◌<◌, ◌≤◌, Bool, true, cond, not, ◌&&◌, ◌||◌, Some, None, Option, ◌==◌}
use Rattle.faults.specs.declared.OrderFault.{OrderFault}
use Rattle.faults.specs.declared.OrderFault.TheVariants.{NotLive, UsedUp}
use Rattle.order.specs.declared.Timestamp.{Timestamp}
use Rattle.order.specs.Events.{Told, birth, make, target, death, post, await}

-- Four parts: the present number, who lives, which timestamps are known, and which known timestamp is before which.
pub record Meaning : Type 0 where
  pub number : ℕ
  pub lives : ℕ → Bool
  pub known : Timestamp → Bool
  pub before : Timestamp → Timestamp → Bool

-- the last number that an order gives out
abbrev pub last_number : ℕ
last_number = 1000000

-- The law, of all timestamps, those too that no call handed out.
pub record Lawful (x : Meaning) : Type 0 where
  -- before goes only from a lower number to a higher
  pub upward : (a b : Timestamp) → x.before a b ≡ true → a.number < b.number
  -- what is before b is before all that b is before
  pub chained : (a b c : Timestamp) → x.before a b ≡ true → x.before b c ≡ true → x.before a c ≡ true
  -- before holds only between known timestamps
  pub between : (a b : Timestamp) → x.before a b ≡ true → (x.known a ≡ true) × (x.known b ≡ true)
  -- a known timestamp's number lies from 1 to the present number
  pub ranged : (a : Timestamp) → x.known a ≡ true → (1 ≤ a.number) × (a.number ≤ x.number)
  pub limited : x.number ≤ last_number

-- What every accepted call does: it takes one number, and what was known and ordered stays so.
pub record Advanced (x y : Meaning) : Type 0 where
  pub counted : y.number ≡ x.number + 1
  pub known_stays : (a : Timestamp) → x.known a ≡ true → y.known a ≡ true
  pub before_stays : (a b : Timestamp) → x.known a ≡ true → x.known b ≡ true → y.before a b ≡ x.before a b

-- Who lives after an event: a birth adds its process, a death removes it, nothing else changes who lives.
abbrev pub lives_after : Told → (ℕ → Bool) → ℕ → Bool
lives_after (birth p q t) lives x = p == x || lives x
lives_after (make p) lives x = lives x
lives_after (target p ts) lives x = lives x
lives_after (death p) lives x = not (p == x) && lives x
lives_after (post p f) lives x = lives x
lives_after (await p f) lives x = lives x

-- Why a timestamp is refused, if it is: the process does not live, or else the numbers are used up.
abbrev pub stamp_fault : Meaning → ℕ → Option OrderFault
stamp_fault x p = cond (x.lives p) (cond (x.number == last_number) (Some UsedUp) None) (Some NotLive)
