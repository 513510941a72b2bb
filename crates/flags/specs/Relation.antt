-- What before means over flags, as a relation.
use Rattle.std.specs.Prelude.{◌≡◌, true, ◌⊎◌, List}
use Rattle.std.specs.List.{ContainsAt as Has}
use Rattle.order.specs.declared.Timestamp.{Timestamp}
use Rattle.order.specs.Meaning.{Meaning}
use Rattle.flags.specs.declared.pair.Pair.{Pair}

-- a is b, or is before it
abbrev pub Leads : Meaning → Timestamp → Timestamp → Type 0
Leads x a b = (a ≡ b) ⊎ (x.before a b ≡ true)

-- Through one or more pairs in a row: the first timestamp is, or is before, the first post; each await is, or is before, the next post;
-- the last await is, or is before, the second timestamp.
pub data Through (x : Meaning) (pairs : List Pair) : Timestamp → Timestamp → Type 0 where
  last : {a b : Timestamp} (y : Pair) → Has pairs y → Leads x a y.post → Leads x y.wait b → Through x pairs a b
  next : {a b : Timestamp} (y : Pair) → Has pairs y → Leads x a y.post → Through x pairs y.wait b → Through x pairs a b

-- a is before b over the flags: it is so below, or through pairs
abbrev pub FlagBefore : Meaning → List Pair → Timestamp → Timestamp → Type 0
FlagBefore x pairs a b = (x.before a b ≡ true) ⊎ Through x pairs a b
