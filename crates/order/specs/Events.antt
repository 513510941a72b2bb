-- What an event tells, by its plain values.
use Rattle.std.specs.Prelude.{ℕ, List}
use Rattle.order.specs.declared.Event.{Event}
use Rattle.order.specs.declared.Event.TheVariants.{Birth, Make, Target, Death, Post, Await}

pub data Told : Type 0 where
  birth : (process parent target : ℕ) → Told
  make : (process : ℕ) → Told
  target : (process : ℕ) (prerequisites : List ℕ) → Told
  death : (process : ℕ) → Told
  post : (process flag : ℕ) → Told
  await : (process flag : ℕ) → Told

-- what the program's event tells: a list for the slice that it refers to
abbrev pub told : Event → Told
told (Birth p q t) = birth p q t
told (Make p) = make p
told (Target p ts) = target p ts.now
told (Death p) = death p
told (Post p f) = post p f
told (Await p f) = await p f
