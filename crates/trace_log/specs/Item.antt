-- A record as plain data, with its path and its targets as lists of numbers.
use Rattle.std.specs.Prelude.{ℕ, Bool, List, vec_items}
use Rattle.trace_log.specs.declared.record.Record.{Record}
use Rattle.trace_log.specs.declared.record.Record.TheVariants.{Birth, Make, Target, Death, Read, Write, Exists, Removal, Post, Await}

pub data Item : Type 0 where
  birth : (process parent target : ℕ) → Item
  make : (process : ℕ) → Item
  target : (process : ℕ) (prerequisites : List ℕ) → Item
  death : (process : ℕ) → Item
  read write : (process device inode : ℕ) (path : List ℕ) → Item
  exists : (process : ℕ) (path : List ℕ) → Item
  removal : (process device inode : ℕ) (last : Bool) (path : List ℕ) → Item
  post await : (process flag : ℕ) → Item

-- what a record of the reader says
abbrev pub item : Record → Item
item (Birth p q t) = birth p q t
item (Make p) = make p
item (Target p ts) = target p (vec_items ts)
item (Death p) = death p
item (Read p d i path) = read p d i path.now
item (Write p d i path) = write p d i path.now
item (Exists p path) = exists p path.now
item (Removal p d i last path) = removal p d i last path.now
item (Post p f) = post p f
item (Await p f) = await p f
