-- A whole log: its records with their places, and the refusal that ends it, if any.
use Rattle.std.specs.Prelude.{◌≡◌, ℕ, suc, ◌+◌, ◌-◌, List, [], ◌∷◌, map, length, Some, None, Ok, Err, vec_items, Option, Result, ◌≢◌}
use Rattle.std.specs.Option.{option_map}
use Rattle.std.specs.declared.alloc.AllocError.{AllocError}
use Rattle.std.specs.List.{AllByRecursion}
use Rattle.faults.specs.declared.EntryFault.{EntryFault}
use Rattle.faults.specs.declared.ReaderFault.{ReaderFault}
use Rattle.faults.specs.declared.ReaderFault.TheVariants.{Entry, BadVersion}
use Rattle.trace_log.specs.declared.contents.Contents.{Contents}
use Rattle.trace_log.specs.declared.contents.Placed.{Placed}
use Rattle.trace_log.specs.declared.contents.Refusal.{Refusal}
use Rattle.trace_log.specs.Item.{Item, item}
use Rattle.trace_log.specs.Format.{encode, log_of, Writable}
use Rattle.trace_log.specs.Decode.{decode, end, got, refused}

-- a record and the place of its first byte
pub record RecordAt : Type 0 where
  pub place : ℕ
  pub says : Item

-- what is refused, and the place of the record that is refused
pub record Stop : Type 0 where
  pub place : ℕ
  pub fault : ReaderFault

-- what is read from the last bytes of a log of this size: the records with their places, and the refusal that ends them, if any
pub data Reads (size : ℕ) : List ℕ → List RecordAt → Option Stop → Type 0 where
  ends : {bs : List ℕ} → decode bs ≡ end → Reads size bs [] None
  stops : {bs : List ℕ} (f : ReaderFault) → decode bs ≡ refused f → Reads size bs [] (Some (record { place = size - length bs; fault = f }))
  goes_on : {bs : List ℕ} {xs : List RecordAt} {e : Option Stop} (i : Item) (rest : List ℕ) → decode bs ≡ got i rest → Reads size rest xs e → Reads size bs (record { place = size - length bs; says = i } ∷ xs) e

-- what is read from a whole log: the version, then the records
pub data ReadsLog : List ℕ → List RecordAt → Option Stop → Type 0 where
  opened : {bs : List ℕ} {xs : List RecordAt} {e : Option Stop} → Reads (suc (length bs)) bs xs e → ReadsLog (1 ∷ bs) xs e
  unopened : {log : List ℕ} → ((bs : List ℕ) → log ≢ 1 ∷ bs) → ReadsLog log [] (Some (record { place = 0; fault = BadVersion }))

-- what the program's values stand for
abbrev pub record_of : Placed → RecordAt
record_of p = record { place = p.place; says = item p.record }

abbrev pub records_of : Contents → List RecordAt
records_of c = map record_of (vec_items c.records)

abbrev pub stop_of : Refusal → Stop
stop_of r = record { place = r.place; fault = r.fault }

abbrev pub refusal_of : Contents → Option Stop
refusal_of c = option_map stop_of c.refusal

abbrev pub items_of : Contents → List Item
items_of c = map (λ x. x.says) (records_of c)

-- a log that is read to its end is written with the records that were read
abbrev pub StoodAll : List ℕ → Contents → Type 0
StoodAll log c = refusal_of c ≡ None → (log ≡ log_of (items_of c)) × AllByRecursion Writable (items_of c)

-- records one after the other, from a place on
abbrev pub placed : ℕ → List Item → List RecordAt
placed place [] = []
placed place (i ∷ is) = record { place = place; says = i } ∷ placed (place + length (encode i)) is

-- the records that a log is written with are read, each at its place, to its end
abbrev pub ReturnedAll : List ℕ → Contents → Type 0
ReturnedAll log c = (is : List Item) → AllByRecursion Writable is → log ≡ log_of is → (records_of c ≡ placed 1 is) × (refusal_of c ≡ None)

-- the refusal that ends a log; no memory is no refusal
abbrev pub Stops : ℕ → ReaderFault → Result Refusal AllocError → Type 0
Stops place fault (Ok r) = (r ≡ record { place = place; fault = fault }) × ((f : EntryFault) → fault ≢ Entry f)
Stops place fault (Err _) = (f : EntryFault) × (fault ≡ Entry f)
