-- What the reader answers.
use Rattle.std.specs.Prelude.{◌≡◌, ℕ, ◌⊎◌, List, [], ◌∷◌, ◌++◌, length, Some, None, Ok, Err, Option, Result, ◌≢◌}
use Rattle.std.specs.Borrow.{Bor}
use Rattle.faults.specs.declared.EntryFault.TheVariants.{NoMemory}
use Rattle.faults.specs.declared.ReaderFault.{ReaderFault}
use Rattle.faults.specs.declared.ReaderFault.TheVariants.{Entry, BadVersion}
use Rattle.trace_log.specs.declared.record.Record.{Record}
use Rattle.trace_log.specs.declared.reader.Reader.{Reader}
use Rattle.trace_log.specs.Item.{Item, item, target}
use Rattle.trace_log.specs.Format.{body, encode, Small, Writable}
use Rattle.trace_log.specs.Decode.{by_letter, Front, end, got, refused, decode}

-- want of memory is met only for the list of a target's prerequisites, and only where there are some
abbrev pub Starved : Result Item ReaderFault → ReaderFault → Type 0
Starved r f = (f ≡ Entry NoMemory) × ((p : ℕ) × ((t : ℕ) × ((ts : List ℕ) × (r ≡ Ok (target p (t ∷ ts))))))

-- a letter and the bytes that follow it: they are the record's own, or the letter's reading refuses them
abbrev pub Parses : ℕ → List ℕ → Result Record ReaderFault → Type 0
Parses letter bs (Ok x) = ((letter ∷ bs) ≡ body (item x)) × Small (item x)
Parses letter bs (Err f) = (by_letter letter bs ≡ Err f) ⊎ Starved (by_letter letter bs) f

-- a fault is the refusal of what stands at the front, or there was no memory for a target's list
abbrev pub Refuses : Front → ReaderFault → Type 0
Refuses front f = (front ≡ refused f) ⊎ ((f ≡ Entry NoMemory) × ((p : ℕ) × ((t : ℕ) × ((ts : List ℕ) × ((rest : List ℕ) × (front ≡ got (target p (t ∷ ts)) rest))))))

-- what stands at the front of some bytes: nothing, a record byte for byte, or what is refused
abbrev pub Finds : List ℕ → Result (Option (Record × Bor (List ℕ))) ReaderFault → Type 0
Finds bs (Ok None) = bs ≡ []
Finds bs (Ok (Some p)) = (bs ≡ encode (item p.0) ++ p.1.now) × Writable (item p.0)
Finds bs (Err f) = Refuses (decode bs) f

-- one call of next: its answer and the bytes that are left, by the bytes that stood there
abbrev pub Next : List ℕ → List ℕ → Result (Option Record) ReaderFault → Type 0
Next here there (Ok None) = (decode here ≡ end) × (there ≡ here)
Next here there (Ok (Some x)) = decode here ≡ got (item x) there
Next here there (Err f) = Refuses (decode here) f × (there ≡ here)

-- a record that is handed out stood there, byte for byte
abbrev pub Stood : List ℕ → List ℕ → Result (Option Record) ReaderFault → Type 0
Stood here there (Ok None) = Unit {0}
Stood here there (Ok (Some x)) = (here ≡ encode (item x) ++ there) × Writable (item x)
Stood here there (Err f) = Unit {0}

-- this very record is handed out and the reader stands behind it, unless there is no memory
abbrev pub HandsOut : Item → List ℕ → List ℕ → Result (Option Record) ReaderFault → Type 0
HandsOut i rest there (Ok None) = ⊥
HandsOut i rest there (Ok (Some x)) = (item x ≡ i) × (there ≡ rest)
HandsOut i rest there (Err f) = f ≡ Entry NoMemory

-- a written record is handed out
abbrev pub Returned : List ℕ → List ℕ → Result (Option Record) ReaderFault → Type 0
Returned here there r = (i : Item) (rest : List ℕ) → Writable i → here ≡ encode i ++ rest → HandsOut i rest there r

-- a reader stands behind the version of a log, and knows how long the log is; else the version is not 1
abbrev pub Opens : List ℕ → Result Reader ReaderFault → Type 0
Opens log (Ok r) = (log ≡ 1 ∷ r.left.now) × (r.size ≡ length log)
Opens log (Err f) = (f ≡ BadVersion) × ((bs : List ℕ) → log ≢ 1 ∷ bs)
