-- The text that a log is listed as.
use Rattle.std.specs.Prelude.{◌≡◌, ℕ, ◌+◌, ◌/◌, ◌%◌, cond, ◌||◌, List, [], ◌∷◌, ◌++◌, length, Some, None, decimal, Option, ◌==◌, nat_lt}
use Rattle.std.specs.List.{flat_map, AllByRecursion}
use Rattle.faults.specs.Numbers.{reader_number}
use Rattle.trace_log.specs.Item.{Item, birth, make, target, death, read, write, exists, removal, post, await}
use Rattle.trace_log.specs.Format.{log_of, Writable}
use Rattle.trace_log.specs.Whole.{RecordAt, Stop, ReadsLog, placed}

-- a digit in base sixteen, in lower case
abbrev pub hex : ℕ → ℕ
hex d = cond (nat_lt d 10) (48 + d) (87 + d)

-- a byte of a path: itself, or \xHH where it is below 33, above 126 or the backslash
abbrev pub shown_byte : ℕ → List ℕ
shown_byte b = cond (nat_lt b 33 || (nat_lt 126 b || b == 92)) (92 ∷ 120 ∷ hex (b / 16) ∷ hex (b % 16) ∷ []) (b ∷ [])

-- numbers in decimal, each after a space
abbrev pub fields : List ℕ → List ℕ
fields [] = []
fields (n ∷ []) = 32 ∷ decimal n
fields (n ∷ m ∷ ns) = 32 ∷ (decimal n ++ fields (m ∷ ns))

-- a record's letter
abbrev pub letter : Item → ℕ
letter (birth p q t) = 66
letter (make p) = 77
letter (target p ts) = 84
letter (death p) = 68
letter (read p d i path) = 82
letter (write p d i path) = 87
letter (exists p path) = 75
letter (removal p d i last path) = 85
letter (post p f) = 70
letter (await p f) = 65

-- its numbers, in the order of the format; of a target's prerequisites the count
abbrev pub numbers : Item → List ℕ
numbers (birth p q t) = p ∷ q ∷ t ∷ []
numbers (make p) = p ∷ []
numbers (target p ts) = p ∷ length ts ∷ []
numbers (death p) = p ∷ []
numbers (read p d i path) = p ∷ d ∷ i ∷ []
numbers (write p d i path) = p ∷ d ∷ i ∷ []
numbers (exists p path) = p ∷ []
numbers (removal p d i last path) = p ∷ d ∷ i ∷ cond last 1 0 ∷ []
numbers (post p f) = p ∷ f ∷ []
numbers (await p f) = p ∷ f ∷ []

-- a path after a space
abbrev pub shown_path : List ℕ → List ℕ
shown_path path = 32 ∷ flat_map shown_byte path

-- what follows the numbers: a target's prerequisites, or the path
abbrev pub tail : Item → List ℕ
tail (birth p q t) = []
tail (make p) = []
tail (target p ts) = fields ts
tail (death p) = []
tail (read p d i path) = shown_path path
tail (write p d i path) = shown_path path
tail (exists p path) = shown_path path
tail (removal p d i last path) = shown_path path
tail (post p f) = []
tail (await p f) = []

-- how a record's line begins: its place and letter, its numbers
abbrev pub head : RecordAt → List ℕ
head r = decimal r.place ++ (32 ∷ letter r.says ∷ fields (numbers r.says))

-- a record's line: its beginning, the rest, the end of the line
abbrev pub line : RecordAt → List ℕ
line r = head r ++ (tail r.says ++ (10 ∷ []))

-- a refusal's line: X, its number and the place; want of memory has no number
abbrev pub refusal_line : Option ℕ → ℕ → List ℕ
refusal_line (Some n) place = 88 ∷ 32 ∷ (decimal n ++ (32 ∷ (decimal place ++ (10 ∷ []))))
refusal_line None place = []

-- the last line: E and the number of records, or the refusal
abbrev pub last_line : ℕ → Option Stop → List ℕ
last_line count None = 69 ∷ 32 ∷ (decimal count ++ (10 ∷ []))
last_line count (Some stop) = refusal_line (reader_number stop.fault) stop.place

-- the text of a log: a line for each record, and the last line
abbrev pub listing : List RecordAt → Option Stop → List ℕ
listing rs stop = flat_map line rs ++ last_line (length rs) stop

-- a text lists what is read from a log
abbrev pub Lists : List ℕ → List ℕ → Type 0
Lists log text = (rs : List RecordAt) × ((stop : Option Stop) × (ReadsLog log rs stop × (text ≡ listing rs stop)))

-- of a log that is written with some records, the text lists these records, each at its place
abbrev pub ListsWritten : List ℕ → List ℕ → Type 0
ListsWritten log text = (is : List Item) → AllByRecursion Writable is → log ≡ log_of is → text ≡ listing (placed 1 is) None
