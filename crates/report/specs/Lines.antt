-- The lines that the tools print.
use Rattle.std.specs.Prelude.{◌≡◌, ℕ, ◌^◌, ◌<◌, ◌≤◌, ◌⊎◌, List, [], ◌∷◌, ◌++◌, length, drop, Ok, Err, decimal, Result}
use Rattle.faults.specs.declared.EntryFault.{EntryFault}
use Rattle.faults.specs.declared.EntryFault.TheVariants.{NoRoom}
use Rattle.report.specs.declared.Line.{Line}
use Rattle.report.specs.declared.Line.TheVariants.{Contents, Path, Directory, End, Refused}

-- a number in decimal, after a space
abbrev pub field : ℕ → List ℕ
field n = 32 ∷ decimal n

-- numbers, each after a space, and the end of the line
abbrev pub fields : List ℕ → List ℕ
fields [] = 10 ∷ []
fields (n ∷ ns) = field n ++ fields ns

-- a line's letter: C, P, D, E or X
abbrev pub letter : Line → ℕ
letter (Contents earlier later) = 67
letter (Path earlier later) = 80
letter (Directory earlier later) = 68
letter (End entries checks races) = 69
letter (Refused number place) = 88

abbrev pub numbers : Line → List ℕ
numbers (Contents earlier later) = earlier ∷ later ∷ []
numbers (Path earlier later) = earlier ∷ later ∷ []
numbers (Directory earlier later) = earlier ∷ later ∷ []
numbers (End entries checks races) = entries ∷ checks ∷ races ∷ []
numbers (Refused number place) = number ∷ place ∷ []

-- a line: its letter, its numbers
abbrev pub text : Line → List ℕ
text l = letter l ∷ fields (numbers l)

-- a line is written at the start of the buffer and the rest stays; or the buffer is too short, and all of it stays
abbrev pub Writes : List ℕ → List ℕ → List ℕ → Result ℕ EntryFault → Type 0
Writes line before after (Ok n) = (n ≡ length line) × (after ≡ line ++ drop n before) × (32 ≤ length before) × (n ≤ length before)
Writes line before after (Err f) = (f ≡ NoRoom) × (after ≡ before) × ((length before < 32) ⊎ (length before < length line))

-- a line whose numbers are as large as those of any session can be, and larger: 32 bytes are enough for it
abbrev pub Usual : Line → Type 0
Usual (Contents earlier later) = (earlier < 10 ^ 10) × (later < 10 ^ 10)
Usual (Path earlier later) = (earlier < 10 ^ 10) × (later < 10 ^ 10)
Usual (Directory earlier later) = (earlier < 10 ^ 10) × (later < 10 ^ 10)
Usual (End entries checks races) = (entries < 10 ^ 8) × (checks < 10 ^ 8) × (races < 10 ^ 8)
Usual (Refused number place) = (number < 10 ^ 3) × (place < 2 ^ 64)
