-- What bytes say to a reader, refusals included.
use Rattle.std.specs.Prelude.{ℕ, ◌+◌, ◌*◌, Bool, true, false, cond, ◌&&◌, List, [], ◌∷◌, length, take, drop, Ok, Err, Result, ◌==◌, nat_le, nat_lt}
use Rattle.std.specs.Int.Digits.{number_from_digits}
use Rattle.faults.specs.declared.ReaderFault.{ReaderFault}
use Rattle.faults.specs.declared.ReaderFault.TheVariants.{Cut, UnknownLetter, BadLength}
use Rattle.trace_log.specs.Item.{Item, birth, make, target, death, read, write, exists, removal, post, await}

-- the number in the k bytes at a place, the most significant first
abbrev pub field : ℕ → ℕ → List ℕ → ℕ
field at k bs = number_from_digits 256 (take k (drop at bs))

-- the numbers in pairs of bytes
abbrev pub pairs : List ℕ → List ℕ
pairs [] = []
pairs (a ∷ []) = []
pairs (a ∷ b ∷ bs) = (a * 256 + b) ∷ pairs bs

-- a record whose length fits its letter, else a refusal
abbrev pub sized : Bool → Item → Result Item ReaderFault
sized true i = Ok i
sized false i = Err BadLength

-- the record of each letter, by the bytes that follow the letter
abbrev pub births : List ℕ → Result Item ReaderFault
births bs = sized (length bs == 10) (birth (field 0 4 bs) (field 4 4 bs) (field 8 2 bs))

abbrev pub makes : List ℕ → Result Item ReaderFault
makes bs = sized (length bs == 4) (make (field 0 4 bs))

abbrev pub targets : List ℕ → Result Item ReaderFault
targets bs = sized (length bs == 5 + 2 * field 4 1 bs) (target (field 0 4 bs) (pairs (drop 5 bs)))

abbrev pub deaths : List ℕ → Result Item ReaderFault
deaths bs = sized (length bs == 4) (death (field 0 4 bs))

abbrev pub reads : List ℕ → Result Item ReaderFault
reads bs = sized (nat_le 16 (length bs)) (read (field 0 4 bs) (field 4 4 bs) (field 8 8 bs) (drop 16 bs))

abbrev pub writes : List ℕ → Result Item ReaderFault
writes bs = sized (nat_le 16 (length bs)) (write (field 0 4 bs) (field 4 4 bs) (field 8 8 bs) (drop 16 bs))

abbrev pub existences : List ℕ → Result Item ReaderFault
existences bs = sized (nat_le 4 (length bs)) (exists (field 0 4 bs) (drop 4 bs))

abbrev pub removals : List ℕ → Result Item ReaderFault
removals bs = sized (nat_le 17 (length bs) && nat_le (field 16 1 bs) 1) (removal (field 0 4 bs) (field 4 4 bs) (field 8 8 bs) (field 16 1 bs == 1) (drop 17 bs))

abbrev pub posts : List ℕ → Result Item ReaderFault
posts bs = sized (length bs == 5) (post (field 0 4 bs) (field 4 1 bs))

abbrev pub awaits : List ℕ → Result Item ReaderFault
awaits bs = sized (length bs == 5) (await (field 0 4 bs) (field 4 1 bs))

abbrev pub unknown : List ℕ → Result Item ReaderFault
unknown bs = Err UnknownLetter

-- how a letter is read: B, M, T, D, R, W, K, U, F, A
abbrev pub by_letter : ℕ → List ℕ → Result Item ReaderFault
by_letter letter =
    cond (letter == 66) births
    (cond (letter == 77) makes
    (cond (letter == 84) targets
    (cond (letter == 68) deaths
    (cond (letter == 82) reads
    (cond (letter == 87) writes
    (cond (letter == 75) existences
    (cond (letter == 85) removals
    (cond (letter == 70) posts
    (cond (letter == 65) awaits unknown)))))))))

-- what stands at the front of some bytes: nothing more, a record and the bytes after it, or what is refused
pub data Front : Type 0 where
  end : Front
  got : Item → List ℕ → Front
  refused : ReaderFault → Front

-- a record that was read, or refused, with the bytes after it
abbrev pub parsed : Result Item ReaderFault → List ℕ → Front
parsed (Ok i) rest = got i rest
parsed (Err f) rest = refused f

-- a record's bytes, and the bytes after it; no letter is a length of 0
abbrev pub framed : List ℕ → List ℕ → Front
framed [] rest = refused BadLength
framed (letter ∷ bs) rest = parsed (by_letter letter bs) rest

-- what stands at the front of some bytes: two bytes of length, then that many bytes
abbrev pub decode : List ℕ → Front
decode [] = end
decode (a ∷ []) = refused Cut
decode (a ∷ b ∷ bs) = cond (nat_lt (length bs) (a * 256 + b)) (refused Cut) (framed (take (a * 256 + b) bs) (drop (a * 256 + b) bs))
