-- The fields of a line, and how long a line is.
use Rattle.std.proofs.Common.{◌≡◌, ℕ, ◌+◌, ◌^◌, ◌<◌, ◌≤◌, List, [], ◌∷◌, ◌++◌, length, take, refl, ap, ◌∙◌, append_assoc, arith}
use Rattle.std.specs.List.{flat_map}
use Rattle.std.proofs.lemmas.Fmt.{length-decimal-le}
use Rattle.std.proofs.lemmas.List.{length-append, take_all}
use Rattle.report.specs.declared.Line.{Line}
use Rattle.report.specs.declared.Line.TheVariants.{Contents, Path, Directory, End, Refused}
use Rattle.report.specs.Lines.{field, fields, text, Usual}

-- numbers one after the other, and the end of the line
fields_joined : (ns : List ℕ) → flat_map field ns ++ (10 ∷ []) ≡ fields ns
fields_joined [] = refl
fields_joined (n ∷ ns) = append_assoc (field n) (flat_map field ns) (10 ∷ []) ∙ ap (λ l. field n ++ l) (fields_joined ns)

-- all the numbers, one after the other, and the end of the line
pub all_fields : (ns : List ℕ) (i : ℕ) → length ns ≤ i → flat_map field (take i ns) ++ (10 ∷ []) ≡ fields ns
all_fields ns i h = ap (λ ms. flat_map field ms ++ (10 ∷ [])) (take_all i ns h) ∙ fields_joined ns

-- how many bytes a number of at most k digits adds
more : (n : ℕ) (ns : List ℕ) (k : ℕ) → 0 < k → n < 10 ^ k → n < 2 ^ 64 → length (fields (n ∷ ns)) ≤ k + 1 + length (fields ns)
more n ns k pos few small = omega (arith, length-append (field n) (fields ns), length-decimal-le k n pos few small)

-- a usual line has at most 32 bytes
pub length_usual : (l : Line) → Usual l → length (text l) ≤ 32
length_usual (Contents a b) u = omega (arith, more a (b ∷ []) 10 (omega arith) u.0 (omega (arith, u.0)), more b [] 10 (omega arith) u.1 (omega (arith, u.1)))
length_usual (Path a b) u = omega (arith, more a (b ∷ []) 10 (omega arith) u.0 (omega (arith, u.0)), more b [] 10 (omega arith) u.1 (omega (arith, u.1)))
length_usual (Directory a b) u = omega (arith, more a (b ∷ []) 10 (omega arith) u.0 (omega (arith, u.0)), more b [] 10 (omega arith) u.1 (omega (arith, u.1)))
length_usual (End a b c) u =
    omega (arith, more a (b ∷ c ∷ []) 8 (omega arith) u.0 (omega (arith, u.0)), more b (c ∷ []) 8 (omega arith) u.1 (omega (arith, u.1)), more c [] 8 (omega arith) u.2 (omega (arith, u.2)))
length_usual (Refused a b) u = omega (arith, more a (b ∷ []) 3 (omega arith) u.0 (omega (arith, u.0)), more b [] 20 (omega arith) (omega (arith, u.1)) u.1)
