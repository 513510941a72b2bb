-- The two conflict rules: their critical kinds, and the letters that they report under.
use Rattle.std.specs.Prelude.{ℕ, Bool, true, false}
use Rattle.histories.specs.declared.accesses.Kind.{Kind}
use Rattle.histories.specs.declared.accesses.Kind.TheVariants.{Read, Write, Removal, FailedCreation}

-- contents: writes
abbrev pub contents_critical : Kind → Bool
contents_critical Read = false
contents_critical Write = true
contents_critical Removal = false
contents_critical FailedCreation = false

-- the letter C
abbrev pub contents_letter : ℕ
contents_letter = 67

-- path: removals
abbrev pub path_critical : Kind → Bool
path_critical Read = false
path_critical Write = false
path_critical Removal = true
path_critical FailedCreation = false

-- the letter P
abbrev pub path_letter : ℕ
path_letter = 80
