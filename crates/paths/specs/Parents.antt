-- The parent of a path: as a definition that computes, and as a relation in words.
use Rattle.std.specs.Prelude.{◌≡◌, ℕ, ◌<◌, ◌≤◌, cond, List, [], ◌∷◌, ◌++◌, length, take, Some, None, Option, ◌≢◌, slice_index}
use Rattle.std.specs.Str.{bytes_eq}
use Rattle.paths.specs.Forms.{slash, has}

-- the path "/"
abbrev pub root : List ℕ
root = slash ∷ []

-- the path of a name in a directory: a slash stands between the two, unless the directory is "/"
abbrev pub within : List ℕ → List ℕ → List ℕ
within up name = cond (bytes_eq up root) (up ++ name) (up ++ slash ∷ name)

-- path lies in the directory up: it is the path of some name in up
pub record LiesIn (path up : List ℕ) : Type 0 where
  pub name : List ℕ
  pub joined : path ≡ within up name
  -- the name is not empty and has no slash
  pub some : 1 ≤ length name
  pub no_slash : (k : ℕ) → k < length name → slice_index name k ≢ slash
  -- up is a front part of path, so that it can be borrowed from it
  pub front : up ≡ take (length up) path

-- the part before the last slash: the bytes that a slash still follows
abbrev pub before_last : List ℕ → List ℕ
before_last [] = []
before_last (b ∷ bs) = cond (has slash bs) (b ∷ before_last bs) []

-- the bytes, or "/" if there are none
abbrev pub or_root : List ℕ → List ℕ
or_root [] = root
or_root (b ∷ bs) = b ∷ bs

-- the parent: the part before the last slash, or "/" if that part is empty; "/" has none
abbrev pub parent : List ℕ → Option (List ℕ)
parent bs = cond (bytes_eq bs root) None (Some (or_root (before_last bs)))
