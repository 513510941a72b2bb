-- What clauses read of a borrowed path: its bytes.
use Rattle.std.specs.Prelude.{ℕ, List}
use Rattle.paths.specs.declared.borrowed.Path.{Path}

abbrev pub path_bytes : Path → List ℕ
path_bytes p = p.bytes.now
