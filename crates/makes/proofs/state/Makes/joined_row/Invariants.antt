use Rattle.std.proofs.Common.{◌≡◌, take}
use Rattle.makes.specs.Machine.{rows_of}
use Rattle.makes.specs.Rows.{joined_row}
use Rattle.makes.proofs.state.Makes.joined_row.Given as goal

abbrev pub invariant-loop-number : goal.invariant-loop-number
invariant-loop-number l = l.row ≡ joined_row l.self.rows (rows_of l.self l.make (take l.number-index l.prerequisites))
