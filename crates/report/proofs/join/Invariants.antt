use Rattle.std.proofs.Common.{◌≡◌, ◌≤◌, ◌+◌, ◌*◌, ◌∷◌, length, take}
use Rattle.std.specs.List.{flat_map}
use Rattle.report.specs.Lines.{field}
use Rattle.report.proofs.join.Given as goal

abbrev pub invariant-loop-n : goal.invariant-loop-n
invariant-loop-n l =
    (l.line.bytes ≡ l.fn.letter ∷ flat_map field (take l.n-index l.fn.numbers)) × (length l.line.bytes ≤ 1 + 21 * l.n-index)
