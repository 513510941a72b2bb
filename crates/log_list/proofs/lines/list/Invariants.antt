use Rattle.std.proofs.Common.{◌≡◌, take, string_bytes}
use Rattle.std.specs.List.{flat_map}
use Rattle.trace_log.specs.Whole.{record_of}
use Rattle.log_list.specs.Lines.{line}
use Rattle.log_list.proofs.lines.list.Given as goal

abbrev pub invariant-loop-placed : goal.invariant-loop-placed
invariant-loop-placed l = string_bytes l.out ≡ flat_map (λ p. line (record_of p)) (take l.placed-index l.placed-items)
