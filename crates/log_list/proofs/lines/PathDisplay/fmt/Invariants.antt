use Rattle.std.proofs.Common.{◌∷◌, take}
use Rattle.std.specs.Fmt.{HasWritten, IsPlainFormatter}
use Rattle.std.specs.List.{flat_map}
use Rattle.log_list.specs.Lines.{shown_byte}
use Rattle.log_list.proofs.lines.PathDisplay.fmt.Given as goal

abbrev pub invariant-loop-part : goal.invariant-loop-part
invariant-loop-part g l = IsPlainFormatter l.fn.f → HasWritten g.W.Write.write_str_gives l.fn.f (32 ∷ flat_map (flat_map shown_byte) (take l.part-index l.parts)) l.f
