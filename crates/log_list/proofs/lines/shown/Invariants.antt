use Rattle.log_list.proofs.Texts.{Shown}
use Rattle.log_list.proofs.lines.shown.Given as goal

abbrev pub invariant-loop-b : goal.invariant-loop-b
invariant-loop-b l = Shown l.fn.part l.b-index l.text.items
