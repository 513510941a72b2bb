use Rattle.std.proofs.Common.{rules}
use Rattle.log_list.proofs.Texts.{shown_more}
use Rattle.log_list.proofs.lines.shown.Goals as goal

pub loop-b-preserved : goal.loop-b-preserved
loop-b-preserved c = shown_more _ _ _ _ c.loop-b-test.true (search rules) c.loop-b.invariant c.push_byte.ensures
