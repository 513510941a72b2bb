use Rattle.std.proofs.Output.{has_written_of_eq, has_written_append}
use Rattle.log_list.proofs.Texts.{parts_all}
use Rattle.log_list.proofs.lines.PathDisplay.fmt.Goals as goal

pub returns-clause-writes : goal.returns-clause-writes
returns-clause-writes g c plain ok =
    let before = c.loop-part.invariant plain in
    let told = c.as_chunks.ensures in
    has_written_of_eq _ _ _ _ _ (parts_all _ _ _ _ _ told.front told.back c.loop-part-test.false) (has_written_append _ _ _ _ _ _ before (c.write_part-2.ensures before.plain ok))
