use Rattle.std.proofs.Common.{◌∙◌}
use Rattle.trace_log.proofs.Joins.{joined_all}
use Rattle.trace_log.proofs.parse.numbers.Goals as goal

pub returns : goal.returns
returns c =
    let told = c.as_chunks.ensures in
    (joined_all _ _ _ _ _ _ told.front told.back (told.back_len ∙ c.requires) c.loop-pair.invariant c.loop-pair-test.false, c.loop-pair.invariant.small)
