use Rattle.std.proofs.Common.{rules}
use Rattle.trace_log.proofs.Joins.{target_body}
use Rattle.trace_log.proofs.parse.target.Goals as goal

pub returns : goal.returns
returns c =
    target_body _ _ _ _ _ c.in_ok-process.ensures c.in_ok-count.ensures (search rules) (search rules) _ c.in_ok-prerequisites.ensures.0 c.in_ok-prerequisites.ensures.1
    (search rules)
