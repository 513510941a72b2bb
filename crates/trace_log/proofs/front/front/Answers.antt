use Rattle.std.proofs.Common.{◌≡◌, ◌-◌, ◌++◌, length, take, drop, ◌∙◌, rules}
use Rattle.std.specs.List.{IsSplitAt}
use Rattle.trace_log.specs.Format.{big}
use Rattle.trace_log.proofs.Fronts.{frame_stood}
use Rattle.trace_log.proofs.Numbers.{two_bytes}
use Rattle.trace_log.proofs.front.front.Goals as goal
use Rattle.trace_log.proofs.front.front.Goals.{After-parse}

-- the two bytes of the length, and the rest
sized : (c : After-parse) → c.args.bytes.now ≡ big 2 c.record_size.result ++ take (length c.args.bytes.now - 2) (drop 2 c.args.bytes.now)
sized c = two_bytes c.args.bytes.now _ (search rules) c.type_inv.bytes c.record_size.ensures

-- the record's own bytes, and those after it
cut : (c : After-parse) → IsSplitAt (take (length c.args.bytes.now - 2) (drop 2 c.args.bytes.now)) c.record_size.result c.in_ok-frame.frame.now c.in_ok-frame.after.now
cut c = search rules

pub returns : goal.returns
returns c =
    let at = (goal.at.returns c).After-parse in
    let h = c.in_ok-record.ensures in
    frame_stood _ _ _ _ _ (sized at) (cut at) (search rules) _ (search rules ∙ h.0) h.1
