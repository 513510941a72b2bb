use Rattle.std.proofs.Common.{◌≤◌, length, ◌∙◌, arith}
use Rattle.flags.proofs.Loops.{row_with, row_without}
use Rattle.flags.proofs.state.Flags.earlier_pairs.Goals as goal
use Rattle.flags.proofs.state.Flags.earlier_pairs.Goals.{then-leads_to, else-leads_to}

pub loop-i-preserved : goal.loop-i-preserved
loop-i-preserved g c =
    let x = g.O.Order.machine.means (g.O.Order.model c.args.self.now.below) in
    let pairs = c.deref-pair-items.result.now in
    let few : length pairs ≤ 32 = omega (arith, c.deref-pair-items.ensures.len) in
    elim c.if-leads_to.branch [
      | then-leads_to w ↦ w.earlier-is ∙ row_with x c.args.post pairs c.loop-i.i _ c.loop-i-test.true c.loop-i.earlier few w.if-leads_to.ensures.answer c.loop-i.invariant
      | else-leads_to w ↦ w.earlier-is ∙ row_without x c.args.post pairs c.loop-i.i _ c.loop-i-test.true c.loop-i.earlier w.if-leads_to.ensures.answer c.loop-i.invariant
    ]
