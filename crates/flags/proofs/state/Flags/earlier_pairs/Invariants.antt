use Rattle.std.proofs.Common.{◌≡◌, reverse, take}
use Rattle.flags.specs.Chains.{row}
use Rattle.flags.proofs.state.Flags.earlier_pairs.Given as goal

abbrev pub invariant-loop-i : goal.invariant-loop-i
invariant-loop-i g l = l.earlier ≡ row (g.O.Order.machine.means (g.O.Order.model l.self.below)) l.post (reverse (take l.i l.pair-items))
