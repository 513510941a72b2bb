use Rattle.std.proofs.Common.{◌≡◌, ◌≤◌, reverse, length}
use Rattle.flags.specs.Chains.{through}
use Rattle.flags.proofs.state.Flags.leads_through.Given as goal

abbrev pub invariant-loop-i : goal.invariant-loop-i
invariant-loop-i g l =
    let x = g.O.Order.machine.means (g.O.Order.model l.self.below) in
    let rest = l.i-iterator.iter.iter.rest.now in
    (through x l.a l.b l.wanted (reverse rest) ≡ through x l.a l.b 0 (reverse l.self.pairs.items)) × (l.i-iterator.iter.count ≡ 0) × (length rest ≤ 32)
