use Rattle.std.proofs.Common.{rules}
use Rattle.flags.specs.Law.{new_sound}
use Rattle.flags.proofs.state.Flags.new.Goals as goal

pub returns-clause-valid : goal.returns-clause-valid
returns-clause-valid g c = λ v. new_sound g.O.Order.machine (g.O.Order.model c.args.below) v _ (search rules)
