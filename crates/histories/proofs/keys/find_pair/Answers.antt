use Rattle.std.proofs.Common.{sym}
use Rattle.histories.specs.Keys.{same_pair}
use Rattle.histories.proofs.Search.{found_position}
use Rattle.histories.proofs.keys.find_pair.Goals as goal

pub returns : goal.returns
returns g c =
    found_position (λ row. row.key) (λ held. same_pair held c.args.pair) _ c.args.rows.now c.find.result c.find.ensures (λ row b e. sym e)
