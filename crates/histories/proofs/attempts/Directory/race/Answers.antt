use Rattle.histories.proofs.Found.{looked_found}
use Rattle.histories.proofs.attempts.Directory.race.Goals as goal

pub returns-clause-law : goal.returns-clause-law
returns-clause-law c = λ x uses run. looked_found x run
