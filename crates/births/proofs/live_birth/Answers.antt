use Rattle.std.proofs.Common.{rules, reverse, ap, ◌∙◌}
use Rattle.births.specs.Births.{live_birth}
use Rattle.births.proofs.Search.{found}
use Rattle.births.proofs.live_birth.Goals as goal

pub returns-clause-answer : goal.returns-clause-answer
returns-clause-answer g c =
    let ran = c.rposition.ensures.ran in
    found _ _ c.args.process (λ x b q k. search rules) c.iter.result c.rposition.result ran.0 ran.1 ran.2 _ ran.3 ran.4 ran.5
    ∙ ap (λ xs. live_birth (reverse xs) c.args.process) c.iter.ensures.rest
