use Rattle.std.proofs.Common.{◌∷◌, decimal, ap, ◌∙◌}
use Rattle.std.specs.List.{flat_map}
use Rattle.std.proofs.Output.{has_written_of_eq}
use Rattle.std.proofs.lemmas.List.{take_all}
use Rattle.log_list.proofs.Texts.{fields_joined}
use Rattle.log_list.proofs.lines.FieldsDisplay.fmt.Goals as goal

pub returns-clause-writes : goal.returns-clause-writes
returns-clause-writes g c plain ok =
    let ns = c.args.self.now.0.now in
    has_written_of_eq _ _ _ _ _ (ap (flat_map (λ n. 32 ∷ decimal n)) (take_all c.loop-n.n-index ns c.loop-n-test.false) ∙ fields_joined ns) (c.loop-n.invariant plain)
