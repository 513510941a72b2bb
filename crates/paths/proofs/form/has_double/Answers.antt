use Rattle.std.proofs.Common.{arith}
use Rattle.std.proofs.lemmas.Bool.Decides.{same_from_decides}
use Rattle.std.proofs.lemmas.Grind.{common_steps}
use Rattle.paths.specs.Forms.{doubled}
use Rattle.paths.proofs.Decided.{doubled_decides}
use Rattle.paths.proofs.form.has_double.Goals as goal

pub returns : goal.returns
returns c = let bs = c.args.bytes.now in same_from_decides c.any.result (doubled bs) (λ yes. grind (arith, common_steps), λ h. grind (arith, common_steps)) (doubled_decides bs)
