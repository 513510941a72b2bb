use Rattle.std.proofs.Common.{arith, ◌≡◌, length, ℕ, Some, None}
use Rattle.std.proofs.lemmas.Grind.{common_steps}
use Rattle.paths.specs.Parents.{before_last}
use Rattle.paths.proofs.Parted.{last_at, no_last}
use Rattle.paths.proofs.borrowed.methods.parent_len.Goals as goal

pub returns-clause-value : goal.returns-clause-value
returns-clause-value c =
    let bs = c.args.bytes.now in
    let there : (i : ℕ) → c.memrchr.result ≡ Some i → i ≡ length (before_last bs) =
    λ i e. last_at bs i (grind (arith, common_steps)) (grind (arith, common_steps)) (λ k l m h. grind (arith, common_steps)) in
    let none : c.memrchr.result ≡ None → 0 ≡ length (before_last bs) = λ e. no_last bs (λ k l h. grind (arith, common_steps)) in
    grind (arith, common_steps)
