use Rattle.std.proofs.Common.{rules}
use Rattle.paths.proofs.Decided.{form_decides}
use Rattle.paths.proofs.form.is_wellformed.Goals as goal

pub returns-then-not-has_zero-clause-decides : goal.returns-then-not-has_zero-clause-decides
returns-then-not-has_zero-clause-decides c = form_decides _ _ (search rules)

pub returns-else-not-has_zero-clause-decides : goal.returns-else-not-has_zero-clause-decides
returns-else-not-has_zero-clause-decides c = form_decides _ _ (search rules)
