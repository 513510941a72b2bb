use Rattle.std.proofs.Common.{ap, ◌∙◌}
use Rattle.makes.specs.Machine.{Build}
use Rattle.makes.proofs.Runs.{number_run, orderly_run}
use Rattle.makes.proofs.calls.MakesOrder.number.Goals as goal

pub returns-clause-run : goal.returns-clause-run
returns-clause-run c calls since = (ap (λ (s : Build). s.number) c.self.view_is ∙ number_run calls c.args.self.now since, orderly_run calls c.args.self.now since)
