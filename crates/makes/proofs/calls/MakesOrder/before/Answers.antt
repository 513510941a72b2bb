use Rattle.std.proofs.Common.{sym, subst, rules}
use Rattle.std.proofs.lemmas.Bool.Decides.{Decides-at}
use Rattle.makes.specs.Places.{parents}
use Rattle.makes.specs.Sound.{Sound}
use Rattle.makes.specs.Machine.{Build}
use Rattle.makes.specs.Tree.{Meets}
use Rattle.makes.proofs.Asked.{judgeable}
use Rattle.makes.proofs.Runs.{before_run}
use Rattle.makes.proofs.calls.MakesOrder.before.Goals as goal

pub judge-requires : goal.judge-requires
judge-requires c = record {
  judgeable =
      judgeable c.args.self.now (subst Sound c.self.view_is c.self.invariant.sound) c.args.a c.args.b c.climb-meeting.result (sym c.if-not-known.ensures.answer) (sym c.if-not-known-2.ensures.answer)
      (subst (λ (s : Build). Meets (parents s.places) c.args.a.place c.args.b.place c.climb-meeting.result) c.self.view_is c.climb-meeting.ensures.lowest);
}

pub returns-clause-run : goal.returns-clause-run
returns-clause-run c calls since = Decides-at _ _ (search rules) (before_run calls c.args.self.now since c.args.a c.args.b)
