use Rattle.std.proofs.Common.{sym, subst}
use Rattle.makes.specs.Machine.{Build}
use Rattle.makes.proofs.Asked.{Enterable, enterable}
use Rattle.makes.proofs.state.Makes.bear.Goals as goal

pub enter-requires : goal.enter-requires
enter-requires c =
    let e = subst (λ (s : Build). Enterable s.places c.args.place) (sym c.self.view_is) (enterable c.args.number c.args.self.now c.args.process c.args.place _ c.requires.kept) in
    record { within = e.within; few = e.few }
