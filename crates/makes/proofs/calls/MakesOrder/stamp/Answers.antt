use Rattle.std.proofs.Common.{◌<◌, length, Ok, subst, rules, arith, IfSome}
use Rattle.makes.specs.Machine.{numbered}
use Rattle.makes.specs.Model.{built}
use Rattle.makes.proofs.Asked.{stand_few}
use Rattle.makes.proofs.Runs.{stamp_run}
use Rattle.makes.proofs.calls.MakesOrder.stamp.Goals as goal

pub overflow_cast-result : goal.overflow_cast-result
overflow_cast-result c =
    let within = rw (← c.self.view_is) at c.home.ensures.within in
    let few = stand_few (built c.self.inside) c.self.invariant.sound c.in_ok-home.home (subst (λ o. IfSome o (λ h. h < length c.self.inside.tree.places.items)) c.in_ok-home.ensures.ok_part within) in
    let at = c.stand-place.ensures.answer in
    omega arith

pub returns-clause-run : goal.returns-clause-run
returns-clause-run c calls since = stamp_run calls c.args.self.now since c.args.process (Ok (record { number = c.in_ok-number.number; place = c.stand-place.result })) (numbered c.in_ok-number.number c.args.self.now) (search rules)
