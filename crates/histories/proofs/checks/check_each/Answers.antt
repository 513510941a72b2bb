use Rattle.std.proofs.Common.{◌≡◌, ◌-◌, ◌^◌, min, reverse, length, refl, ◌∙◌, rules, arith}
use Rattle.std.proofs.lemmas.Fn.{fold_over}
use Rattle.std.proofs.lemmas.Iterator.Adapters.{YieldsList-from_rev_slice}
use Rattle.std.proofs.lemmas.List.{length-reverse, length_push}
use Rattle.std.specs.Iterator.Adapters.{rev_steps}
use Rattle.std.specs.Slice.Iter.{iter_steps_back}
use Rattle.histories.specs.declared.accesses.Checked.{Checked}
use Rattle.histories.specs.Histories.{first_failing}
use Rattle.histories.proofs.Asked.{one_more}
use Rattle.histories.proofs.checks.check_each.Goals as goal

pub returns : goal.returns
returns g c =
    let before = (g.O.Order.machine.means (g.O.Order.model c.args.order.now)).before in
    let earlier = c.args.earlier.now in
    let found : (c.fold.result.checks ≡ min (length (reverse earlier)) (2 ^ 64 - 1)) × (c.fold.result.failed ≡ first_failing before (reverse earlier) c.args.new) =
    fold_over (rev_steps iter_steps_back) (λ t. t.now) _ (λ ts (f : Checked). (f.checks ≡ min (length ts) (2 ^ 64 - 1)) × (f.failed ≡ first_failing before ts c.args.new)) _
    (λ ts f t r f' is k. let more = one_more before c.args.new ts t.now in let long = length_push ts t.now in search rules)
    c.rev.result _ _ _ (YieldsList-from_rev_slice earlier cc).runs (refl, refl) c.fold.ensures.ran in
    let count = length-reverse earlier in
    let few = c.iter.ensures.bound in
    let same : c.fold.result.checks ≡ length (reverse earlier) = omega (arith, found.0, count, few, c.iter.ensures.len) in
    record { answer = λ i. record { checks = same i; failed = found.1 i } }
