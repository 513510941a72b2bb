use Rattle.std.proofs.Common.{sym, ◌∙◌, rules}
use Rattle.std.proofs.lemmas.Iterator.{YieldsList-from_slice}
use Rattle.std.proofs.lemmas.Iterator.Search.{any_from_yields_List}
use borrow.Author.Tests.{tests}
use Rattle.histories.proofs.checks.failed_lookup.Goals as goal

pub returns : goal.returns
returns g c =
    let before = (g.O.Order.machine.means (g.O.Order.model c.args.order.now)).before in
    let asked =
    any_from_yields_List (λ t. before t c.args.lookup) _ _ c.any.result c.any.ensures.ran (YieldsList-from_slice c.args.attempts.now cc) (λ t b f is. search (rules, tests)) in
    record { answer = rw (sym asked ∙ c.if-any.false) (c.copied.ensures ∙ c.last.ensures.value) }
