use Rattle.std.proofs.lemmas.Bool.Decides.{Decides-at}
use Rattle.order.proofs.Runs.{ran_lives}
use Rattle.order.proofs.lives_since.Goals as goal

pub returns-clause-run : goal.returns-clause-run
returns-clause-run g c = λ s calls valid nobody ran. Decides-at _ _ c.lives.ensures.answer (ran_lives g.O.Order.machine g.met.O.Order.right s valid nobody ran c.args.process)
