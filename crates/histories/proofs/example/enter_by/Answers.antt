use Rattle.std.proofs.Common.{◌≡◌, ℕ, ◌+◌, Bool, List, [], ◌∷◌, ◌++◌, Ok}
use Rattle.order.specs.Machine.{Machine}
use Rattle.order.specs.Right.{Right}
use Rattle.histories.specs.declared.accesses.Access.{Access}
use Rattle.histories.specs.declared.accesses.Checked.{Checked}
use Rattle.histories.specs.declared.accesses.Kind.{Kind}
use Rattle.histories.specs.Histories.{Kept, finds, enter}
use Rattle.histories.specs.Judged.{Entered, moved, more}
use Rattle.histories.proofs.example.enter_by.Goals as goal

-- a timestamp, and the access at it
one_more : (m : Machine) → Right m → (critical : Kind → Bool) (s t : m.State) (p : ℕ) (a : Access) → m.valid s → m.stamp s p ≡ Ok (a.at, t)
    → (k l o : Kept) (d : Checked) → l ≡ k → d ≡ finds critical (m.means t).before l a → o ≡ enter critical (m.means t).before l a
    → (es : List Access) (n : ℕ) → Entered critical (m.means s) es k n → Entered critical (m.means t) (es ++ a ∷ []) o (n + d.checks)
one_more m right critical s t p a v stamped k l o d same f h es n before =
    let x = right.given s p a.at t v stamped in
    rw (h, f, same) (more (moved before x.advanced) a x.known)

pub returns-clause-valid : goal.returns-clause-valid
returns-clause-valid g c = λ v. (g.met.O.Order.right.given _ _ _ _ v c.in_ok-at.ensures.answer).valid

pub returns-clause-more : goal.returns-clause-more
returns-clause-more g c = λ v.
    one_more g.O.Order.machine g.met.O.Order.right (g.R.ConflictRule.critical c.args.rule.now) _ _ _ (record { kind = c.args.kind; at = c.in_ok-at.at })
    v c.in_ok-at.ensures.answer _ _ _ c.enter-found.result c.reserve.ensures.same c.enter-found.ensures.value c.enter-found.ensures.after
