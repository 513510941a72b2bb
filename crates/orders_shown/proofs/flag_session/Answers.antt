use Rattle.std.proofs.Common.{[], sym, refl, ap, ◌∙◌, subst, arith}
use Rattle.order.proofs.Runs.{told_more, ran_valid}
use Rattle.order.specs.Events.{birth, post, await}
use Rattle.order.specs.Machine.{Machine}
use Rattle.order.specs.Runs.{Ran, none}
use Rattle.stages.specs.Law.{stages_right}
use Rattle.stages.specs.Machine.{stages, start}
use Rattle.flags.specs.Law.{flagged_right, new_sound}
use Rattle.flags.specs.Machine.{flagged, new_flags}
use Rattle.orders_shown.proofs.flag_session.Goals as goal

pub returns : goal.returns
returns c =
    let m : Machine = flagged stages in
    let s : m.State = new_flags (start 2) in
    let new = c.in_ok-order.ensures.start ∙ ap new_flags c.in_ok-stages.ensures.start in
    let r = subst (Ran m s []) (sym new) none in
    let r1 = told_more m s (birth 10 0 1) r c.birth.ensures.value c.tell.ensures.answer c.unwrap.ensures in
    let r2 = told_more m s (birth 11 0 1) r1 c.birth-2.ensures.value c.tell-2.ensures.answer c.unwrap-2.ensures in
    let r3 = told_more m s (post 10 1) r2 c.post.ensures.value c.tell-3.ensures.answer c.unwrap-3.ensures in
    let r4 = told_more m s (await 11 1) r3 c.wait.ensures.value c.tell-4.ensures.answer c.unwrap-4.ensures in
    record { run = r4; valid = ran_valid m (flagged_right stages stages_right) s (new_sound stages (start 2) (omega arith) s refl) r4 }
