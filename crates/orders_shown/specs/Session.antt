-- The calls of the session that is shown, newest first.
use Rattle.std.specs.Prelude.{List, [], ◌∷◌}
use Rattle.order.specs.Events.{birth, post, await}
use Rattle.order.specs.Runs.{Call, tell}

abbrev pub session : List Call
session = tell (await 11 1) ∷ tell (post 10 1) ∷ tell (birth 11 0 1) ∷ tell (birth 10 0 1) ∷ []
