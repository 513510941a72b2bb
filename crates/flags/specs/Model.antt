-- The state of the machine that the program's state stands for.
use Rattle.std.specs.Prelude.{vec_items}
use Rattle.flags.specs.declared.state.Flags.{Flags}
use Rattle.flags.specs.Machine.{Flagged}

abbrev pub flag_model : {O S : Type 0} → (O → S) → Flags O → Flagged S
flag_model model f = record { below = model f.below; posts = f.posts; pairs = vec_items f.pairs }
