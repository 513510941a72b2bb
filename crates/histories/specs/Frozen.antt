-- The order of this crate's tests: at rest, with nobody alive.
use Rattle.std.specs.Prelude.{Bool, false, ◌&&◌, Err, nat_le, nat_lt}
use Rattle.faults.specs.declared.OrderFault.TheVariants.{NotLive, Unfit}
use Rattle.order.specs.declared.Timestamp.{Timestamp}
use Rattle.order.specs.Machine.{Machine}
use Rattle.order.specs.Meaning.{Meaning}

abbrev pub given_out : Timestamp → Bool
given_out t = nat_le 1 t.number && nat_le t.number 1000

-- the earlier is before the later unless its place is higher
abbrev pub at_rest : Meaning
at_rest = record {
  number = 1000;
  lives = λ _. false;
  known = given_out;
  before = λ a b. given_out a && given_out b && nat_lt a.number b.number && nat_le a.place b.place;
}

abbrev pub frozen : Machine
frozen = record {
  State = Unit {0};
  tell = λ _ _. Err Unfit;
  stamp = λ _ _. Err NotLive;
  any = λ _. false;
  means = λ _. at_rest;
  valid = λ _. Unit {0};
}
