-- The make order: its machine, with what reachable states keep.
use Rattle.std.specs.Prelude.{nat_lt}
use Rattle.order.specs.Machine.{Machine}
use Rattle.makes.specs.Machine.{Build, tell_make_order, stamp_make_order, meaning}
use Rattle.makes.specs.Places.{place_at}
use Rattle.makes.specs.Sound.{Sound}

abbrev pub make_machine : Machine
make_machine = record {
  State = Build;
  tell = tell_make_order;
  stamp = stamp_make_order;
  any = λ s. nat_lt 0 (place_at s.places 0).live;
  means = meaning;
  valid = Sound;
}
