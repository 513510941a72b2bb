-- The worked rows, with answers worked out by hand from the rules.
use Rattle.std.specs.Prelude.{true, false, List, [], ◌∷◌, ◌++◌, replicate}
use Rattle.order.specs.Events.{birth, make, target, death, post, await}
use Rattle.stages.specs.Machine.{stages, start}
use Rattle.flags.specs.Machine.{flagged, new_flags}
use Rattle.orders_shown.specs.Rows.{tell, stamp, lives, any_lives, known, before, taken, stamped, refused, truth, at, Row}

-- two processes of one stage: the post and the await order what the first did before the one and the second after the other
abbrev pub two_ordered : Row
two_ordered = record {
  order = flagged stages;
  state = new_flags (start 2);
  calls =
      (tell (birth 10 0 1), taken)
      ∷ (tell (birth 11 0 1), taken)
      ∷ (stamp 10, stamped (at 3 1))
      ∷ (stamp 11, stamped (at 4 2))
      ∷ (tell (post 10 1), taken)
      ∷ (tell (await 11 1), taken)
      ∷ (stamp 10, stamped (at 7 1))
      ∷ (stamp 11, stamped (at 8 2))
      ∷ (before (at 3 1) (at 8 2), truth true)
      ∷ (before (at 3 1) (at 5 1), truth true)
      ∷ (before (at 3 1) (at 4 2), truth false)
      ∷ (before (at 7 1) (at 8 2), truth false)
      ∷ (before (at 4 2) (at 7 1), truth false)
      ∷ (before (at 8 2) (at 3 1), truth false)
      ∷ [];
}

-- three processes of one stage and two flags: a chain through both
abbrev pub chain_of_two : Row
chain_of_two = record {
  order = flagged stages;
  state = new_flags (start 3);
  calls =
      (tell (birth 10 0 7), taken)
      ∷ (tell (birth 11 0 7), taken)
      ∷ (tell (birth 12 0 7), taken)
      ∷ (stamp 10, stamped (at 4 1))
      ∷ (tell (post 10 1), taken)
      ∷ (tell (await 11 1), taken)
      ∷ (before (at 4 1) (at 6 3), truth false)
      ∷ (tell (post 11 32), taken)
      ∷ (tell (await 12 32), taken)
      ∷ (stamp 12, stamped (at 9 3))
      ∷ (before (at 4 1) (at 9 3), truth true)
      ∷ (before (at 4 1) (at 7 3), truth false)
      ∷ (before (at 6 2) (at 8 3), truth true)
      ∷ [];
}

-- a flag that is none, is posted twice, or is awaited unposted; the flag's refusal comes before the process's
abbrev pub bad_flags : Row
bad_flags = record {
  order = flagged stages;
  state = new_flags (start 2);
  calls =
      (tell (post 10 0), refused 10)
      ∷ (tell (post 10 33), refused 10)
      ∷ (tell (await 10 5), refused 10)
      ∷ (tell (post 10 5), refused 1)
      ∷ (tell (birth 10 0 1), taken)
      ∷ (tell (post 10 5), taken)
      ∷ (tell (post 10 5), refused 10)
      ∷ (tell (post 99 5), refused 10)
      ∷ (tell (await 99 5), refused 1)
      ∷ (tell (await 10 5), taken)
      ∷ [];
}

-- thirty-two awaits, and no more
abbrev pub awaits_full : Row
awaits_full = record {
  order = flagged stages;
  state = new_flags (start 1);
  calls =
      (tell (birth 10 0 1), taken)
      ∷ (tell (post 10 1), taken)
      ∷ (replicate 32 (tell (await 10 1), taken) ++ (tell (await 10 1), refused 11) ∷ (tell (await 10 2), refused 10) ∷ (stamp 10, stamped (at 35 1)) ∷ []);
}

-- births up to the room that was given; nothing is freed, and a dead process's number may return at a new place
abbrev pub room_for_two : Row
room_for_two = record {
  order = stages;
  state = start 2;
  calls =
      (any_lives, truth false)
      ∷ (tell (birth 0 0 1), refused 2)
      ∷ (tell (birth 10 3 1), refused 9)
      ∷ (tell (birth 10 0 0), refused 9)
      ∷ (tell (birth 10 0 256), refused 9)
      ∷ (tell (birth 10 0 255), taken)
      ∷ (tell (birth 10 0 255), refused 2)
      ∷ (tell (death 10), taken)
      ∷ (lives 10, truth false)
      ∷ (tell (death 10), refused 1)
      ∷ (tell (birth 10 0 1), taken)
      ∷ (stamp 10, stamped (at 4 2))
      ∷ (tell (birth 11 0 1), refused 7)
      ∷ (tell (birth 11 3 0), refused 7)
      ∷ (tell (make 10), refused 9)
      ∷ (tell (target 77 []), refused 9)
      ∷ (tell (post 77 1), refused 9)
      ∷ (tell (await 77 1), refused 9)
      ∷ (any_lives, truth true)
      ∷ (known (at 4 2), truth true)
      ∷ (known (at 4 3), truth false)
      ∷ (known (at 5 1), truth false)
      ∷ (before (at 1 2) (at 4 1), truth true)
      ∷ (before (at 1 1) (at 4 2), truth false)
      ∷ (before (at 1 1) (at 4 1), truth true)
      ∷ [];
}

-- the last of 4,096 births, whatever room was asked for
abbrev pub last_birth : Row
last_birth = record {
  order = stages;
  state = record { number = 8190; room = (start 5000).room; births = replicate 4095 (record { process = 9; at = 1; live = false }) };
  calls =
      (tell (birth 9 0 2), taken)
      ∷ (stamp 9, stamped (at 8192 4096))
      ∷ (tell (birth 8 0 2), refused 7)
      ∷ [];
}

-- the last number
abbrev pub last_stamp : Row
last_stamp = record {
  order = flagged stages;
  state = new_flags (record { number = 999999; room = 9; births = record { process = 9; at = 1; live = true } ∷ [] });
  calls =
      (stamp 9, stamped (at 1000000 1))
      ∷ (stamp 9, refused 8)
      ∷ (stamp 8, refused 1)
      ∷ (tell (birth 8 0 1), refused 8)
      ∷ (tell (birth 9 0 1), refused 2)
      ∷ (tell (death 9), refused 8)
      ∷ (tell (post 9 1), refused 8)
      ∷ (tell (post 9 0), refused 10)
      ∷ [];
}

-- a layer over a layer: the upper one takes the posts and awaits
abbrev pub two_layers : Row
two_layers = record {
  order = flagged (flagged stages);
  state = new_flags (new_flags (start 2));
  calls =
      (tell (birth 10 0 2), taken)
      ∷ (tell (birth 11 0 1), taken)
      ∷ (tell (post 10 1), taken)
      ∷ (tell (await 11 1), taken)
      ∷ (before (at 1 1) (at 4 2), truth true)
      ∷ (before (at 2 2) (at 4 1), truth true)
      ∷ (tell (post 10 1), refused 10)
      ∷ [];
}

abbrev pub worked_rows : List Row
worked_rows = two_ordered ∷ chain_of_two ∷ bad_flags ∷ awaits_full ∷ room_for_two ∷ last_birth ∷ last_stamp ∷ two_layers ∷ []
