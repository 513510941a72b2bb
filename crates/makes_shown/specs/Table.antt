-- The worked rows of the make order, with answers worked out by hand from the rules. A place's number is its count among the places: 0 is the
-- session, and each make, target and step has the next one.
use Rattle.std.specs.Prelude.{ℕ, zero, suc, true, false, List, [], ◌∷◌, ◌++◌, replicate}
use Rattle.order.specs.Events.{birth, make, target, death, post, await}
use Rattle.births.specs.declared.Birth.{Birth}
use Rattle.makes.specs.declared.places.Kind.TheVariants.{Session}
use Rattle.makes.specs.declared.room.Room.{Room}
use Rattle.makes.specs.Machine.{Build, start}
use Rattle.makes.specs.Order.{make_machine}
use Rattle.flags.specs.Machine.{flagged, new_flags}
use Rattle.orders_shown.specs.Rows.{Ask, tell, stamp, lives, any_lives, known, before, Answer, taken, stamped, refused, truth, at, Row}

-- room for so many births, makes and targets
abbrev pub room : ℕ → ℕ → ℕ → Room
room births makes targets = record { births = births; makes = makes; targets = targets }

-- The example of the rules. Its places: the make of 10 is 1, its targets 2, 3 and 4; the steps S6, S8, S9, S11 and S12 are 5 to 9; the make of 20
-- is 10 and its target 11, the make of 21 is 12 and its target 13; the steps S19 and S22 are 14 and 15.
abbrev pub example : Row
example = record {
  order = make_machine;
  state = start (room 20 3 5);
  calls =
      (tell (birth 10 0 0), taken)
      ∷ (tell (make 10), taken)
      ∷ (tell (target 10 []), taken)
      ∷ (tell (target 10 []), taken)
      ∷ (tell (target 10 (1 ∷ [])), taken)
      ∷ (tell (birth 11 10 1), taken)
      ∷ (tell (death 11), taken)
      ∷ (tell (birth 12 10 2), taken)
      ∷ (tell (birth 13 10 2), taken)
      ∷ (tell (death 12), taken)
      ∷ (tell (birth 14 10 2), taken)
      ∷ (tell (birth 15 10 3), taken)
      ∷ (tell (birth 20 15 0), taken)
      ∷ (tell (make 20), taken)
      ∷ (tell (target 20 []), taken)
      ∷ (tell (birth 21 15 0), taken)
      ∷ (tell (make 21), taken)
      ∷ (tell (target 21 []), taken)
      ∷ (tell (birth 30 20 1), taken)
      ∷ (tell (death 30), taken)
      ∷ (tell (death 20), taken)
      ∷ (tell (birth 31 21 1), taken)
      ∷ (before (at 6 5) (at 12 9), truth true)
      ∷ (before (at 6 5) (at 22 15), truth true)
      ∷ (before (at 6 5) (at 8 6), truth false)
      ∷ (before (at 8 6) (at 11 8), truth true)
      ∷ (before (at 8 6) (at 9 7), truth false)
      ∷ (before (at 19 14) (at 22 15), truth true)
      ∷ (before (at 18 9) (at 19 14), truth true)
      ∷ (before (at 20 9) (at 22 15), truth true)
      ∷ (before (at 20 9) (at 21 14), truth false)
      ∷ (before (at 19 14) (at 20 9), truth false)
      ∷ (before (at 19 14) (at 22 9), truth true)
      ∷ (before (at 5 0) (at 6 5), truth true)
      ∷ (before (at 7 0) (at 8 6), truth false)
      ∷ (before (at 6 5) (at 22 0), truth false)
      ∷ (before (at 12 9) (at 6 5), truth false)
      ∷ (before (at 6 5) (at 23 9), truth false)
      ∷ (known (at 22 15), truth true)
      ∷ (known (at 1 15), truth true)
      ∷ (known (at 22 16), truth false)
      ∷ (known (at 22 1), truth false)
      ∷ (known (at 22 2), truth false)
      ∷ (known (at 0 0), truth false)
      ∷ (known (at 23 0), truth false)
      ∷ (stamp 10, stamped (at 23 0))
      ∷ (stamp 21, stamped (at 24 9))
      ∷ (stamp 31, stamped (at 25 15))
      ∷ (stamp 30, refused 1)
      ∷ [];
}

-- Makes below the session, that of 1 at place 1 and that of 2 at 2: they overlap, and that of 5 at 7 starts after the first has ended.
abbrev pub side_by_side : Row
side_by_side = record {
  order = make_machine;
  state = start (room 20 5 5);
  calls =
      (any_lives, truth false)
      ∷ (tell (birth 1 0 0), taken)
      ∷ (tell (make 1), taken)
      ∷ (tell (birth 2 0 0), taken)
      ∷ (tell (make 2), taken)
      ∷ (tell (target 1 []), taken)
      ∷ (tell (target 2 []), taken)
      ∷ (tell (birth 3 1 1), taken)
      ∷ (tell (birth 4 2 1), taken)
      ∷ (tell (death 3), taken)
      ∷ (before (at 7 5) (at 9 0), truth false)
      ∷ (tell (death 1), taken)
      ∷ (before (at 7 5) (at 10 0), truth false)
      ∷ (before (at 7 5) (at 10 6), truth false)
      ∷ (tell (birth 5 0 0), taken)
      ∷ (tell (make 5), taken)
      ∷ (tell (target 5 []), taken)
      ∷ (tell (birth 6 5 1), taken)
      ∷ (before (at 7 5) (at 11 0), truth true)
      ∷ (before (at 7 5) (at 14 9), truth true)
      ∷ (before (at 8 6) (at 14 9), truth false)
      ∷ (before (at 13 0) (at 14 9), truth true)
      ∷ (before (at 6 0) (at 8 5), truth true)
      ∷ (before (at 7 0) (at 8 5), truth false)
      ∷ (lives 3, truth false)
      ∷ (lives 4, truth true)
      ∷ (any_lives, truth true)
      ∷ [];
}

-- Two makes below one step, which is place 3: that of 20 at place 4 with its step 8, and that of 21 at 6 with its step 9. They overlap, so
-- neither is before the other, also when the first has ended.
abbrev pub under_one_step : Row
under_one_step = record {
  order = make_machine;
  state = start (room 20 5 5);
  calls =
      (tell (birth 10 0 0), taken)
      ∷ (tell (make 10), taken)
      ∷ (tell (target 10 []), taken)
      ∷ (tell (birth 11 10 1), taken)
      ∷ (tell (birth 20 11 0), taken)
      ∷ (tell (make 20), taken)
      ∷ (tell (target 20 []), taken)
      ∷ (tell (birth 21 11 0), taken)
      ∷ (tell (make 21), taken)
      ∷ (tell (target 21 []), taken)
      ∷ (tell (birth 30 20 1), taken)
      ∷ (stamp 30, stamped (at 12 8))
      ∷ (tell (birth 31 21 1), taken)
      ∷ (stamp 31, stamped (at 14 9))
      ∷ (before (at 12 8) (at 14 9), truth false)
      ∷ (tell (death 30), taken)
      ∷ (tell (death 20), taken)
      ∷ (stamp 31, stamped (at 17 9))
      ∷ (before (at 12 8) (at 17 9), truth false)
      ∷ (before (at 12 8) (at 17 3), truth true)
      ∷ (before (at 12 8) (at 16 3), truth false)
      ∷ (before (at 10 3) (at 12 8), truth true)
      ∷ (before (at 11 3) (at 12 8), truth false)
      ∷ [];
}

-- Four targets of the make of 1: the second needs the first, the third the second, the fourth nothing. Their steps are 6 to 9.
abbrev pub prerequisites : Row
prerequisites = record {
  order = make_machine;
  state = start (room 20 2 9);
  calls =
      (tell (birth 1 0 0), taken)
      ∷ (tell (make 1), taken)
      ∷ (tell (target 1 (1 ∷ [])), refused 5)
      ∷ (tell (target 1 []), taken)
      ∷ (tell (target 1 (1 ∷ [])), taken)
      ∷ (tell (target 1 (3 ∷ [])), refused 5)
      ∷ (tell (target 1 (1 ∷ 0 ∷ [])), refused 5)
      ∷ (tell (target 1 (2 ∷ 2 ∷ [])), taken)
      ∷ (tell (target 1 []), taken)
      ∷ (tell (birth 2 1 1), taken)
      ∷ (tell (birth 3 1 2), taken)
      ∷ (tell (birth 4 1 3), taken)
      ∷ (tell (birth 5 1 4), taken)
      ∷ (before (at 7 6) (at 8 7), truth true)
      ∷ (before (at 7 6) (at 9 8), truth true)
      ∷ (before (at 8 7) (at 9 8), truth true)
      ∷ (before (at 7 6) (at 10 9), truth false)
      ∷ (before (at 8 7) (at 10 6), truth false)
      ∷ (before (at 8 8) (at 9 7), truth false)
      ∷ (before (at 8 6) (at 8 7), truth false)
      ∷ [];
}

-- Each refusal, the first check that fails before the later ones.
abbrev pub refusals : Row
refusals = record {
  order = make_machine;
  state = start (room 3 1 1);
  calls =
      (tell (birth 0 0 0), refused 2)
      ∷ (tell (birth 0 9 0), refused 1)
      ∷ (tell (birth 1 1 0), refused 1)
      ∷ (tell (birth 1 0 1), refused 3)
      ∷ (tell (birth 1 0 0), taken)
      ∷ (tell (birth 1 1 0), refused 2)
      ∷ (tell (birth 1 9 1), refused 1)
      ∷ (tell (birth 2 1 1), refused 3)
      ∷ (tell (target 1 []), refused 3)
      ∷ (tell (make 9), refused 1)
      ∷ (tell (make 1), taken)
      ∷ (tell (make 1), refused 4)
      ∷ (tell (birth 2 1 1), refused 5)
      ∷ (tell (target 1 []), taken)
      ∷ (tell (target 1 []), refused 7)
      ∷ (tell (target 1 (2 ∷ [])), refused 5)
      ∷ (tell (target 9 (2 ∷ [])), refused 1)
      ∷ (tell (birth 2 1 2), refused 5)
      ∷ (tell (birth 2 1 1), taken)
      ∷ (tell (make 2), refused 7)
      ∷ (tell (birth 3 2 1), refused 3)
      ∷ (tell (birth 3 2 0), taken)
      ∷ (tell (birth 4 1 1), refused 7)
      ∷ (tell (birth 4 1 2), refused 5)
      ∷ (tell (death 4), refused 1)
      ∷ (stamp 4, refused 1)
      ∷ (tell (post 1 1), refused 9)
      ∷ (tell (await 9 99), refused 9)
      ∷ (stamp 3, stamped (at 6 3))
      ∷ [];
}

-- A number that returns is another process: it has the place of its own birth, the step 3, and is no make. The old make, at 1, ends only when
-- nobody lives below it.
abbrev pub returning : Row
returning = record {
  order = make_machine;
  state = start (room 9 9 9);
  calls =
      (tell (birth 1 0 0), taken)
      ∷ (tell (make 1), taken)
      ∷ (tell (target 1 []), taken)
      ∷ (tell (birth 2 1 1), taken)
      ∷ (tell (death 1), taken)
      ∷ (lives 1, truth false)
      ∷ (tell (birth 3 1 1), refused 1)
      ∷ (tell (birth 1 2 0), taken)
      ∷ (stamp 1, stamped (at 7 3))
      ∷ (tell (target 1 []), refused 3)
      ∷ (tell (birth 3 1 1), refused 3)
      ∷ (tell (make 1), taken)
      ∷ (tell (death 2), taken)
      ∷ (tell (birth 7 0 0), taken)
      ∷ (before (at 4 3) (at 10 0), truth false)
      ∷ (tell (death 1), taken)
      ∷ (before (at 4 3) (at 11 0), truth false)
      ∷ (stamp 7, stamped (at 12 0))
      ∷ (before (at 4 3) (at 12 0), truth true)
      ∷ (before (at 3 0) (at 4 3), truth true)
      ∷ (before (at 4 0) (at 5 3), truth false)
      ∷ [];
}

-- the first of the nested makes stands below the session, each other one below the first target of the make before it
abbrev pub target_from : ℕ → ℕ
target_from zero = 0
target_from (suc k) = 1

-- the processes 1 to k, each a make inside the one before it, with one target
abbrev pub nested : ℕ → List (Ask × Answer)
nested zero = []
nested (suc k) = nested k ++ (tell (birth (suc k) k (target_from k)), taken) ∷ (tell (make (suc k)), taken) ∷ (tell (target (suc k) []), taken) ∷ []

-- Sixteen makes, one inside the other, and no seventeenth. The process 17 is 48 levels below the session, at place 48.
abbrev pub sixteen_deep : Row
sixteen_deep = record {
  order = make_machine;
  state = start (room 20 20 20);
  calls =
      nested 16
      ++ (tell (birth 17 16 1), taken)
      ∷ (tell (make 17), refused 6)
      ∷ (stamp 17, stamped (at 50 48))
      ∷ (stamp 16, stamped (at 51 45))
      ∷ (tell (birth 18 16 0), taken)
      ∷ (tell (make 18), taken)
      ∷ (before (at 3 0) (at 50 48), truth true)
      ∷ (before (at 4 0) (at 50 48), truth false)
      ∷ (before (at 48 45) (at 50 48), truth true)
      ∷ (before (at 49 45) (at 50 48), truth false)
      ∷ (before (at 50 48) (at 52 48), truth true)
      ∷ [];
}

-- the processes 1 to k, each born at the session and a make
abbrev pub many : ℕ → List (Ask × Answer)
many zero = []
many (suc k) = many k ++ (tell (birth (suc k) 0 0), taken) ∷ (tell (make (suc k)), taken) ∷ []

-- Sixty-four makes, whatever room was asked for, and no more.
abbrev pub all_makes : Row
all_makes = record {
  order = make_machine;
  state = start (room 100 100 1);
  calls = many 64 ++ (tell (birth 65 0 0), taken) ∷ (tell (make 65), refused 7) ∷ (stamp 65, stamped (at 130 0)) ∷ [];
}

-- 512 targets, whatever room was asked for, and no more: those of all makes count together.
abbrev pub all_targets : Row
all_targets = record {
  order = make_machine;
  state = start (room 4 2 600);
  calls =
      (tell (birth 1 0 0), taken)
      ∷ (tell (make 1), taken)
      ∷ (tell (birth 2 0 0), taken)
      ∷ (tell (make 2), taken)
      ∷ (replicate 256 (tell (target 1 []), taken)
      ++ replicate 256 (tell (target 2 []), taken)
      ++ (tell (target 1 []), refused 7)
      ∷ (tell (target 2 (256 ∷ [])), refused 7)
      ∷ (tell (target 2 (257 ∷ [])), refused 5)
      ∷ (tell (birth 3 2 257), refused 5)
      ∷ (tell (birth 3 2 256), taken)
      ∷ (stamp 3, stamped (at 518 515))
      ∷ []);
}

-- the session alone, with these births, of which so many live, at this number
abbrev pub at_session : ℕ → Room → List (Birth ℕ) → ℕ → Build
at_session number left births live = record {
  number = number;
  room = left;
  births = births;
  places = record { parent = 0; depth = 0; live = live; kind = Session } ∷ [];
  makes = 0;
  slots = replicate left.makes 0;
  rows = [];
}

-- The last of 4,096 births, whatever room was asked for.
abbrev pub last_birth : Row
last_birth = record {
  order = make_machine;
  state = at_session 8190 (start (room 5000 1 1)).room (replicate 4095 (record { process = 9; at = 0; live = false })) 0;
  calls = (tell (birth 9 0 0), taken) ∷ (stamp 9, stamped (at 8192 0)) ∷ (tell (birth 8 9 0), refused 7) ∷ [];
}

-- The last number.
abbrev pub last_stamp : Row
last_stamp = record {
  order = make_machine;
  state = at_session 999999 (room 9 9 1) (record { process = 9; at = 0; live = true } ∷ []) 1;
  calls =
      (stamp 9, stamped (at 1000000 0))
      ∷ (stamp 9, refused 8)
      ∷ (stamp 8, refused 1)
      ∷ (tell (birth 8 9 0), refused 8)
      ∷ (tell (birth 9 9 0), refused 2)
      ∷ (tell (make 9), refused 8)
      ∷ (tell (target 9 []), refused 3)
      ∷ (tell (death 9), refused 8)
      ∷ (tell (post 9 1), refused 9)
      ∷ (any_lives, truth true)
      ∷ [];
}

-- With the flags layer over it: two targets that no prerequisite orders, and a post and an await that do. The steps are 4 and 5.
abbrev pub with_flags : Row
with_flags = record {
  order = flagged make_machine;
  state = new_flags (start (room 9 9 9));
  calls =
      (tell (birth 1 0 0), taken)
      ∷ (tell (make 1), taken)
      ∷ (tell (target 1 []), taken)
      ∷ (tell (target 1 []), taken)
      ∷ (tell (birth 2 1 1), taken)
      ∷ (tell (birth 3 1 2), taken)
      ∷ (before (at 5 4) (at 6 5), truth false)
      ∷ (tell (post 2 1), taken)
      ∷ (tell (await 3 1), taken)
      ∷ (stamp 3, stamped (at 9 5))
      ∷ (before (at 5 4) (at 9 5), truth true)
      ∷ (before (at 5 4) (at 7 5), truth false)
      ∷ (before (at 8 4) (at 9 5), truth false)
      ∷ [];
}

abbrev pub worked_rows : List Row
worked_rows = example ∷ side_by_side ∷ under_one_step ∷ prerequisites ∷ refusals ∷ returning ∷ sixteen_deep ∷ all_makes ∷ all_targets ∷ last_birth ∷ last_stamp ∷ with_flags ∷ []
