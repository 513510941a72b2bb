-- Over a run, the whole state is what the calls tell.
use Rattle.std.proofs.Common.{◌≡◌, ℕ, zero, suc, ◌+◌, ◌≤◌, eqb, List, [], ◌∷◌, get_or, IfOk, Some, None, Option, sym, refl, subst, arith, MatchOption}
use Rattle.std.proofs.lemmas.Result.{IfOk-at_ok}
use Rattle.std.specs.Option.{option_map}
use Rattle.faults.specs.declared.OrderFault.TheVariants.{UsedUp}
use Rattle.order.proofs.Checks.{passing, still_counted}
use Rattle.order.specs.declared.Timestamp.{Timestamp}
use Rattle.order.specs.Events.{Told}
use Rattle.order.specs.Meaning.{last_number}
use Rattle.order.specs.Right.{EventTaken}
use Rattle.order.specs.Runs.{Call, tell, stamp, Ran, none, told, given}
use Rattle.makes.specs.declared.room.Room.{Room}
use Rattle.makes.specs.Machine.{Build, start, found, counted, stamp_from}
use Rattle.makes.specs.Order.{make_machine}
use Rattle.makes.specs.Places.{target as a_target, no_place, shape, stand, birth_at}
use Rattle.makes.specs.Sound.{Sound}
use Rattle.makes.specs.Deaths.{counted_sound, counted_later}
use Rattle.makes.specs.Found.{Found, Nobody, found_tells}
use Rattle.makes.specs.Later.{Later}
use Rattle.makes.specs.Law.{make_right}
use Rattle.makes.proofs.RunsEvents.{Did, did_born, did_step, did_make, did_target, did_death, Done, event_did}
use Rattle.makes.proofs.RunsFollows.{born_follows, step_follows, make_follows, target_follows, death_follows, stamp_follows}
use Rattle.makes.proofs.RunsPlaces.{Follows}
use Rattle.makes.proofs.RunsRows.{Rowed, born_rowed, step_rowed, make_rowed, target_rowed, death_rowed, stamp_rowed}
use Rattle.makes.proofs.RunsTimes.{Timed, born_timed, step_timed, make_timed, target_timed, death_timed, stamp_timed}
use Rattle.makes.proofs.Starts.{never, nothing_declared, new_sound}

-- All that the state and the calls say of each other.
pub record Whole (calls : List Call) (s : Build) : Type 0 where
  pub sound : Sound s
  pub follows : Follows calls s
  pub timed : Timed calls s
  pub rowed : Rowed calls s

-- A new order.
session_only : (x : ℕ) → (get_or (shape no_place ∷ []) x (shape no_place)).sort ≡ a_target → ⊥
session_only zero e = cc
session_only (suc x) e = cc

start_whole : (room : Room) → Whole [] (start room)
start_whole room = record {
  sound = new_sound room;
  follows = record {
    counted = refl;
    sorts = refl;
    tree = refl;
    living = λ i w l. absurd (omega arith);
    nobody = λ p e. (refl, refl);
    declared = λ m. sym (nothing_declared m);
    slotted = λ m k w l low. absurd (let z = nothing_declared m in omega arith);
  };
  timed = record {
    begun = λ m b. elim b [ ];
    begun_to = λ m n l e. absurd (never m n e);
    starts_to = λ x n e. absurd (never x n e);
    starts_from = λ x n b. elim b [ ];
    ends_to = λ x n e. absurd (never x n e);
    ends_from = λ x n l b. elim b [ ];
    ends_within = λ x n b. elim b [ ];
  };
  rowed = record {
    apart = λ x y hx hy e. absurd (session_only x hx.sort);
    named = λ x y b. elim b [ ];
    told = λ x y h. absurd (session_only x h.first.sort);
  };
}

-- One event more.
module _ {calls : List Call} (s : Build) (w : Whole calls s) where
  event_whole : {e : Told} {t : Build} → Did s e t → Later s t → EventTaken make_machine s e t → Whole (tell e ∷ calls) t
  event_whole (did_born {p} {q} {t} {h} e parent nobody) later taken = record {
    sound = taken.valid;
    follows = born_follows s w.follows w.sound p q t h e parent nobody later taken;
    timed = born_timed s w.timed p q t h e later;
    rowed = born_rowed s w.rowed p q t h later;
  }
  event_whole (did_step {p} {q} {t} {h} e parent makes few nobody) later taken = record {
    sound = taken.valid;
    follows = step_follows s w.follows w.sound p q t h e parent makes few nobody later taken;
    timed = step_timed s w.follows w.sound w.timed p q t h e parent makes later taken.valid;
    rowed = step_rowed s w.rowed p q t h later;
  }
  event_whole (did_make {p} {i} own other) later taken = record {
    sound = taken.valid;
    follows = make_follows s w.follows w.sound p i own other later taken;
    timed = make_timed s w.timed p i later;
    rowed = make_rowed s w.rowed p i later;
  }
  event_whole (did_target {p} {i} {h} {ks} own at makes all room) later taken = record {
    sound = taken.valid;
    follows = target_follows s w.follows w.sound p i h ks own at makes room later taken;
    timed = target_timed s w.timed p h ks later;
    rowed = target_rowed s w.follows w.sound w.rowed p i h ks own at makes all room later taken.valid;
  }
  event_whole (did_death {p} {i} own) later taken =
      let on = death_follows s w.follows w.sound p i own later taken in
      record {
        sound = taken.valid;
        follows = on;
        timed = death_timed s w.follows w.sound w.timed p i on taken.valid later;
        rowed = death_rowed s w.rowed p i later;
      }

-- what a timestamp says, and what it leaves
pub record Stamped (s : Build) (p : ℕ) (r : Timestamp × Build) : Type 0 where
  pub number : r.0.number ≡ s.number + 1
  pub who : ℕ
  pub lives : Found s.births p who
  pub place : r.0.place ≡ stand s.places (birth_at s.births who).at
  pub left : r.1 ≡ counted s
  pub more : s.number + 1 ≤ last_number

pub stamped : (s : Build) → Sound s → (p : ℕ) (o : Option ℕ) → MatchOption o (Nobody s.births p) (λ i. Found s.births p i) → IfOk (stamp_from s (option_map (λ i. (birth_at s.births i).at) o)) (Stamped s p)
stamped s sound p None h = tt
stamped s sound p (Some i) h =
    passing (Stamped s p) ((eqb s.number last_number, UsedUp) ∷ []) _ (λ passed.
    record { number = refl; who = i; lives = h; place = refl; left = refl; more = still_counted s.number sound.number passed.0 })

-- a run tells it all
pub whole : (room : Room) {calls : List Call} {s : Build} → Ran make_machine (start room) calls s → Whole calls s
whole room none = start_whole room
whole room (told {t = t} {u = u} {e = e} r ok) =
    let w = whole room r in
    let done = IfOk-at_ok (Done t e) ok (event_did t w.sound e) in
    event_whole t w done.0 done.1 (make_right.taken t e u w.sound ok)
whole room (given {calls = calls} {t = t} {p = p} r ok) =
    let w = whole room r in
    let said = IfOk-at_ok (Stamped t p) ok (stamped t w.sound p (found t p) (found_tells t.births p)) in
    let later = counted_later t w.sound said.more in
    subst (Whole (stamp p ∷ calls)) (sym said.left)
    (record {
      sound = counted_sound t w.sound said.more;
      follows = stamp_follows t p w.follows later;
      timed = stamp_timed t w.timed p later;
      rowed = stamp_rowed t w.rowed p later;
    })
