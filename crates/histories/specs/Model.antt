-- What clauses read of a history and of a directory: what is kept, and that there is room for one more.
use Rattle.std.specs.Prelude.{◌<◌, vec_items, vec_len, vec_capacity}
use Rattle.histories.specs.declared.attempts.Directory.{Directory}
use Rattle.histories.specs.declared.kept.History.{History}
use Rattle.histories.specs.Histories.{Kept}
use Rattle.histories.specs.Lookups.{KeptAttempts}

abbrev pub kept : History → Kept
kept h = record { critical = h.critical; since = vec_items h.since; failed = h.failed }

abbrev pub HasRoom : History → Type 0
HasRoom h = vec_len h.since < vec_capacity h.since

abbrev pub kept_attempts : Directory → KeptAttempts
kept_attempts d = record { remaining = vec_items d.attempts; failed = d.failed }

abbrev pub HasRoomForAttempt : Directory → Type 0
HasRoomForAttempt d = vec_len d.attempts < vec_capacity d.attempts
