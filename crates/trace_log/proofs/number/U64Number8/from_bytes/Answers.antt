use Rattle.std.proofs.Common.{◌∙◌}
use Rattle.std.proofs.lemmas.Nat.{be_bytes_8}
use Rattle.trace_log.proofs.Numbers.{big_8}
use Rattle.trace_log.proofs.number.U64Number8.from_bytes.Goals as goal

pub returns : goal.returns
returns c = big_8 _ ∙ be_bytes_8 c.args.bytes.now _ c.told-bytes c.fits-bytes c.from_be_bytes.ensures
