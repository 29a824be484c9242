use Rattle.std.proofs.Common.{◌≡◌, ◌+◌, ◌-◌, arith}
use Rattle.dc_event.specs.LongNames.{eight_bytes_from}
use Rattle.dc_event.proofs.long_names.eight_from.Goals as goal

pub returns : goal.returns
unfolding eight_bytes_from
returns c = let n : c.args.at + 8 - c.args.at ≡ 8 = omega arith in rw n at c.from_le_bytes.ensures
