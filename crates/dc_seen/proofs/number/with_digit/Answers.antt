use Rattle.std.proofs.Common.{arith}
use Rattle.dc_seen.proofs.number.with_digit.Goals as goal

pub returns : goal.returns
returns c = λ low fits. omega (arith, low, fits)
