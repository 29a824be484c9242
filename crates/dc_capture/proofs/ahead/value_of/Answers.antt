use Rattle.std.proofs.Common.{arith, refl}
use Rattle.dc_capture.proofs.Decimals.{byte_value}
use Rattle.dc_capture.proofs.ahead.value_of.Goals as goal

pub returns : goal.returns
returns c = λ small. byte_value c.args.byte _ (omega (arith, c.ranges.byte)) refl small
