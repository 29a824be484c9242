use Rattle.std.proofs.Common.{arith}
use Rattle.dc_event.proofs.HexValues.{hex_value}
use Rattle.dc_event.proofs.line.value_of.Goals as goal

pub returns-clause-value : goal.returns-clause-value
returns-clause-value c = hex_value c.args.byte (omega (arith, c.ranges.byte))
