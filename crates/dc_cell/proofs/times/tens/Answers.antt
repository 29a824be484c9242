use Rattle.std.proofs.Common.{arith}
use Rattle.dc_cell.proofs.Numbers.{tens_small, tens_some}
use Rattle.dc_cell.proofs.times.tens.Goals as goal

pub pow-requires : goal.pow-requires
pow-requires c = omega (arith, tens_small c.args.places c.requires)

pub returns-clause-some : goal.returns-clause-some
returns-clause-some c = rw c.pow.ensures (tens_some c.args.places)
