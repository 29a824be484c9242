use Rattle.std.proofs.Common.{arith}
use Rattle.dc_cell.proofs.Numbers.{small_here}
use Rattle.dc_cell.proofs.digits.number_in.Goals as goal

pub with_digit-number-requires-clause-number : goal.with_digit-number-requires-clause-number
with_digit-number-requires-clause-number c = small_here c.loop-c.number c.loop-c.c-index (omega arith) c.loop-c.invariant.small

pub returns-clause-below : goal.returns-clause-below
returns-clause-below c = small_here c.loop-c.number c.loop-c.c-index (omega arith) c.loop-c.invariant.small
