use Rattle.std.proofs.Common.{arith}
use Rattle.std.proofs.Math.Nat.{mul-le-mul_left}
use Rattle.dc_cell.proofs.digits.with_digit.Goals as goal

pub overflow_mul-result : goal.overflow_mul-result
overflow_mul-result c = omega (arith, mul-le-mul_left c.args.number c.requires.base)

pub overflow_add-result : goal.overflow_add-result
overflow_add-result c = omega (arith, mul-le-mul_left c.args.number c.requires.base)
