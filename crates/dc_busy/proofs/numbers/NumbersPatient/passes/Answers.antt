use Rattle.std.proofs.Common.{arith}
use Rattle.dc_busy.proofs.numbers.NumbersPatient.passes.Goals as goal

pub returns : goal.returns
returns g c = λ cap until cap_grows ahead few known. (
  c.passes.ensures cap until cap_grows ahead (omega (arith, few, c.min.ensures)) known.0,
  c.passes-2.ensures cap until cap_grows ahead (omega (arith, few, c.min.ensures)) known.1,
)
