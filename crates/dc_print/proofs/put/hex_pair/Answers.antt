use Rattle.std.proofs.Common.{arith, refl}
use Rattle.dc_print.proofs.HexPairs.{hex_pair}
use Rattle.dc_print.proofs.put.hex_pair.Goals as goal

pub returns : goal.returns
returns c =
    let p = hex_pair c.args.byte (omega (arith, c.ranges.byte)) in
    rw (p.0, p.1) refl
