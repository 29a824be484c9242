use Rattle.std.proofs.Common.{arith, refl, append_assoc}
use Rattle.dc_print.proofs.HexPairs.{hex_8_of}
use Rattle.dc_print.proofs.put.put_hex_8.Goals as goal

pub returns : goal.returns
returns g c =
    rw (c.put-4.ensures, c.put-3.ensures, c.put-2.ensures, c.put.ensures, c.hex_pair.ensures, c.hex_pair-2.ensures, c.hex_pair-3.ensures, c.hex_pair-4.ensures, hex_8_of c.args.n (omega (arith, c.ranges.n)), append_assoc, append_assoc, append_assoc) refl
