use Rattle.std.proofs.Common.{refl}
use Rattle.dc_event.specs.LongNames.{long_key_of}
use Rattle.dc_event.proofs.long_names.long_key.Goals as goal

pub returns : goal.returns
unfolding long_key_of
returns c = rw (c.eight_from.ensures, c.eight_from-2.ensures) refl
