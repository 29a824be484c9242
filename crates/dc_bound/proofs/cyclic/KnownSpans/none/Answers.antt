use Rattle.dc_bound.proofs.CyclicWalk.{none_known}
use Rattle.dc_bound.proofs.cyclic.KnownSpans.none.Goals as goal

pub returns : goal.returns
returns c frame offsets few = none_known frame offsets 1024 few
