use Rattle.dc_event.proofs.LongKeys.{long_none_each}
use Rattle.dc_event.proofs.long_names.LongNames.new.Goals as goal

pub returns : goal.returns
returns c = λ names. long_none_each names 64
