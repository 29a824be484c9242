use Rattle.dc_time.specs.lemmas.Arriving.{sources-keep_ticks}
use Rattle.dc_time.proofs.laws.sources_keep_ticks.Goals as goal

pub returns : goal.returns
returns c = sources-keep_ticks c.args.tables.now c.valid.ensures
