use Rattle.dc_time.specs.lemmas.Claiming.{claims-keep_time}
use Rattle.dc_time.proofs.laws.claims_keep_time.Goals as goal

pub returns : goal.returns
returns c = claims-keep_time c.args.tables.now c.valid.ensures
