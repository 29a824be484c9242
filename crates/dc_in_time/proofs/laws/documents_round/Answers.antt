use Rattle.dc_in_time.specs.lemmas.Rounding.{fits_clock}
use Rattle.dc_in_time.proofs.laws.documents_round.Goals as goal

pub returns : goal.returns
returns c = λ d obeys rows start. fits_clock c.args.tables.now c.valid.ensures d obeys rows start
