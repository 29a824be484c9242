use Rattle.dc_engine.proofs.Judged.{opened_both}
use Rattle.dc_engine.proofs.opening.open.Goals as goal

pub returns-in-Ok-new : goal.returns-in-Ok-new
returns-in-Ok-new c =
    opened_both c.args.tables.now c.args.certificate.now c.in-Ok.certified c.in-Ok-new.engine c.in-Ok-new.ensures.certified c.in-Ok.ensures c.in-Ok-new.ensures.stands
