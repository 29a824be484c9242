use Rattle.dc_program.proofs.Deciding.{carried_decides}
use Rattle.dc_program.proofs.carry.carry_out.Goals as goal

pub returns-clause-decides : goal.returns-clause-decides
returns-clause-decides g c = carried_decides c.args.order _ _ _ _ _ _ _ c.obey.ensures.carries
