use Rattle.dc_run_audit.proofs.follow.find_failures.Goals as goal

pub follow-requires-clause-tells : goal.follow-requires-clause-tells
follow-requires-clause-tells g c = c.in-Ok.ensures.tells _
