use Rattle.dc_command.proofs.Tied.{needs_tied}
use Rattle.dc_command.proofs.known.observed_beside.Goals as goal

pub returns : goal.returns
returns c = needs_tied c.observed.result _ _ _ c.in_ok-requires_arg.ensures c.observed.ensures.rule c.observed.ensures.local
