use Rattle.dc_command.proofs.Tied.{unless_tied}
use Rattle.dc_command.proofs.known.reported_tables.Goals as goal

pub returns : goal.returns
returns c = unless_tied c.optional.result _ _ _ c.in_ok-required_unless_present.ensures c.optional.ensures.rule c.optional.ensures.local
