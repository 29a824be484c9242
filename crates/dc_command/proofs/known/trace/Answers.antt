use Rattle.dc_command.proofs.known.trace.Goals as goal

pub returns : goal.returns
returns c = c.with_argument.ensures _ _ c.on_tables-trace.ensures c.from.ensures.rule c.from.ensures.local
