use Rattle.dc_command.proofs.known.on_certificate.Goals as goal

pub returns : goal.returns
returns c = c.with_argument.ensures _ _ c.on_tables-on_tables.ensures c.file.ensures.rule c.file.ensures.local
