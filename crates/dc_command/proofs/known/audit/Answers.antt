use Rattle.dc_command.proofs.known.audit.Goals as goal

pub returns : goal.returns
returns c = c.with_argument.ensures _ _ c.on_certificate-audit.ensures c.flag-long.ensures.rule c.flag-long.ensures.local
