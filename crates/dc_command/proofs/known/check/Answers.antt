use Rattle.dc_command.proofs.known.check.Goals as goal

pub returns : goal.returns
returns c =
    let counted = c.with_argument.ensures _ _ c.on_certificate-check.ensures c.workers.ensures.rule c.workers.ensures.local in
    c.with_argument-2.ensures _ _ counted c.flag-digest.ensures.rule c.flag-digest.ensures.local
