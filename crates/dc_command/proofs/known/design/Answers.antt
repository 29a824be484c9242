use Rattle.dc_command.proofs.known.design.Goals as goal

pub returns : goal.returns
returns c =
    let timed = c.with_argument-timed.ensures _ _ c.on_sheets.ensures c.tick.ensures.rule c.tick.ensures.local in
    let roomy = c.with_argument-roomy.ensures _ _ timed c.headroom.ensures.rule c.headroom.ensures.local in
    let policed = c.with_argument.ensures _ _ roomy c.flag-police.ensures.rule c.flag-police.ensures.local in
    c.with_argument-2.ensures _ _ policed c.certificate.ensures.rule c.certificate.ensures.local
