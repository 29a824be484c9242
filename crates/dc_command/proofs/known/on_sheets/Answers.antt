use Rattle.dc_command.proofs.known.on_sheets.Goals as goal

pub returns : goal.returns
returns c =
    let explaining = c.with_argument-explaining.ensures _ _ c.named-design.ensures c.explained.ensures.rule c.explained.ensures.local in
    let one = c.with_argument-one.ensures _ _ explaining c.file.ensures.rule c.file.ensures.local in
    c.with_argument.ensures _ _ one c.file-2.ensures.rule c.file-2.ensures.local
