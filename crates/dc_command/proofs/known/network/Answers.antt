use Rattle.dc_command.proofs.known.network.Goals as goal

pub returns : goal.returns
returns c =
    let explaining = c.with_argument-explaining.ensures _ _ c.named-network.ensures c.explained.ensures.rule c.explained.ensures.local in
    let reading = c.with_argument-reading.ensures _ _ explaining c.file.ensures.rule c.file.ensures.local in
    c.with_argument.ensures _ _ reading c.workers.ensures.rule c.workers.ensures.local
