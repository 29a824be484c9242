use Rattle.dc_command.proofs.known.replay.Goals as goal

pub returns : goal.returns
returns c =
    let told = c.with_argument.ensures _ _ c.on_tables-replay.ensures c.flag-all.ensures.rule c.flag-all.ensures.local in
    c.with_argument-2.ensures _ _ told c.flag-long.ensures.rule c.flag-long.ensures.local
