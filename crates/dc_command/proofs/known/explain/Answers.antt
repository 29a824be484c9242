use Rattle.dc_command.proofs.known.explain.Goals as goal

pub returns : goal.returns
returns c =
    let one = c.with_argument.ensures _ _ c.named-explain.ensures c.optional-code.ensures.rule c.optional-code.ensures.local in
    c.with_argument-2.ensures _ _ one c.flag.ensures.rule c.flag.ensures.local
