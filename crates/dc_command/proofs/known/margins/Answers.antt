use Rattle.dc_command.proofs.known.margins.Goals as goal

pub returns : goal.returns
returns c =
    let certified = c.with_argument-certified.ensures _ _ c.on_tables-margins.ensures c.some_certificate.ensures.rule c.some_certificate.ensures.local in
    let told = c.with_argument.ensures _ _ certified c.flag-us.ensures.rule c.flag-us.ensures.local in
    let drifting = c.with_argument-drifting.ensures _ _ told c.drift.ensures.rule c.drift.ensures.local in
    c.with_argument-2.ensures _ _ drifting c.flag-json.ensures.rule c.flag-json.ensures.local
