use Rattle.dc_command.proofs.known.certified_report.Goals as goal

pub returns : goal.returns
returns c =
    let tables = c.in_ok-tables.ensures in
    let explaining = c.with_argument-explaining.ensures _ _ c.named-report.ensures c.explained.ensures.rule c.explained.ensures.local in
    let reading = c.with_argument-reading.ensures _ _ explaining tables.0 tables.1 in
    c.with_argument.ensures _ _ reading c.some_certificate.ensures.rule c.some_certificate.ensures.local
