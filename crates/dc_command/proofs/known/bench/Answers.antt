use Rattle.dc_command.proofs.known.bench.Goals as goal

pub returns : goal.returns
returns c =
    let timed = c.with_argument.ensures _ _ c.on_certificate-bench.ensures c.ticks.ensures.rule c.ticks.ensures.local in
    c.with_argument-2.ensures _ _ timed c.flag-marks.ensures.rule c.flag-marks.ensures.local
