use Rattle.dc_command.proofs.known.report.Goals as goal

pub returns : goal.returns
returns c =
    let observed = c.in_ok-observed.ensures in
    let network = c.in_ok-network.ensures in
    let drifting = c.with_argument-drifting.ensures _ _ c.certified_report.ensures c.drift.ensures.rule c.drift.ensures.local in
    let beside = c.with_argument.ensures _ _ drifting observed.0 observed.1 in
    c.with_argument-2.ensures _ _ beside network.0 network.1
