use Rattle.dc_command.proofs.Tied.{conflict_tied}
use Rattle.dc_command.proofs.known.reported_alone.Goals as goal

pub returns : goal.returns
returns c =
    let one = conflict_tied c.reported.result _ _ _ c.in_ok-no_tables.ensures c.reported.ensures.rule c.reported.ensures.local in
    let two = conflict_tied c.in_ok-no_tables.no_tables _ _ _ c.in_ok-no_certificate.ensures one.0 one.1 in
    let three = conflict_tied c.in_ok-no_certificate.no_certificate _ _ _ c.in_ok-no_observed.ensures two.0 two.1 in
    conflict_tied c.in_ok-no_observed.no_observed _ _ _ c.in_ok-conflicts_with.ensures three.0 three.1
