use Rattle.std.proofs.Common.{subst, sym}
use Rattle.dc_drift.proofs.Keeping.{under_drift}
use Rattle.dc_drift.specs.Laws.{AcceptedKeepUnderDrift, NoneAreBetter}
use Rattle.dc_tables.specs.TableRows.{TableRows}
use Rattle.dc_drift.proofs.laws.accepted_keep_under_drift.Goals as goal

pub returns : goal.returns
returns c =
    let P : TableRows → Type 0 = λ t. AcceptedKeepUnderDrift t in
    let Q : TableRows → Type 0 = λ t. NoneAreBetter t in
    subst P c.tables-tables.ensures (
    under_drift
    c.tables-tables.result.now
    c.accepted_keep_time.ensures
    (subst Q (sym c.tables-tables.ensures) c.drifting_intervals_are_best.ensures)
    c.ages_are_covered.ensures
    )
