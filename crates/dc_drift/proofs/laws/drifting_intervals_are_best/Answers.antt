use Rattle.std.proofs.Common.{subst, sym}
use Rattle.dc_build.specs.RowsOf.{AreRows}
use Rattle.dc_drift.proofs.Best.{none_better}
use Rattle.dc_drift.specs.Laws.{NoneAreBetter}
use Rattle.dc_tables.specs.TableRows.{TableRows}
use Rattle.dc_drift.proofs.laws.drifting_intervals_are_best.Goals as goal

pub returns : goal.returns
returns c =
    let P : TableRows → Type 0 = λ t. NoneAreBetter t in
    let Q : TableRows → Type 0 = λ t. AreRows c.args.written.now.parts t in
    subst P c.tables-tables.ensures (
    none_better
    c.args.written.now.parts
    c.tables-tables.result.now
    c.written.ensures.obeys
    (subst Q (sym c.tables-tables.ensures) c.written.ensures.rows)
    c.documents_round.ensures
    c.valid.ensures
    )
