use Rattle.std.proofs.Common.{arith, subst, sym}
use Rattle.dc_build.specs.RowsOf.{AreRows}
use Rattle.dc_tables.specs.TableRows.{TableRows}
use Rattle.dc_in_time.specs.InTime.{DocumentsKeepTime}
use Rattle.dc_in_time.proofs.Keeping.{by_documents}
use Rattle.dc_in_time.proofs.documents.keeps_its_documents_time.Goals as goal

pub returns : goal.returns
returns c =
    let P : TableRows → Type 0 = λ t. DocumentsKeepTime c.args.written.now.parts t in
    let Q : TableRows → Type 0 = λ t. AreRows c.args.written.now.parts t in
    subst P c.tables-tables.ensures (
    by_documents
    c.args.written.now.parts
    c.tables-tables.result.now
    c.written.ensures.obeys
    (subst Q (sym c.tables-tables.ensures) c.written.ensures.rows)
    c.accepted_keep_time.ensures
    c.documents_round.ensures
    (λ start. c.spans_become_windows.ensures.of_exact start c.tables-tables.result.now.tick_us (omega (arith, c.valid.ensures.ticks_some)))
    )
