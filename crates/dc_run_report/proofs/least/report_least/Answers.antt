use Rattle.std.proofs.Common.{subst, sym}
use Rattle.dc_cert.specs.NamedRows.{named_rows}
use Rattle.dc_check.specs.Accepts.{Accepts}
use Rattle.dc_check.specs.lemmas.Exact.{verdict-accepts}
use Rattle.dc_find.specs.Least.{IsLeastAccepted}
use Rattle.dc_run_report.proofs.Paging.{found_kept, rows_kept}
use Rattle.dc_run_report.proofs.least.report_least.Goals as goal

pub keep_page-requires : goal.keep_page-requires
keep_page-requires c =
    let claims = named_rows c.in-Ok.certificate in
    sym ((verdict-accepts c.args.written.now.tables claims).1 (subst (λ t. Accepts t claims) c.tables.ensures c.in-Ok.ensures.least.accepted))

pub returns-in-Ok : goal.returns-in-Ok
returns-in-Ok c =
    let claims = named_rows c.in-Ok.certificate in
    found_kept _ claims _ c.keep_page.result (subst (λ t. IsLeastAccepted t claims) c.tables.ensures c.in-Ok.ensures.least) c.keep_page.ensures.outcome

pub returns-in-Err : goal.returns-in-Err
returns-in-Err c = rows_kept _ _ c.keep_sought.result c.keep_sought.ensures
