use Rattle.std.proofs.Common.{◌≡◌, IfOk, arith, rules}
use Rattle.std.proofs.lemmas.Grind.{common_steps}
use Rattle.dc_cert.specs.NamedRows.{named_rows}
use Rattle.dc_check.specs.Verdict.{verdict_of}
use Rattle.dc_run_report.specs.Paper.{outcome_of}
use Rattle.dc_run_report.proofs.Paging.{page_kept}
use Rattle.dc_run_report.proofs.given.report_on.Goals as goal

pub returns : goal.returns
returns c =
    let is : IfOk c.keep_page.result (λ o. o ≡ outcome_of (verdict_of c.args.written.now.tables (named_rows c.args.certificate.now))) = first_of (search rules, grind (arith, common_steps)) in
    page_kept _ _ c.keep_page.result is
