use Rattle.std.proofs.Common.{ap, map, ◌++◌, ◌∙◌}
use Rattle.dc_cert.specs.Bounds.{certificate_rows}
use Rattle.dc_cert.specs.NamedRows.{named_rows}
use Rattle.dc_check.specs.Verdict.{verdict_of}
use Rattle.dc_margin.specs.Lines.{margin_lines_of}
use Rattle.dc_run_margins.proofs.Advising.{lines_judged, named-lines}
use Rattle.dc_run_margins.specs.Drift.{lines_of_drift}
use Rattle.dc_run_margins.specs.Margins.{ages_where, answer_margins, fed, verdict_line, verdict_outcome}
use Rattle.dc_run_margins.specs.Objects.{margin_told}
use Rattle.dc_run_margins.specs.Telling.{told_as}
use Rattle.dc_run_margins.specs.declared.telling.LineKey.TheVariants.{Verdict}
use Rattle.dc_run_margins.proofs.margins.judge_named.Goals as goal

pub returns-in-Ok : goal.returns-in-Ok
returns-in-Ok c =
    let told = c.args.told in
    let w = c.args.written.now in
    let claims = named_rows c.args.certificate.now in
    let rows = certificate_rows c.args.certificate.now in
    let t = c.tables-tables.result.now in
    let same = c.tables-tables.ensures in
    let line = c.keep_verdict.new.page in
    let mid = c.append_lines.new.page in
    let print = margin_told told in
    let tell = told_as told.json Verdict in
    let exact = c.verdict_fault-fault.ensures.exact ∙ ap (λ t. verdict_of t claims) same in
    lines_judged (answer_margins told w claims) (tell (verdict_line w.tables (verdict_of w.tables claims))) (map (print w.tables) (margin_lines_of w.tables rows))
    (lines_of_drift told.json w told.drift (ages_where (verdict_of w.tables claims) claims)) line mid c.append_drift.new.page c.print_verdict-outcome.result
    (c.in_ok-keep_verdict.ensures ∙ ap tell (c.as_slice-2.ensures.value ∙ c.print_verdict-outcome.ensures.line ∙ ap (verdict_line t) exact ∙ ap (λ t. verdict_line t (verdict_of w.tables claims)) same))
    (c.in_ok-append_lines.ensures ∙ ap (λ lines. line ++ fed (map (print t) lines)) (c.as_slice-3.ensures.value ∙ c.in_ok-lines.ensures.lines)
    ∙ ap (λ t. line ++ fed (map (print t) (margin_lines_of t rows))) same)
    (c.in-Ok.ensures ∙ ap (λ v. mid ++ fed (lines_of_drift told.json w told.drift (ages_where v claims))) exact)
    (named-lines told w claims c.requires.named) (c.print_verdict-outcome.ensures.outcome ∙ ap verdict_outcome exact)
