use Rattle.std.proofs.Common.{◌≡◌, ◌∙◌, [], None, ap, append-nil, rules, sym}
use Rattle.dc_cert.specs.NamedRows.{named_rows}
use Rattle.dc_check.specs.Verdict.{verdict_of}
use Rattle.dc_run_margins.proofs.Advising.{lines_judged, misnamed-lines}
use Rattle.dc_run_margins.specs.Drift.{lines_of_drift}
use Rattle.dc_run_margins.specs.Telling.{told_as}
use Rattle.dc_run_margins.specs.declared.telling.LineKey.TheVariants.{Verdict}
use Rattle.dc_run_margins.specs.Margins.{answer_margins, verdict_line, verdict_outcome}
use Rattle.dc_run_margins.proofs.margins.judge_misnamed.Goals as goal

pub returns-in-Ok : goal.returns-in-Ok
returns-in-Ok c =
    let told = c.args.told in
    let w = c.args.written.now in
    let claims = named_rows c.args.certificate.now in
    let t = c.tables-tables.result.now in
    let same = c.tables-tables.ensures in
    let line = c.keep_verdict.new.page in
    let tell = told_as told.json Verdict in
    let more = lines_of_drift told.json w told.drift None in
    let told_by : c.err.result ≡ verdict_of t claims = search rules in
    let exact = told_by ∙ ap (λ t. verdict_of t claims) same in
    lines_judged (answer_margins told w claims) (tell (verdict_line w.tables (verdict_of w.tables claims))) [] more line line c.add_drift.new.page c.print_verdict-outcome.result
    (c.in_ok-keep_verdict.ensures ∙ ap tell (c.as_slice.ensures.value ∙ c.print_verdict-outcome.ensures.line ∙ ap (verdict_line t) exact ∙ ap (λ t. verdict_line t (verdict_of w.tables claims)) same)) (sym (append-nil line))
    c.in-Ok.ensures (misnamed-lines told w claims c.requires) (c.print_verdict-outcome.ensures.outcome ∙ ap verdict_outcome exact)
