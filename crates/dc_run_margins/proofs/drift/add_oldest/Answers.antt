use Rattle.std.proofs.Common.{◌≡◌, ◌++◌, ◌∙◌, IfOk, ap, decimal, option_map, subst, sym}
use Rattle.dc_cert.specs.Bounds.{certificate_rows}
use Rattle.dc_drift.specs.Drift.{oldest_of}
use Rattle.dc_run_margins.specs.Drift.{oldest_text}
use Rattle.dc_run_margins.proofs.drift.add_oldest.Goals as goal

pub returns-in-Some : goal.returns-in-Some
returns-in-Some c =
    let shown = c.args.shown.now in
    let x = c.args.label in
    let ages = (certificate_rows c.in-Some.certificate.now).ages in
    let number = c.oldest.ensures ∙ ap (λ t. oldest_of t shown.drift c.age_of-age.result) c.tables-tables.ensures ∙ ap (oldest_of shown.written.now.tables shown.drift) c.age_of-age.ensures in
    let told = ap (λ o. oldest_text shown.written.now.tables shown.drift (option_map (λ c. (certificate_rows c.now).ages) o) x) (sym c.in-Some.is) in
    subst (λ text. IfOk c.add_number.result (λ _. c.add_number.new.page ≡ c.args.page.now ++ text)) (ap decimal number ∙ told) c.add_number.ensures
