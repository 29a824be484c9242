use Rattle.std.proofs.Common.{◌++◌, ◌∷◌, append-nil, ap, refl, sym, ◌∙◌}
use Rattle.dc_cert.specs.Bounds.{certificate_rows}
use Rattle.dc_run_margins.proofs.Feeding.{line-all, line-more}
use Rattle.dc_run_margins.specs.Objects.{margin_told}
use Rattle.dc_run_margins.specs.Margins.{found_text}
use Rattle.dc_run_margins.proofs.least.append_found.Goals as goal

pub loop-own-init : goal.loop-own-init
loop-own-init c = sym (append-nil c.args.page.now)

pub loop-own-preserved : goal.loop-own-preserved
loop-own-preserved c =
    let fitted = c.args.fitted.now in
    line-more (found_text c.args.told fitted.tables.now (certificate_rows fitted.certificate.now)) c.args.page.now c.loop-own.page c.append_line.new.page c.args.lines.now c.loop-own.own-index _
    c.loop-own-test.true c.loop-own.invariant (c.in_ok-append_line.ensures ∙ ap (λ l. c.loop-own.page ++ 10 ∷ margin_told c.args.told fitted.tables.now l) c.found_line.ensures.line)

pub returns : goal.returns
returns c =
    let fitted = c.args.fitted.now in
    line-all (found_text c.args.told fitted.tables.now (certificate_rows fitted.certificate.now)) c.args.page.now c.loop-own.page c.args.lines.now c.args.lines.now c.loop-own.own-index
    c.loop-own-test.false refl c.loop-own.invariant
