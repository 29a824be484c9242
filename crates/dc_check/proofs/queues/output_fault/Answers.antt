use Rattle.std.proofs.Common.{◌<◌, [], length, refl, sym, ap, ◌∙◌, arith}
use Rattle.dc_cert.specs.Bounds.{output_bound, certificate_rows}
use Rattle.dc_check.specs.lemmas.CertificateReads.{outputs-count, output-read}
use Rattle.dc_check.specs.lemmas.Exact.{ranges-none}
use Rattle.dc_check.specs.lemmas.Firsts.{rule-same, rules-same, closing-same}
use Rattle.dc_check.specs.Verdict.{first_of, at_window, is_closing}
use Rattle.dc_check.specs.declared.fault.Condition.TheVariants.{DelayTooSmall}
use Rattle.dc_check.specs.declared.fault.CertificateList.TheVariants.{Outputs}
use Rattle.dc_tables.specs.TableRows.{output_cap, output_floor}
use Rattle.dc_check.proofs.queues.output_fault.Goals as goal

pub closing_fault-requires : goal.closing_fault-requires
closing_fault-requires g c =
    let there : c.args.output < length c.args.fitted.now.certificate.now.outputs.items = omega (arith, c.requires.there, c.args.fitted.now.sized.outputs, outputs-count c.args.fitted.now.certificate.now) in
    let window = ap (λ r. r.window) (output-read c.args.fitted.now.certificate.now c.args.output c.index.result.now there c.index.ensures) in
    let r = ranges-none Outputs c.args.output (output_bound (certificate_rows c.args.fitted.now.certificate.now) c.args.output).window (output_bound (certificate_rows c.args.fitted.now.certificate.now) c.args.output).delay c.requires.ranges in
    record { least = omega (arith, r.0, window); most = omega (arith, r.1, window) }

pub returns : goal.returns
returns g c =
    let there : c.args.output < length c.args.fitted.now.certificate.now.outputs.items = omega (arith, c.requires.there, c.args.fitted.now.sized.outputs, outputs-count c.args.fitted.now.certificate.now) in
    let window = ap (λ r. r.window) (sym (output-read c.args.fitted.now.certificate.now c.args.output c.index.result.now there c.index.ensures)) in
    let closes = rule-same _ _ _ _ _ c.closing_fault.ensures
    (closing-same (g.A.ArrivalBound.cap c.args.arrivals.now) (g.S.ServiceBound.floor c.args.service.now) (output_cap c.args.fitted.now.tables.now c.args.output) (output_floor c.args.fitted.now.tables.now c.args.output) c.requires.arrivals c.requires.service c.index.result.now.window
    ∙ ap (λ w. is_closing (output_cap c.args.fitted.now.tables.now c.args.output) (output_floor c.args.fitted.now.tables.now c.args.output) w) window) refl in
    c.first_fault.ensures
    ∙ ap first_of
    (rules-same _ _ _ _ closes
    (rules-same _ _ [] [] (c.window_fault.ensures ∙ ap (at_window Outputs c.args.output DelayTooSmall) c.requires.overdue) refl))
