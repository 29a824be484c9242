use Rattle.std.proofs.Common.{◌<◌, [], length, refl, sym, ap, ◌∙◌, arith}
use Rattle.std.specs.Prelude.{nat_le}
use Rattle.dc_cert.specs.Bounds.{input_bound, certificate_rows}
use Rattle.dc_check.specs.lemmas.CertificateReads.{inputs-count, input-read}
use Rattle.dc_check.specs.lemmas.Exact.{ranges-none}
use Rattle.dc_check.specs.lemmas.Firsts.{rule-same, rules-same, closing-same}
use Rattle.dc_check.specs.Verdict.{first_of, at_window, is_closing}
use Rattle.dc_check.specs.declared.fault.Condition.TheVariants.{BacklogTooSmall, DelayTooSmall}
use Rattle.dc_check.specs.declared.fault.CertificateList.TheVariants.{Inputs}
use Rattle.dc_tables.specs.TableRows.{bus_cap, bus_floor}
use Rattle.dc_check.proofs.queues.input_fault.Goals as goal

pub closing_fault-requires : goal.closing_fault-requires
closing_fault-requires g c =
    let there : c.args.bus < length c.args.fitted.now.certificate.now.inputs.items = omega (arith, c.requires.there, c.args.fitted.now.sized.inputs, inputs-count c.args.fitted.now.certificate.now) in
    let window = ap (λ r. r.window) (input-read c.args.fitted.now.certificate.now c.args.bus c.index.result.now there c.index.ensures) in
    let r = ranges-none Inputs c.args.bus (input_bound (certificate_rows c.args.fitted.now.certificate.now) c.args.bus).window (input_bound (certificate_rows c.args.fitted.now.certificate.now) c.args.bus).delay c.requires.ranges in
    record { least = omega (arith, r.0, window); most = omega (arith, r.1, window) }

pub returns : goal.returns
returns g c =
    let there : c.args.bus < length c.args.fitted.now.certificate.now.inputs.items = omega (arith, c.requires.there, c.args.fitted.now.sized.inputs, inputs-count c.args.fitted.now.certificate.now) in
    let window = ap (λ r. r.window) (sym (input-read c.args.fitted.now.certificate.now c.args.bus c.index.result.now there c.index.ensures)) in
    let backlog = ap (λ r. r.backlog) (sym (input-read c.args.fitted.now.certificate.now c.args.bus c.index-2.result.now there c.index-2.ensures)) in
    let closes = rule-same _ _ _ _ _ c.closing_fault.ensures
    (closing-same (g.A.ArrivalBound.cap c.args.arrivals.now) (g.S.ServiceBound.floor c.args.service.now) (bus_cap c.args.fitted.now.tables.now c.args.bus) (bus_floor c.args.fitted.now.tables.now c.args.bus) c.requires.arrivals c.requires.service c.index.result.now.window
    ∙ ap (λ w. is_closing (bus_cap c.args.fitted.now.tables.now c.args.bus) (bus_floor c.args.fitted.now.tables.now c.args.bus) w) window) refl in
    let fits = rule-same _ _ _ _ _ c.fault_unless.ensures
    (ap (λ b. nat_le b c.queue.result) backlog ∙ ap (nat_le (input_bound (certificate_rows c.args.fitted.now.certificate.now) c.args.bus).backlog) c.queue.ensures) c.fault.ensures in
    c.first_fault.ensures
    ∙ ap first_of
    (rules-same _ _ _ _ closes
    (rules-same _ _ _ _ (c.window_fault.ensures ∙ ap (at_window Inputs c.args.bus BacklogTooSmall) c.requires.overfull)
    (rules-same _ _ _ _ fits
    (rules-same _ _ [] [] (c.window_fault-2.ensures ∙ ap (at_window Inputs c.args.bus DelayTooSmall) c.requires.overdue) refl))))
