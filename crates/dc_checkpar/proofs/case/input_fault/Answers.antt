use Rattle.std.proofs.Common.{◌<◌, length, refl, sym, ap, ◌∙◌, arith}
use Rattle.dc_cert.specs.Bounds.{input_bound, certificate_rows}
use Rattle.dc_check.specs.lemmas.CertificateReads.{inputs-count, input-read}
use Rattle.dc_check.specs.lemmas.Firsts.{backlog_failure-is, delay_failure-is, backlog-read, delay-read}
use Rattle.dc_checkpar.proofs.Cases.{ranges-input, backlog-input, delay-input}
use Rattle.dc_tables.specs.TableRows.{bus_cap, bus_floor}
use Rattle.dc_checkpar.proofs.case.input_fault.Goals as goal

pub job_fault_given-requires-clause-ranges : goal.job_fault_given-requires-clause-ranges
job_fault_given-requires-clause-ranges g c =
    let there : c.args.bus < length c.args.case.now.fitted.now.certificate.now.inputs.items = omega (arith, c.requires.there, c.args.case.now.fitted.now.sized.inputs, inputs-count c.args.case.now.fitted.now.certificate.now) in
    let row = input-read c.args.case.now.fitted.now.certificate.now c.args.bus c.index-row.result.now there c.index-row.ensures in
    let long = c.if-not-is_for_pieces.ensures refl in
    ranges-input c.args.case.now.fitted.now.tables.now (certificate_rows c.args.case.now.fitted.now.certificate.now) c.args.bus c.requires.there
    (omega (arith, ap (λ r. r.window) row, long.0)) (omega (arith, ap (λ r. r.window) row, long.1)) (omega (arith, ap (λ r. r.delay) row, long.2))

pub job_fault_given-requires-clause-overfull : goal.job_fault_given-requires-clause-overfull
job_fault_given-requires-clause-overfull g c =
    let there : c.args.bus < length c.args.case.now.fitted.now.certificate.now.inputs.items = omega (arith, c.requires.there, c.args.case.now.fitted.now.sized.inputs, inputs-count c.args.case.now.fitted.now.certificate.now) in
    let row = input-read c.args.case.now.fitted.now.certificate.now c.args.bus c.index-row.result.now there c.index-row.ensures in
    let cap = g.A.ArrivalBound.cap c.args.arrivals.now in
    let floor = g.S.ServiceBound.floor c.args.service.now in
    let window = c.index-row.result.now.window in
    let found = backlog_failure-is cap floor window c.from.result c.first_failures-overfull.result.0 c.first_failures-overfull.ensures.backlog in
    backlog-read cap floor (bus_cap c.args.case.now.fitted.now.tables.now c.args.bus) (bus_floor c.args.case.now.fitted.now.tables.now c.args.bus) c.requires.arrivals c.requires.service
    window c.from.result (input_bound (certificate_rows c.args.case.now.fitted.now.certificate.now) c.args.bus).window (input_bound (certificate_rows c.args.case.now.fitted.now.certificate.now) c.args.bus).backlog
    c.first_failures-overfull.result.0 found (ap (λ r. r.window) (sym row)) (c.from.ensures ∙ ap (λ r. r.backlog) (sym row))
    ∙ backlog-input c.args.case.now.fitted.now.tables.now (certificate_rows c.args.case.now.fitted.now.certificate.now) c.args.bus c.requires.there

pub job_fault_given-requires-clause-overdue : goal.job_fault_given-requires-clause-overdue
job_fault_given-requires-clause-overdue g c =
    let there : c.args.bus < length c.args.case.now.fitted.now.certificate.now.inputs.items = omega (arith, c.requires.there, c.args.case.now.fitted.now.sized.inputs, inputs-count c.args.case.now.fitted.now.certificate.now) in
    let row = input-read c.args.case.now.fitted.now.certificate.now c.args.bus c.index-row.result.now there c.index-row.ensures in
    let cap = g.A.ArrivalBound.cap c.args.arrivals.now in
    let floor = g.S.ServiceBound.floor c.args.service.now in
    let window = c.index-row.result.now.window in
    let delay = c.index-row.result.now.delay in
    let found = delay_failure-is cap floor window delay c.first_failures-overfull.result.1 c.first_failures-overfull.ensures.delay in
    delay-read cap floor (bus_cap c.args.case.now.fitted.now.tables.now c.args.bus) (bus_floor c.args.case.now.fitted.now.tables.now c.args.bus) c.requires.arrivals c.requires.service
    window delay (input_bound (certificate_rows c.args.case.now.fitted.now.certificate.now) c.args.bus).window (input_bound (certificate_rows c.args.case.now.fitted.now.certificate.now) c.args.bus).delay
    c.first_failures-overfull.result.1 found (ap (λ r. r.window) (sym row)) (ap (λ r. r.delay) (sym row))
    ∙ delay-input c.args.case.now.fitted.now.tables.now (certificate_rows c.args.case.now.fitted.now.certificate.now) c.args.bus c.requires.there
