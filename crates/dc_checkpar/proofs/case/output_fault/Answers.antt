use Rattle.std.proofs.Common.{◌≡◌, ℕ, ◌+◌, ◌-◌, ◌<◌, length, refl, sym, ap, ◌∙◌, arith}
use Rattle.dc_cert.specs.Bounds.{output_bound, certificate_rows}
use Rattle.dc_check.specs.lemmas.CertificateReads.{outputs-count, output-read}
use Rattle.dc_check.specs.lemmas.Firsts.{delay_failure-is, delay-read}
use Rattle.dc_check.specs.Verdict.{output_delay_failure}
use Rattle.dc_checkpar.proofs.Cases.{ranges-output, delay-output}
use Rattle.dc_tables.specs.TableRows.{output_cap, output_floor}
use Rattle.dc_checkpar.proofs.case.output_fault.Goals as goal

pub job_fault_given-requires-clause-ranges : goal.job_fault_given-requires-clause-ranges
job_fault_given-requires-clause-ranges g c =
    let there : c.args.output < length c.args.case.now.fitted.now.certificate.now.outputs.items = omega (arith, c.requires.there, c.args.case.now.fitted.now.sized.outputs, outputs-count c.args.case.now.fitted.now.certificate.now) in
    let t = c.args.case.now.fitted.now.tables.now in
    let rows = certificate_rows c.args.case.now.fitted.now.certificate.now in
    let job : ℕ = c.bus_count.result + c.args.output in
    let own : c.args.output ≡ job - length t.buses = omega (arith, c.bus_count.ensures) in
    let row = ap (output_bound rows) (sym own) ∙ output-read c.args.case.now.fitted.now.certificate.now c.args.output c.index-row.result.now there c.index-row.ensures in
    let long = c.if-not-is_for_pieces.ensures refl in
    ranges-output t rows job (omega (arith, c.bus_count.ensures)) (omega (arith, c.bus_count.ensures, c.requires.there))
    (omega (arith, ap (λ r. r.window) row, long.0)) (omega (arith, ap (λ r. r.window) row, long.1)) (omega (arith, ap (λ r. r.delay) row, long.2))

pub job_fault_given-requires-clause-overdue : goal.job_fault_given-requires-clause-overdue
job_fault_given-requires-clause-overdue g c =
    let there : c.args.output < length c.args.case.now.fitted.now.certificate.now.outputs.items = omega (arith, c.requires.there, c.args.case.now.fitted.now.sized.outputs, outputs-count c.args.case.now.fitted.now.certificate.now) in
    let t = c.args.case.now.fitted.now.tables.now in
    let rows = certificate_rows c.args.case.now.fitted.now.certificate.now in
    let job : ℕ = c.bus_count.result + c.args.output in
    let own : c.args.output ≡ job - length t.buses = omega (arith, c.bus_count.ensures) in
    let row = output-read c.args.case.now.fitted.now.certificate.now c.args.output c.index-row.result.now there c.index-row.ensures in
    let cap = g.A.ArrivalBound.cap c.args.arrivals.now in
    let floor = g.S.ServiceBound.floor c.args.service.now in
    let window = c.index-row.result.now.window in
    let delay = c.index-row.result.now.delay in
    let found = delay_failure-is cap floor window delay c.first_failures-overdue.result.1 c.first_failures-overdue.ensures.delay in
    delay-read cap floor (output_cap t c.args.output) (output_floor t c.args.output) c.requires.arrivals c.requires.service
    window delay (output_bound rows c.args.output).window (output_bound rows c.args.output).delay
    c.first_failures-overdue.result.1 found (ap (λ r. r.window) (sym row)) (ap (λ r. r.delay) (sym row))
    ∙ ap (λ o. output_delay_failure t o (output_bound rows o)) own
    ∙ delay-output t rows job (omega (arith, c.bus_count.ensures)) (omega (arith, c.bus_count.ensures, c.requires.there))
