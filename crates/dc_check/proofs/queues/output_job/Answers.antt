use Rattle.std.proofs.Common.{◌<◌, length, sym, ap, ◌∙◌, arith}
use Rattle.std.specs.Option.{option_or}
use Rattle.dc_cert.specs.Bounds.{output_bound, certificate_rows}
use Rattle.dc_check.specs.lemmas.CertificateReads.{outputs-count, output-read}
use Rattle.dc_check.specs.lemmas.Exact.{ranges-none, job-output}
use Rattle.dc_check.specs.lemmas.Firsts.{at_front, nothing, ranges-read, delay-read}
use Rattle.dc_check.specs.Verdict.{first_of, output_rules}
use Rattle.dc_check.specs.declared.fault.CertificateList.TheVariants.{Outputs}
use Rattle.dc_tables.specs.TableRows.{output_cap, output_floor}
use Rattle.dc_check.proofs.queues.output_job.Goals as goal

pub returns-then-is_some : goal.returns-then-is_some
returns-then-is_some g c =
    let there : c.args.output < length c.args.fitted.now.certificate.now.outputs.items = omega (arith, c.requires.there, c.args.fitted.now.sized.outputs, outputs-count c.args.fitted.now.certificate.now) in
    let window = ap (λ r. r.window) (sym (output-read c.args.fitted.now.certificate.now c.args.output c.index.result.now there c.index.ensures)) in
    let delay = ap (λ r. r.delay) (sym (output-read c.args.fitted.now.certificate.now c.args.output c.index-2.result.now there c.index-2.ensures)) in
    let ranges = ranges-read Outputs c.args.output c.index.result.now.window c.index-2.result.now.delay (output_bound (certificate_rows c.args.fitted.now.certificate.now) c.args.output).window (output_bound (certificate_rows c.args.fitted.now.certificate.now) c.args.output).delay c.range_fault-ranges.result c.range_fault-ranges.ensures window delay in
    at_front c.range_fault-ranges.result (first_of (output_rules c.args.fitted.now.tables.now c.args.output (output_bound (certificate_rows c.args.fitted.now.certificate.now) c.args.output))) (sym c.is_some.ensures ∙ c.if-is_some.true)
    ∙ ap (λ o. option_or o (first_of (output_rules c.args.fitted.now.tables.now c.args.output (output_bound (certificate_rows c.args.fitted.now.certificate.now) c.args.output)))) ranges
    ∙ sym (job-output c.args.fitted.now.tables.now (certificate_rows c.args.fitted.now.certificate.now) c.args.output c.requires.there)

pub first_overdue-overdue-requires-clause-least : goal.first_overdue-overdue-requires-clause-least
first_overdue-overdue-requires-clause-least g c =
    let none = nothing c.range_fault-ranges.result (sym c.is_some.ensures ∙ c.if-is_some.false) in
    let r = ranges-none Outputs c.args.output c.index.result.now.window c.index-2.result.now.delay (sym c.range_fault-ranges.ensures ∙ none) in
    r.0

pub first_overdue-overdue-requires-clause-most : goal.first_overdue-overdue-requires-clause-most
first_overdue-overdue-requires-clause-most g c =
    let none = nothing c.range_fault-ranges.result (sym c.is_some.ensures ∙ c.if-is_some.false) in
    let r = ranges-none Outputs c.args.output c.index.result.now.window c.index-2.result.now.delay (sym c.range_fault-ranges.ensures ∙ none) in
    r.1

pub first_overdue-overdue-requires-clause-short : goal.first_overdue-overdue-requires-clause-short
first_overdue-overdue-requires-clause-short g c =
    let none = nothing c.range_fault-ranges.result (sym c.is_some.ensures ∙ c.if-is_some.false) in
    let r = ranges-none Outputs c.args.output c.index.result.now.window c.index-2.result.now.delay (sym c.range_fault-ranges.ensures ∙ none) in
    r.2

pub output_fault-requires-clause-ranges : goal.output_fault-requires-clause-ranges
output_fault-requires-clause-ranges g c =
    let there : c.args.output < length c.args.fitted.now.certificate.now.outputs.items = omega (arith, c.requires.there, c.args.fitted.now.sized.outputs, outputs-count c.args.fitted.now.certificate.now) in
    let window = ap (λ r. r.window) (sym (output-read c.args.fitted.now.certificate.now c.args.output c.index.result.now there c.index.ensures)) in
    let delay = ap (λ r. r.delay) (sym (output-read c.args.fitted.now.certificate.now c.args.output c.index-2.result.now there c.index-2.ensures)) in
    let none = nothing c.range_fault-ranges.result (sym c.is_some.ensures ∙ c.if-is_some.false) in
    let ranges = ranges-read Outputs c.args.output c.index.result.now.window c.index-2.result.now.delay (output_bound (certificate_rows c.args.fitted.now.certificate.now) c.args.output).window (output_bound (certificate_rows c.args.fitted.now.certificate.now) c.args.output).delay c.range_fault-ranges.result c.range_fault-ranges.ensures window delay in
    sym ranges ∙ none

pub output_fault-requires-clause-overdue : goal.output_fault-requires-clause-overdue
output_fault-requires-clause-overdue g c =
    let there : c.args.output < length c.args.fitted.now.certificate.now.outputs.items = omega (arith, c.requires.there, c.args.fitted.now.sized.outputs, outputs-count c.args.fitted.now.certificate.now) in
    let window = ap (λ r. r.window) (sym (output-read c.args.fitted.now.certificate.now c.args.output c.index.result.now there c.index.ensures)) in
    let delay = ap (λ r. r.delay) (sym (output-read c.args.fitted.now.certificate.now c.args.output c.index-2.result.now there c.index-2.ensures)) in
    delay-read (g.A.ArrivalBound.cap c.args.arrivals.now) (g.S.ServiceBound.floor c.args.service.now) (output_cap c.args.fitted.now.tables.now c.args.output) (output_floor c.args.fitted.now.tables.now c.args.output) c.requires.arrivals c.requires.service c.index.result.now.window c.index-2.result.now.delay (output_bound (certificate_rows c.args.fitted.now.certificate.now) c.args.output).window (output_bound (certificate_rows c.args.fitted.now.certificate.now) c.args.output).delay c.first_overdue-overdue.result c.first_overdue-overdue.ensures window delay

pub returns : goal.returns
returns g c =
    let there : c.args.output < length c.args.fitted.now.certificate.now.outputs.items = omega (arith, c.requires.there, c.args.fitted.now.sized.outputs, outputs-count c.args.fitted.now.certificate.now) in
    let window = ap (λ r. r.window) (sym (output-read c.args.fitted.now.certificate.now c.args.output c.index.result.now there c.index.ensures)) in
    let delay = ap (λ r. r.delay) (sym (output-read c.args.fitted.now.certificate.now c.args.output c.index-2.result.now there c.index-2.ensures)) in
    let none = nothing c.range_fault-ranges.result (sym c.is_some.ensures ∙ c.if-is_some.false) in
    let ranges = ranges-read Outputs c.args.output c.index.result.now.window c.index-2.result.now.delay (output_bound (certificate_rows c.args.fitted.now.certificate.now) c.args.output).window (output_bound (certificate_rows c.args.fitted.now.certificate.now) c.args.output).delay c.range_fault-ranges.result c.range_fault-ranges.ensures window delay in
    c.output_fault.ensures
    ∙ ap (λ o. option_or o (first_of (output_rules c.args.fitted.now.tables.now c.args.output (output_bound (certificate_rows c.args.fitted.now.certificate.now) c.args.output)))) (sym (sym ranges ∙ none))
    ∙ sym (job-output c.args.fitted.now.tables.now (certificate_rows c.args.fitted.now.certificate.now) c.args.output c.requires.there)
