use Rattle.std.proofs.Common.{◌<◌, length, sym, ap, ◌∙◌, arith}
use Rattle.std.specs.Option.{option_or}
use Rattle.dc_cert.specs.Bounds.{input_bound, certificate_rows}
use Rattle.dc_check.specs.lemmas.CertificateReads.{inputs-count, input-read}
use Rattle.dc_check.specs.lemmas.Exact.{ranges-none, job-input}
use Rattle.dc_check.specs.lemmas.Firsts.{at_front, nothing, ranges-read, backlog-read, delay-read}
use Rattle.dc_check.specs.Verdict.{first_of, input_rules}
use Rattle.dc_check.specs.declared.fault.CertificateList.TheVariants.{Inputs}
use Rattle.dc_tables.specs.TableRows.{bus_cap, bus_floor}
use Rattle.dc_check.proofs.queues.input_job.Goals as goal

pub returns-then-is_some : goal.returns-then-is_some
returns-then-is_some g c =
    let there : c.args.bus < length c.args.fitted.now.certificate.now.inputs.items = omega (arith, c.requires.there, c.args.fitted.now.sized.inputs, inputs-count c.args.fitted.now.certificate.now) in
    let window = ap (λ r. r.window) (sym (input-read c.args.fitted.now.certificate.now c.args.bus c.index.result.now there c.index.ensures)) in
    let delay = ap (λ r. r.delay) (sym (input-read c.args.fitted.now.certificate.now c.args.bus c.index-3.result.now there c.index-3.ensures)) in
    let ranges = ranges-read Inputs c.args.bus c.index.result.now.window c.index-3.result.now.delay (input_bound (certificate_rows c.args.fitted.now.certificate.now) c.args.bus).window (input_bound (certificate_rows c.args.fitted.now.certificate.now) c.args.bus).delay c.range_fault-ranges.result c.range_fault-ranges.ensures window delay in
    at_front c.range_fault-ranges.result (first_of (input_rules c.args.fitted.now.tables.now c.args.bus (input_bound (certificate_rows c.args.fitted.now.certificate.now) c.args.bus))) (sym c.is_some.ensures ∙ c.if-is_some.true)
    ∙ ap (λ o. option_or o (first_of (input_rules c.args.fitted.now.tables.now c.args.bus (input_bound (certificate_rows c.args.fitted.now.certificate.now) c.args.bus)))) ranges
    ∙ sym (job-input c.args.fitted.now.tables.now (certificate_rows c.args.fitted.now.certificate.now) c.args.bus c.requires.there)

pub first_failing-overfull-requires-clause-least : goal.first_failing-overfull-requires-clause-least
first_failing-overfull-requires-clause-least g c =
    let none = nothing c.range_fault-ranges.result (sym c.is_some.ensures ∙ c.if-is_some.false) in
    let r = ranges-none Inputs c.args.bus c.index.result.now.window c.index-3.result.now.delay (sym c.range_fault-ranges.ensures ∙ none) in
    r.0

pub first_failing-overfull-requires-clause-most : goal.first_failing-overfull-requires-clause-most
first_failing-overfull-requires-clause-most g c =
    let none = nothing c.range_fault-ranges.result (sym c.is_some.ensures ∙ c.if-is_some.false) in
    let r = ranges-none Inputs c.args.bus c.index.result.now.window c.index-3.result.now.delay (sym c.range_fault-ranges.ensures ∙ none) in
    r.1

pub first_failing-overfull-requires-clause-short : goal.first_failing-overfull-requires-clause-short
first_failing-overfull-requires-clause-short g c =
    let none = nothing c.range_fault-ranges.result (sym c.is_some.ensures ∙ c.if-is_some.false) in
    let r = ranges-none Inputs c.args.bus c.index.result.now.window c.index-3.result.now.delay (sym c.range_fault-ranges.ensures ∙ none) in
    r.2

pub input_fault-requires-clause-ranges : goal.input_fault-requires-clause-ranges
input_fault-requires-clause-ranges g c =
    let there : c.args.bus < length c.args.fitted.now.certificate.now.inputs.items = omega (arith, c.requires.there, c.args.fitted.now.sized.inputs, inputs-count c.args.fitted.now.certificate.now) in
    let window = ap (λ r. r.window) (sym (input-read c.args.fitted.now.certificate.now c.args.bus c.index.result.now there c.index.ensures)) in
    let delay = ap (λ r. r.delay) (sym (input-read c.args.fitted.now.certificate.now c.args.bus c.index-3.result.now there c.index-3.ensures)) in
    let none = nothing c.range_fault-ranges.result (sym c.is_some.ensures ∙ c.if-is_some.false) in
    let ranges = ranges-read Inputs c.args.bus c.index.result.now.window c.index-3.result.now.delay (input_bound (certificate_rows c.args.fitted.now.certificate.now) c.args.bus).window (input_bound (certificate_rows c.args.fitted.now.certificate.now) c.args.bus).delay c.range_fault-ranges.result c.range_fault-ranges.ensures window delay in
    sym ranges ∙ none

pub input_fault-requires-clause-overfull : goal.input_fault-requires-clause-overfull
input_fault-requires-clause-overfull g c =
    let there : c.args.bus < length c.args.fitted.now.certificate.now.inputs.items = omega (arith, c.requires.there, c.args.fitted.now.sized.inputs, inputs-count c.args.fitted.now.certificate.now) in
    let window = ap (λ r. r.window) (sym (input-read c.args.fitted.now.certificate.now c.args.bus c.index.result.now there c.index.ensures)) in
    let backlog = ap (λ r. r.backlog) (sym (input-read c.args.fitted.now.certificate.now c.args.bus c.index-2.result.now there c.index-2.ensures)) in
    backlog-read (g.A.ArrivalBound.cap c.args.arrivals.now) (g.S.ServiceBound.floor c.args.service.now) (bus_cap c.args.fitted.now.tables.now c.args.bus) (bus_floor c.args.fitted.now.tables.now c.args.bus) c.requires.arrivals c.requires.service c.index.result.now.window c.index-2.result.now.backlog (input_bound (certificate_rows c.args.fitted.now.certificate.now) c.args.bus).window (input_bound (certificate_rows c.args.fitted.now.certificate.now) c.args.bus).backlog c.first_failing-overfull.result.0 c.first_failing-overfull.ensures.backlog window backlog

pub input_fault-requires-clause-overdue : goal.input_fault-requires-clause-overdue
input_fault-requires-clause-overdue g c =
    let there : c.args.bus < length c.args.fitted.now.certificate.now.inputs.items = omega (arith, c.requires.there, c.args.fitted.now.sized.inputs, inputs-count c.args.fitted.now.certificate.now) in
    let window = ap (λ r. r.window) (sym (input-read c.args.fitted.now.certificate.now c.args.bus c.index.result.now there c.index.ensures)) in
    let delay = ap (λ r. r.delay) (sym (input-read c.args.fitted.now.certificate.now c.args.bus c.index-3.result.now there c.index-3.ensures)) in
    delay-read (g.A.ArrivalBound.cap c.args.arrivals.now) (g.S.ServiceBound.floor c.args.service.now) (bus_cap c.args.fitted.now.tables.now c.args.bus) (bus_floor c.args.fitted.now.tables.now c.args.bus) c.requires.arrivals c.requires.service c.index.result.now.window c.index-3.result.now.delay (input_bound (certificate_rows c.args.fitted.now.certificate.now) c.args.bus).window (input_bound (certificate_rows c.args.fitted.now.certificate.now) c.args.bus).delay c.first_failing-overfull.result.1 c.first_failing-overfull.ensures.delay window delay

pub returns : goal.returns
returns g c =
    let there : c.args.bus < length c.args.fitted.now.certificate.now.inputs.items = omega (arith, c.requires.there, c.args.fitted.now.sized.inputs, inputs-count c.args.fitted.now.certificate.now) in
    let window = ap (λ r. r.window) (sym (input-read c.args.fitted.now.certificate.now c.args.bus c.index.result.now there c.index.ensures)) in
    let delay = ap (λ r. r.delay) (sym (input-read c.args.fitted.now.certificate.now c.args.bus c.index-3.result.now there c.index-3.ensures)) in
    let none = nothing c.range_fault-ranges.result (sym c.is_some.ensures ∙ c.if-is_some.false) in
    let ranges = ranges-read Inputs c.args.bus c.index.result.now.window c.index-3.result.now.delay (input_bound (certificate_rows c.args.fitted.now.certificate.now) c.args.bus).window (input_bound (certificate_rows c.args.fitted.now.certificate.now) c.args.bus).delay c.range_fault-ranges.result c.range_fault-ranges.ensures window delay in
    c.input_fault.ensures
    ∙ ap (λ o. option_or o (first_of (input_rules c.args.fitted.now.tables.now c.args.bus (input_bound (certificate_rows c.args.fitted.now.certificate.now) c.args.bus)))) (sym (sym ranges ∙ none))
    ∙ sym (job-input c.args.fitted.now.tables.now (certificate_rows c.args.fitted.now.certificate.now) c.args.bus c.requires.there)
