use Rattle.std.proofs.Common.{ap}
use Rattle.dc_run_trace.proofs.Reporting.{trace_reported, trace_reports}
use Rattle.dc_run_trace.proofs.engine.run_trace.Goals as goal

pub returns-clause-reports : goal.returns-clause-reports
returns-clause-reports g c =
    let ended = c.trace-ended.ensures in
    let report = c.report.ensures in
    trace_reports _ _ c.args.from _ _ _ c.trace-ended.result _ _ _ _ _ c.report.result ended.answer (λ e. ap (λ s. (g.K.Sink.state s).contents) (ended.memory e)) ended.source ended.sink report.rise report.exit report.reports

pub returns-clause-reported : goal.returns-clause-reported
returns-clause-reported g c =
    let ended = c.trace-ended.ensures in
    let report = c.report.ensures in
    trace_reported _ _ _ c.trace-ended.result _ _ _ _ _ c.report.result ended.some (λ e. ap (λ s. (g.K.Sink.state s).contents) (ended.memory e)) ended.source ended.sink report.rise report.exit report.reports
