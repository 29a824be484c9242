use Rattle.std.proofs.Common.{◌+◌, refl}
use Rattle.dc_answer.specs.Answer.{Any, Reported}
use Rattle.dc_command.specs.declared.asked.Order.TheVariants.{ReportObserved}
use Rattle.dc_run_report.specs.Paper.{ReportsObserved}
use Rattle.dc_program.proofs.Running.{of_three, ran, three_texts}
use Rattle.dc_program.proofs.optional.page_observed.Goals as goal

pub returns-in-Ok-clause-carries : goal.returns-in-Ok-clause-carries
returns-in-Ok-clause-carries g c = λ input.
    let sink = g.K.Sink.state c.args.sink.now in
    let sink' = g.K.Sink.state c.run_report_observed.new.sink in
    let failed = (g.W.File.Source.state c.run_report_observed.new.tables.source).failed + ((g.W.File.Source.state c.run_report_observed.new.certificate.source).failed + (g.W.File.Source.state c.run_report_observed.new.observed.source).failed) in
    ran (ReportObserved c.args.tables c.args.certificate c.args.observed c.args.drift) _ _ _ _ _ input input failed c.in-Ok.ensures.opened refl
    (three_texts (λ rows claims lines n. ReportsObserved rows claims lines sink.contents sink'.contents n failed sink.failed sink'.failed c.run_report_observed.result)
    (g.W.File.Source.state c.in-Ok.rows) (g.W.File.Source.state c.in-Ok.claims) (g.W.File.Source.state c.in-Ok.lines) _ _ _ c.in-Ok.ensures.first c.in-Ok.ensures.second c.in-Ok.ensures.third c.run_report_observed.ensures.reports)
    (of_three (λ n. Reported Any sink.contents sink'.contents n failed sink.failed sink'.failed c.run_report_observed.result)
    (g.W.File.Source.state c.in-Ok.rows) (g.W.File.Source.state c.in-Ok.claims) (g.W.File.Source.state c.in-Ok.lines) _ _ _ c.in-Ok.ensures.first c.in-Ok.ensures.second c.in-Ok.ensures.third c.run_report_observed.ensures.reported)
