use Rattle.std.proofs.Common.{◌+◌, refl, Some}
use Rattle.dc_answer.specs.Answer.{Any, Reported}
use Rattle.dc_command.specs.declared.asked.Order.TheVariants.{Report}
use Rattle.dc_run_report.specs.Paper.{ReportsPage}
use Rattle.dc_program.proofs.Running.{of_two, ran, two_texts}
use Rattle.dc_program.proofs.optional.page_given.Goals as goal

pub returns-in-Ok-clause-carries : goal.returns-in-Ok-clause-carries
returns-in-Ok-clause-carries g c = λ input.
    let sink = g.K.Sink.state c.args.sink.now in
    let sink' = g.K.Sink.state c.run_report_of.new.sink in
    let failed = (g.W.File.Source.state c.run_report_of.new.tables.source).failed + (g.W.File.Source.state c.run_report_of.new.certificate.source).failed in
    ran (Report c.args.tables (Some c.args.certificate) c.args.drift) _ _ _ _ _ input input failed c.in-Ok.ensures.opened refl
    (two_texts (λ rows claims n. ReportsPage rows claims sink.contents sink'.contents n failed sink.failed sink'.failed c.run_report_of.result) (g.W.File.Source.state c.in-Ok.rows) (g.W.File.Source.state c.in-Ok.claims) _ _ c.in-Ok.ensures.first c.in-Ok.ensures.second c.run_report_of.ensures.reports)
    (of_two (λ n. Reported Any sink.contents sink'.contents n failed sink.failed sink'.failed c.run_report_of.result) (g.W.File.Source.state c.in-Ok.rows) (g.W.File.Source.state c.in-Ok.claims) _ _ c.in-Ok.ensures.first c.in-Ok.ensures.second c.run_report_of.ensures.reported)
