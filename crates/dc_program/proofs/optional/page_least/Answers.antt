use Rattle.std.proofs.Common.{refl, None}
use Rattle.dc_answer.specs.Answer.{Any, Reported}
use Rattle.dc_command.specs.declared.asked.Order.TheVariants.{Report}
use Rattle.dc_run_report.specs.Paper.{ReportsLeast}
use Rattle.dc_program.proofs.Running.{of_one, one_text, ran}
use Rattle.dc_program.proofs.optional.page_least.Goals as goal

pub returns-in-Ok-clause-carries : goal.returns-in-Ok-clause-carries
returns-in-Ok-clause-carries g c = λ input.
    let sink = g.K.Sink.state c.args.sink.now in
    let sink' = g.K.Sink.state c.run_report_least_of.new.sink in
    let failed = (g.W.File.Source.state c.run_report_least_of.new.tables.source).failed in
    ran (Report c.args.tables None c.args.drift) _ _ _ _ _ input input failed c.in-Ok.ensures.opened refl
    (one_text (λ rows n. ReportsLeast rows sink.contents sink'.contents n failed sink.failed sink'.failed c.run_report_least_of.result) (g.W.File.Source.state c.in-Ok.source) _ c.in-Ok.ensures.file c.run_report_least_of.ensures.reports)
    (of_one (λ n. Reported Any sink.contents sink'.contents n failed sink.failed sink'.failed c.run_report_least_of.result) (g.W.File.Source.state c.in-Ok.source) _ c.in-Ok.ensures.file c.run_report_least_of.ensures.reported)
