use Rattle.std.proofs.Common.{◌+◌, refl, Some}
use Rattle.dc_answer.specs.Answer.{Any, Reported}
use Rattle.dc_command.specs.declared.asked.Order.TheVariants.{Margins}
use Rattle.dc_run_margins.specs.Margins.{ReportsMargins}
use Rattle.dc_program.proofs.Running.{of_two, ran, two_texts}
use Rattle.dc_program.proofs.optional.margins_given.Goals as goal

pub returns-in-Ok-clause-carries : goal.returns-in-Ok-clause-carries
returns-in-Ok-clause-carries g c = λ input.
    let sink = g.K.Sink.state c.args.sink.now in
    let sink' = g.K.Sink.state c.run_margins_told.new.sink in
    let failed = (g.W.File.Source.state c.run_margins_told.new.tables).failed + (g.W.File.Source.state c.run_margins_told.new.certificate).failed in
    ran (Margins c.args.tables (Some c.args.certificate) c.args.told.microseconds c.args.told.drift c.args.told.json) _ _ _ _ _ input input failed c.in-Ok.ensures.opened refl
    (two_texts (λ rows claims n. ReportsMargins c.args.told rows claims sink.contents sink'.contents n failed sink.failed sink'.failed c.run_margins_told.result) (g.W.File.Source.state c.in-Ok.tables) (g.W.File.Source.state c.in-Ok.certificate) _ _ c.in-Ok.ensures.first c.in-Ok.ensures.second c.run_margins_told.ensures.reports)
    (of_two (λ n. Reported Any sink.contents sink'.contents n failed sink.failed sink'.failed c.run_margins_told.result) (g.W.File.Source.state c.in-Ok.tables) (g.W.File.Source.state c.in-Ok.certificate) _ _ c.in-Ok.ensures.first c.in-Ok.ensures.second c.run_margins_told.ensures.reported)
