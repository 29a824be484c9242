use Rattle.std.proofs.Common.{refl}
use Rattle.dc_answer.specs.Answer.{Any, Reported}
use Rattle.dc_command.specs.declared.asked.Order.TheVariants.{Layout}
use Rattle.dc_run_design.specs.Layout.{ReportsLayout}
use Rattle.dc_program.proofs.Running.{of_one, one_text, ran}
use Rattle.dc_program.proofs.designs.layout.Goals as goal

pub returns-in-Ok-clause-carries : goal.returns-in-Ok-clause-carries
returns-in-Ok-clause-carries g c = λ input.
    let sink = g.K.Sink.state c.args.sink.now in
    let sink' = g.K.Sink.state c.run_layout.new.sink in
    let failed = (g.W.File.Source.state c.run_layout.new.tables).failed in
    ran (Layout c.args.tables) _ _ _ _ _ input input failed c.in-Ok.ensures.opened refl
    (one_text (λ rows n. ReportsLayout rows sink.contents sink'.contents n failed sink.failed sink'.failed c.run_layout.result) (g.W.File.Source.state c.in-Ok.tables) _ c.in-Ok.ensures.file c.run_layout.ensures.reports)
    (of_one (λ n. Reported Any sink.contents sink'.contents n failed sink.failed sink'.failed c.run_layout.result) (g.W.File.Source.state c.in-Ok.tables) _ c.in-Ok.ensures.file c.run_layout.ensures.reported)
