use Rattle.std.proofs.Common.{refl}
use Rattle.dc_answer.specs.Answer.{Any, Reported}
use Rattle.dc_command.specs.declared.asked.Order.TheVariants.{Find}
use Rattle.dc_run.specs.Find.{ReportsFind}
use Rattle.dc_program.proofs.Running.{of_one, one_text, ran}
use Rattle.dc_program.proofs.engines.find.Goals as goal

pub returns-in-Ok-clause-carries : goal.returns-in-Ok-clause-carries
returns-in-Ok-clause-carries g c = λ input.
    let sink = g.K.Sink.state c.args.sink.now in
    let sink' = g.K.Sink.state c.run_find.new.sink in
    let failed = (g.W.File.Source.state c.run_find.new.tables).failed in
    ran (Find c.args.tables) _ _ _ _ _ input input failed c.in-Ok.ensures.opened refl
    (one_text (λ rows n. ReportsFind rows sink.contents sink'.contents n failed sink.failed sink'.failed c.run_find.result) (g.W.File.Source.state c.in-Ok.tables) _ c.in-Ok.ensures.file c.run_find.ensures.reports)
    (of_one (λ n. Reported Any sink.contents sink'.contents n failed sink.failed sink'.failed c.run_find.result) (g.W.File.Source.state c.in-Ok.tables) _ c.in-Ok.ensures.file c.run_find.ensures.reported)
