use Rattle.std.proofs.Common.{refl, None}
use Rattle.dc_answer.specs.Answer.{Any, Reported}
use Rattle.dc_command.specs.declared.asked.Order.TheVariants.{Margins}
use Rattle.dc_run_margins.specs.Margins.{ReportsLeast}
use Rattle.dc_program.proofs.Running.{of_one, one_text, ran}
use Rattle.dc_program.proofs.optional.margins_least.Goals as goal

pub returns-in-Ok-clause-carries : goal.returns-in-Ok-clause-carries
returns-in-Ok-clause-carries g c = λ input.
    let sink = g.K.Sink.state c.args.sink.now in
    let sink' = g.K.Sink.state c.run_margins_least_told.new.sink in
    let failed = (g.W.File.Source.state c.run_margins_least_told.new.tables).failed in
    ran (Margins c.args.tables None c.args.told.microseconds c.args.told.drift c.args.told.json) _ _ _ _ _ input input failed c.in-Ok.ensures.opened refl
    (one_text (λ rows n. ReportsLeast c.args.told rows sink.contents sink'.contents n failed sink.failed sink'.failed c.run_margins_least_told.result) (g.W.File.Source.state c.in-Ok.tables) _ c.in-Ok.ensures.file c.run_margins_least_told.ensures.reports)
    (of_one (λ n. Reported Any sink.contents sink'.contents n failed sink.failed sink'.failed c.run_margins_least_told.result) (g.W.File.Source.state c.in-Ok.tables) _ c.in-Ok.ensures.file c.run_margins_least_told.ensures.reported)
