use Rattle.std.proofs.Common.{◌+◌, refl}
use Rattle.dc_answer.specs.Answer.{Any, Reported}
use Rattle.dc_command.specs.declared.asked.Order.TheVariants.{Replay}
use Rattle.dc_run.specs.Limits.{trace_limit}
use Rattle.dc_run.specs.Replay.{ReportsReplay}
use Rattle.dc_program.proofs.Running.{of_one, ran, text_and_input}
use Rattle.dc_program.proofs.engines.replay.Goals as goal

pub returns-in-Ok-clause-carries : goal.returns-in-Ok-clause-carries
returns-in-Ok-clause-carries g c =
    let sink = g.K.Sink.state c.args.sink.now in
    let sink' = g.K.Sink.state c.run_replay.new.sink in
    let input = g.S.Source.state c.args.input.now in
    let input' = g.S.Source.state c.run_replay.new.trace in
    let failed = (g.W.File.Source.state c.run_replay.new.tables).failed in
    ran (Replay c.args.tables c.args.all c.args.long) _ _ _ _ _ input input' failed c.in-Ok.ensures.opened refl
    (text_and_input (λ rows trace n. ReportsReplay (trace_limit c.args.long) c.args.all rows trace sink.contents sink'.contents (n + input.failed) (failed + input'.failed) sink.failed sink'.failed c.run_replay.result)
    (g.W.File.Source.state c.in-Ok.tables) _ _ c.in-Ok.ensures.file c.run_replay.ensures.reports)
    (of_one (λ n. Reported Any sink.contents sink'.contents (n + input.failed) (failed + input'.failed) sink.failed sink'.failed c.run_replay.result)
    (g.W.File.Source.state c.in-Ok.tables) _ c.in-Ok.ensures.file c.run_replay.ensures.reported)
