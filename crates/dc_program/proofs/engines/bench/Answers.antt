use Rattle.std.proofs.Common.{◌⊎◌, ◌+◌, refl}
use Rattle.dc_answer.specs.Answer.{Any, Reported}
use Rattle.dc_answer.specs.Threads.{ReportsThreads}
use Rattle.dc_command.specs.declared.asked.Order.TheVariants.{Bench}
use Rattle.dc_run_bench.specs.Bench.{ReportsBench}
use Rattle.dc_program.proofs.Running.{of_two, ran_by, two_texts}
use Rattle.dc_program.proofs.engines.bench.Goals as goal

pub returns-in-Ok-clause-carries : goal.returns-in-Ok-clause-carries
returns-in-Ok-clause-carries g c = λ input.
    let sink = g.K.Sink.state c.args.sink.now in
    let sink' = g.K.Sink.state c.bench.new.sink in
    let failed = (g.W.File.Source.state c.bench.new.tables).failed + (g.W.File.Source.state c.bench.new.certificate).failed in
    ran_by (Bench c.args.tables c.args.certificate c.args.ticks c.args.marks) _ _ _ _ _ _ input input failed c.in-Ok.ensures.opened refl
    (two_texts (λ rows claims n. ReportsBench rows claims c.args.ticks c.args.marks sink.contents sink'.contents n failed sink.failed sink'.failed c.bench.result ⊎ ReportsThreads sink.contents sink'.contents n failed sink.failed sink'.failed c.bench.result) (g.W.File.Source.state c.in-Ok.tables) (g.W.File.Source.state c.in-Ok.certificate) _ _ c.in-Ok.ensures.first c.in-Ok.ensures.second c.bench.ensures.reports)
    (of_two (λ n. Reported Any sink.contents sink'.contents n failed sink.failed sink'.failed c.bench.result ⊎ ReportsThreads sink.contents sink'.contents n failed sink.failed sink'.failed c.bench.result) (g.W.File.Source.state c.in-Ok.tables) (g.W.File.Source.state c.in-Ok.certificate) _ _ c.in-Ok.ensures.first c.in-Ok.ensures.second c.bench.ensures.reported)
