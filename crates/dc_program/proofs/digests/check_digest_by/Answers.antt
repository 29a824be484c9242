use Rattle.std.proofs.Common.{◌⊎◌, ◌+◌, refl, Some, true}
use Rattle.dc_answer.specs.Answer.{Any, Reported}
use Rattle.dc_answer.specs.Threads.{ReportsThreads}
use Rattle.dc_command.specs.declared.asked.Order.TheVariants.{Check}
use Rattle.dc_digest.specs.Digests.{ReportsDigests}
use Rattle.dc_program.proofs.Running.{of_two, ran_by, two_texts}
use Rattle.dc_program.proofs.digests.check_digest_by.Goals as goal

pub returns-in-Ok-clause-carries : goal.returns-in-Ok-clause-carries
returns-in-Ok-clause-carries g c = λ input.
    let sink = g.K.Sink.state c.args.sink.now in
    let sink' = g.K.Sink.state c.check_digest.new.sink in
    let failed = (g.W.File.Source.state c.check_digest.new.tables).failed + (g.W.File.Source.state c.check_digest.new.certificate).failed in
    ran_by (Check c.args.tables c.args.certificate (Some c.args.workers) true) _ _ _ _ _ _ input input failed c.in-Ok.ensures.opened refl
    (two_texts (λ rows claims n. ReportsDigests rows claims sink.contents sink'.contents n failed sink.failed sink'.failed c.check_digest.result ⊎ ReportsThreads sink.contents sink'.contents n failed sink.failed sink'.failed c.check_digest.result) (g.W.File.Source.state c.in-Ok.tables) (g.W.File.Source.state c.in-Ok.certificate) _ _ c.in-Ok.ensures.first c.in-Ok.ensures.second c.check_digest.ensures.reports)
    (of_two (λ n. Reported Any sink.contents sink'.contents n failed sink.failed sink'.failed c.check_digest.result ⊎ ReportsThreads sink.contents sink'.contents n failed sink.failed sink'.failed c.check_digest.result) (g.W.File.Source.state c.in-Ok.tables) (g.W.File.Source.state c.in-Ok.certificate) _ _ c.in-Ok.ensures.first c.in-Ok.ensures.second c.check_digest.ensures.reported)
