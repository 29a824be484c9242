use Rattle.std.proofs.Common.{◌+◌, refl}
use Rattle.dc_answer.specs.Answer.{Any, Reported}
use Rattle.dc_command.specs.declared.asked.Order.TheVariants.{Audit}
use Rattle.dc_run_audit.specs.Audit.{ReportsAudit}
use Rattle.dc_program.proofs.Running.{of_two_and_input, ran, texts_and_input}
use Rattle.dc_program.proofs.engines.audit.Goals as goal

pub returns-in-Ok-clause-carries : goal.returns-in-Ok-clause-carries
returns-in-Ok-clause-carries g c =
    let sink = g.K.Sink.state c.args.sink.now in
    let sink' = g.K.Sink.state c.run_audit.new.sink in
    let input = g.S.Source.state c.args.input.now in
    let input' = g.S.Source.state c.run_audit.new.trace in
    let first = (g.W.File.Source.state c.run_audit.new.tables).failed in
    let second = (g.W.File.Source.state c.run_audit.new.certificate).failed in
    ran (Audit c.args.tables c.args.certificate c.args.long) _ _ _ _ _ input input' (first + second) c.in-Ok.ensures.opened refl
    (texts_and_input (λ rows claims trace n m. ReportsAudit c.args.long rows claims trace sink.contents sink'.contents n m sink.failed sink'.failed c.run_audit.result)
    (g.W.File.Source.state c.in-Ok.tables) (g.W.File.Source.state c.in-Ok.certificate) _ _ _ input.failed first second input'.failed c.in-Ok.ensures.first c.in-Ok.ensures.second c.run_audit.ensures.reports)
    (of_two_and_input (λ n m. Reported Any sink.contents sink'.contents n m sink.failed sink'.failed c.run_audit.result)
    (g.W.File.Source.state c.in-Ok.tables) (g.W.File.Source.state c.in-Ok.certificate) _ _ input.failed first second input'.failed c.in-Ok.ensures.first c.in-Ok.ensures.second c.run_audit.ensures.reported)
