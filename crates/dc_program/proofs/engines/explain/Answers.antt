use Rattle.std.proofs.Common.{refl}
use Rattle.dc_answer.specs.lemmas.Judgments.{reported_any}
use Rattle.dc_command.specs.declared.asked.Order.TheVariants.{Explain}
use Rattle.dc_program.proofs.Running.{ran}
use Rattle.dc_program.proofs.engines.explain.Goals as goal

pub returns-clause-carries : goal.returns-clause-carries
returns-clause-carries g c = λ input.
    let sink = g.K.Sink.state c.args.sink.now in
    let sink' = g.K.Sink.state c.run_explain.new.sink in
    ran (Explain c.args.code) _ _ _ _ _ input input 0 (record { opened = c.requires.new.opened; refused = c.requires.new.refused; crew = c.requires.new.crew; saved = c.requires.new.saved }) refl c.run_explain.ensures.reports
    (reported_any _ sink.contents sink'.contents 0 0 sink.failed sink'.failed c.run_explain.result c.run_explain.ensures.reports)
