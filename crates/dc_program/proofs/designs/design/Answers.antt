use Rattle.std.proofs.Common.{◌+◌, option_map, inr}
use Rattle.dc_answer.specs.Answer.{Any, Reported}
use Rattle.dc_run_design.specs.Design.{ReportsDesign}
use Rattle.dc_program.proofs.Running.{left_after, made, of_two, two_texts}
use Rattle.dc_program.proofs.designs.design.Goals as goal

pub returns-in-Ok-clause-carries : goal.returns-in-Ok-clause-carries
returns-in-Ok-clause-carries g c = λ input.
    let sink = g.K.Sink.state c.args.sink.now in
    let mid = g.K.Sink.state c.run_design-ended.new.sink in
    let text = c.run_design-ended.new.certificate.items in
    let ended = c.run_design-ended.result in
    let failed = (g.W.File.Source.state c.run_design-ended.new.inputs).failed + (g.W.File.Source.state c.run_design-ended.new.outputs).failed in
    inr (inr (made c.args.inputs.now c.args.outputs.now (option_map (λ s. s.now) c.args.certificate) _ _ _ input sink mid _ failed text ended _ c.in-Ok.ensures.opened c.save.ensures.opened c.save.ensures.crew
    (two_texts (λ ins outs n. ReportsDesign ins outs text sink.contents mid.contents n failed sink.failed mid.failed ended) (g.W.File.Source.state c.in-Ok.inputs) (g.W.File.Source.state c.in-Ok.outputs) _ _ c.in-Ok.ensures.first c.in-Ok.ensures.second c.run_design-ended.ensures.reports)
    (of_two (λ n. Reported Any sink.contents mid.contents n failed sink.failed mid.failed ended) (g.W.File.Source.state c.in-Ok.inputs) (g.W.File.Source.state c.in-Ok.outputs) _ _ c.in-Ok.ensures.first c.in-Ok.ensures.second c.run_design-ended.ensures.reported)
    c.save.ensures.saves))

pub returns-in-Ok-clause-left : goal.returns-in-Ok-clause-left
returns-in-Ok-clause-left g c = left_after (g.K.Sink.state c.args.sink.now) (g.K.Sink.state c.run_design-ended.new.sink) (g.K.Sink.state c.save.new.sink) c.run_design-ended.result c.save.result c.run_design-ended.ensures.left c.run_design-ended.ensures.silent c.save.ensures.left
