use Rattle.std.proofs.Common.{Some, ap, inr, ◌∙◌}
use Rattle.dc_run_network.specs.Answer.{IsLines}
use Rattle.dc_program.proofs.Running.{network_judged}
use Rattle.dc_program.specs.World.{WorldState}
use Rattle.dc_program.specs.declared.world.Crew.TheVariants.{Workers}
use Rattle.dc_program.proofs.engines.network_by.Goals as goal

pub returns-in-Ok-clause-carries : goal.returns-in-Ok-clause-carries
returns-in-Ok-clause-carries g c = λ input.
    let asked = c.ask_threads.ensures in
    let mid = g.W.World.state c.ask_threads.new.self in
    let w' = g.W.World.state c.network.new.shelf in
    inr (inr (network_judged IsLines (Unit {0}) (Some (Workers c.args.workers)) c.args.system.now (g.W.World.state c.args.world.now) mid w' (g.W.Shelf.holds c.ask_threads.new.self) (g.W.File.Source.state c.in-Ok.text) input (g.K.Sink.state c.args.sink.now) (g.K.Sink.state c.network.new.sink) c.network.result
    (ap (λ (w : WorldState). w.opened) asked ∙ c.in-Ok.ensures.opened.opened) (ap (λ (w : WorldState). w.crew) asked) (ap (λ (w : WorldState). w.saved) asked ∙ c.in-Ok.ensures.opened.saved) c.in-Ok.ensures.file
    (ap (λ (w : WorldState). w.holds) asked ∙ c.open_one.ensures.holds) c.is_shelf.ensures.held (c.is_shelf.ensures.stays c.ask_threads.new.self c.network.new.shelf c.network.ensures.keeps) c.network.ensures.reports))
