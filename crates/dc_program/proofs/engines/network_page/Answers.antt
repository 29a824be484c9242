use Rattle.std.proofs.Common.{None, inr}
use Rattle.dc_run_network.specs.Answer.{IsAnyPage}
use Rattle.dc_program.proofs.Running.{network_judged}
use Rattle.dc_program.proofs.engines.network_page.Goals as goal

pub returns-in-Ok-clause-carries : goal.returns-in-Ok-clause-carries
returns-in-Ok-clause-carries g c = λ input.
    let mid = g.W.World.state c.open_one.new.world in
    let w' = g.W.World.state c.run_network_page.new.shelf in
    inr (inr (network_judged IsAnyPage ⊥ None c.args.system.now (g.W.World.state c.args.world.now) mid w' (g.W.Shelf.holds c.open_one.new.world) (g.W.File.Source.state c.in-Ok.text) input (g.K.Sink.state c.args.sink.now) (g.K.Sink.state c.run_network_page.new.sink) c.run_network_page.result
    c.in-Ok.ensures.opened.opened c.in-Ok.ensures.opened.crew c.in-Ok.ensures.opened.saved c.in-Ok.ensures.file c.open_one.ensures.holds c.is_shelf.ensures.held (c.is_shelf.ensures.stays c.open_one.new.world c.run_network_page.new.shelf c.run_network_page.ensures.keeps) c.run_network_page.ensures.reports))
