use Rattle.dc_run_network.specs.lemmas.Halting.{halt-told}
use Rattle.dc_run_network.proofs.members.member_of.Goals as goal

pub returns-in-Err-clause-judged : goal.returns-in-Err-clause-judged
returns-in-Err-clause-judged g c =
    halt-told (g.F.Shelf.holds c.args.shelf.now) c.args.folder.now c.args.concentrator.now c.name.result c.read_one.new.line.items c.tell_halt.new.page c.in-Err.halt c.tell_halt.result c.name.ensures c.tell_halt.ensures.told c.in-Err.ensures.said c.in-Err.ensures.judged
