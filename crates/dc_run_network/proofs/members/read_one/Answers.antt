use Rattle.dc_run_network.proofs.members.read_one.Goals as goal

pub returns-in-Ok-open-clause-keeps : goal.returns-in-Ok-open-clause-keeps
returns-in-Ok-open-clause-keeps g c = g.F.Shelf.keeps_on c.args.shelf.now c.open.new.shelf c.open-in-Ok.new.shelf c.in-Ok.ensures.keeps c.in-Ok-open.ensures.keeps

pub returns-in-Ok-clause-judged : goal.returns-in-Ok-clause-judged
returns-in-Ok-clause-judged g c = λ rows text one two. c.halt_by.ensures.untold rows text

pub returns-clause-judged : goal.returns-clause-judged
returns-clause-judged g c = λ rows text one two. c.halt_by-in-Err.ensures.untold rows text
