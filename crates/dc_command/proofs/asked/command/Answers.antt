use Rattle.dc_command.proofs.Simple.{words_ask, words_explain}
use Rattle.dc_command.proofs.asked.command.Goals as goal

pub returns-in-Ok-clause-asks : goal.returns-in-Ok-clause-asks
returns-in-Ok-clause-asks c =
    let program = c.in_ok-program.ensures in
    words_ask program.0 _ _ _ _ program.1.0 c.in_ok-matches.ensures.ok.2 c.in-Ok.ensures.asks

pub returns-in-Ok-clause-explains : goal.returns-in-Ok-clause-explains
returns-in-Ok-clause-explains c =
    let program = c.in_ok-program.ensures in
    words_explain program.0 _ _ _ _ program.1.0 c.in_ok-matches.ensures.ok.2 c.in-Ok.ensures.explains
