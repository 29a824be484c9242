use Rattle.dc_texts.proofs.Found.{found_text}
use Rattle.dc_texts.proofs.finding.find_text.Goals as goal

pub returns-in-Ok : goal.returns-in-Ok
returns-in-Ok c = found_text c.args.tables.now c.in-Ok.tables c.find_for.result c.in-Ok.ensures c.find_for.ensures
