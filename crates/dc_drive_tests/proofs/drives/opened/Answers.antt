use Rattle.dc_drive_tests.proofs.Seats.{new-of}
use Rattle.dc_drive_tests.proofs.drives.opened.Goals as goal

pub returns-in-Ok-clause-wires : goal.returns-in-Ok-clause-wires
returns-in-Ok-clause-wires g c = new-of _ _ _ c.in-Ok.ensures.wires
