use Rattle.dc_drive_tests.proofs.Seats.{new-of}
use Rattle.dc_drive_tests.proofs.refused.open_once.Goals as goal

pub drive_once-requires-clause-of_hub : goal.drive_once-requires-clause-of_hub
drive_once-requires-clause-of_hub g c κs within = new-of _ _ _ c.in-Ok.ensures.wires
