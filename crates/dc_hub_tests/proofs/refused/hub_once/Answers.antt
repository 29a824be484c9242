use Rattle.dc_hub_tests.proofs.Seats.{new-of}
use Rattle.dc_hub_tests.proofs.refused.hub_once.Goals as goal

pub arrive_and_close-requires-clause-wires : goal.arrive_and_close-requires-clause-wires
arrive_and_close-requires-clause-wires g c = new-of _ _ _ c.in-Ok.ensures.wires
