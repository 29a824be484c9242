use Rattle.dc_run_bench.proofs.Benching.{new-of}
use Rattle.dc_run_bench.proofs.driven.run_hub.Goals as goal

pub drive_hub-requires-clause-of_hub : goal.drive_hub-requires-clause-of_hub
drive_hub-requires-clause-of_hub g c κs within = new-of _ _ _ c.in-Ok.ensures.wires
