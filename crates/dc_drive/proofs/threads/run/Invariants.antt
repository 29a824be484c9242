use Rattle.dc_drive.specs.Played.{IsSameSeat}
use Rattle.dc_drive.proofs.threads.run.Given as goal

abbrev pub invariant-loop-tick : goal.invariant-loop-tick
invariant-loop-tick g l = IsSameSeat (g.S.Player.seat l.fn.seat) (g.S.Player.seat l.seat) × g.S.Player.is_of_hub l.stage.hub.now l.seat
