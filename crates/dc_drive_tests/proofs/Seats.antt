-- Seats of a hub.
use Rattle.std.proofs.Common.{ℕ, List}
use Rattle.std.proofs.lemmas.Option.{slice_get-get_or}
use Rattle.atomic_table.specs.Seated.{TableId}
use Rattle.dc_drive.specs.Played.{AreOfHub}
use Rattle.dc_hub.specs.Views.{WireView, AreNewWires}

pub new-of : (hub : TableId × List ℕ) (ws : List WireView) (n : ℕ) → AreNewWires hub ws n → AreOfHub hub ws
new-of hub ws n are k d inside = (are.1 k _ (slice_get-get_or ws k d inside)).board_seat
