-- Seats of a board.
use Rattle.std.proofs.Common.{ℕ, List}
use Rattle.std.proofs.lemmas.Option.{slice_get-get_or}
use Rattle.atomic_table.specs.Seated.{TableId}
use Rattle.dc_hub.specs.Views.{WireView, AreNewWires}
use Rattle.dc_hub_tests.specs.OfBoard.{AreOfBoard}

pub new-of : (board : TableId × List ℕ) (ws : List WireView) (n : ℕ) → AreNewWires board ws n → AreOfBoard board ws
new-of board ws n are k d inside = (are.1 k _ (slice_get-get_or ws k d inside)).board_seat
