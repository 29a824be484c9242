-- What is asked of wires' seats before they make calls.
use Rattle.std.specs.Prelude.{ℕ, List, All}
use Rattle.atomic_table.specs.Seated.{TableId}
use Rattle.dc_board.specs.Marks.{IsSeatOf}
use Rattle.dc_hub.specs.Views.{WireView}

-- each wire's seat is of this board
abbrev pub AreOfBoard : TableId × List ℕ → List WireView → Type 0
AreOfBoard board wires = All (λ (w : WireView). IsSeatOf board w.marks) wires
