-- What tables keep of each bus.
use Rattle.std.specs.Prelude.{List, take, drop}
use Rattle.std.specs.List.{AllZip}
use Rattle.dc_tables.specs.declared.alike.BusKept.{BusKept}
use Rattle.dc_tables.specs.declared.rows.Bus.{Bus}
use Rattle.dc_tables.specs.declared.rows.Stream.{Stream}
use Rattle.dc_tables.specs.Bounds.{AreBoundsOf}
use Rattle.dc_tables.specs.Places.{AreFirst}

-- it is of these streams: their bounds, and where they stand
pub record IsBusKept (kept : BusKept) (streams : List Stream) : Type 0 where
  pub bounds : AreBoundsOf kept.bounds streams
  pub places : AreFirst kept.places.places streams 0

-- that of each bus is of its streams
abbrev pub AreBusesKept : List BusKept → List Bus → List Stream → Type 0
AreBusesKept kept buses streams = AllZip (λ own row. IsBusKept own (take row.streams (drop row.first streams))) kept buses
