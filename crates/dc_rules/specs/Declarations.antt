-- What streams declare, to be looked up.
use Rattle.std.specs.Prelude.{ℕ, Bool, ◌==◌, ◌&&◌, ◌||◌, nat_eq, Option, Some, None, List}
use Rattle.std.specs.List.{list_any}
use Rattle.std.specs.Option.{option_eq}
use Rattle.dc_document.specs.declared.parts.StreamPart.{StreamPart}
use Rattle.dc_rules.specs.declared.keys.BusLabel.{BusLabel}
use Rattle.dc_rules.specs.declared.keys.Declared.{Declared}

-- a label on a bus
abbrev pub place_of : StreamPart → BusLabel
place_of s = record { bus = s.bus; label = s.label }

-- whether it is the same label on the same bus
abbrev pub same_place : BusLabel → BusLabel → Bool
same_place a b = (a.bus == b.bus) && (a.label == b.label)

-- the same with one SDI, or any
abbrev pub declaring : StreamPart → Option ℕ → Declared
declaring s sdi = record { bus = s.bus; label = s.label; sdi = sdi }

-- whether it is the same label on the same bus with the same SDI, or any on both
abbrev pub same_declared : Declared → Declared → Bool
same_declared a b = (a.bus == b.bus) && ((a.label == b.label) && option_eq nat_eq a.sdi b.sdi)

-- whether a stream overlaps with one of those that are known by their labels and by what they declare
abbrev pub overlaps_sdi : Option ℕ → StreamPart → List BusLabel → List Declared → Bool
overlaps_sdi None s labels exact = list_any (same_place (place_of s)) labels
overlaps_sdi (Some a) s labels exact = list_any (same_declared (declaring s (Some a))) exact || list_any (same_declared (declaring s None)) exact

-- the same by the SDI that the stream declares
abbrev pub overlaps_known : StreamPart → List BusLabel → List Declared → Bool
overlaps_known s labels exact = overlaps_sdi s.sdi s labels exact
