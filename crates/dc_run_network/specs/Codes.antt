-- The codes of the faults of a system's text and of links.
use Rattle.std.specs.Prelude.{ℕ, List, codes}
use Rattle.dc_system_text.specs.declared.fault.SystemRule.{SystemRule}
use Rattle.dc_system_text.specs.declared.fault.SystemRule.TheVariants.{NotToml, VersionUnknown, KeyAbsent, KeyUnknown, WrongKind, NumberOutOfRange, WrongSpelling, CountOutOfRange, NameDoubled, ConcentratorAbsent, FedTwice, LatencyReversed}
use Rattle.dc_ways.specs.declared.fitting.StreamRule.{StreamRule}
use Rattle.dc_ways.specs.declared.fitting.StreamRule.TheVariants.{TwoLabels, Formats, TooSoon, TooLate}

-- of a system's text
abbrev pub system_code : SystemRule → List ℕ
system_code NotToml = codes "N01"
system_code VersionUnknown = codes "N02"
system_code KeyAbsent = codes "N03"
system_code KeyUnknown = codes "N04"
system_code WrongKind = codes "N05"
system_code NumberOutOfRange = codes "N06"
system_code WrongSpelling = codes "N07"
system_code CountOutOfRange = codes "N08"
system_code NameDoubled = codes "N09"
system_code ConcentratorAbsent = codes "N10"
system_code FedTwice = codes "N11"
system_code LatencyReversed = codes "N12"

-- of a stream that a link feeds
abbrev pub stream_code : StreamRule → List ℕ
stream_code TwoLabels = codes "N16"
stream_code Formats = codes "N17"
stream_code TooSoon = codes "N18"
stream_code TooLate = codes "N19"
