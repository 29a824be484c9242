-- What is printed of a fault of tables.
use Rattle.std.specs.Prelude.{ℕ, List, ◌++◌, codes, decimal}
use Rattle.dc_document.specs.declared.fault.TableRule.{TableRule}
use Rattle.dc_document.specs.declared.fault.TableRule.TheVariants.{NotToml, VersionUnknown, KeyAbsent, KeyUnknown, WrongKind, NumberOutOfRange, WrongSpelling, CountOutOfRange, ParameterDoubled, IntervalReversed, MinimumBelowOneTick, NoOutputInterval, NameDoubled, ParameterAbsent, StreamsOverlap, NameAbsent, BusNotVisitedByOne, SourceDoubled, FormatsDiffer, OffsetPastFrame, OffsetDoubled, LabelDoubled, RouterCannotKeepPace, OutputCannotKeepPace}
use Rattle.dc_document.specs.declared.fault.Section.{Section}
use Rattle.dc_document.specs.declared.fault.Section.TheVariants.{Top, Parameter, Bus, Stream, Router, Output, Label}
use Rattle.dc_document.specs.declared.fault.TableFault.{TableFault}

-- the code as it is printed
abbrev pub rule_code : TableRule → List ℕ
rule_code NotToml = codes "T01"
rule_code VersionUnknown = codes "T02"
rule_code KeyAbsent = codes "T03"
rule_code KeyUnknown = codes "T04"
rule_code WrongKind = codes "T05"
rule_code NumberOutOfRange = codes "T06"
rule_code WrongSpelling = codes "T07"
rule_code CountOutOfRange = codes "T08"
rule_code ParameterDoubled = codes "T09"
rule_code IntervalReversed = codes "T10"
rule_code MinimumBelowOneTick = codes "T11"
rule_code NoOutputInterval = codes "T12"
rule_code NameDoubled = codes "T13"
rule_code ParameterAbsent = codes "T14"
rule_code StreamsOverlap = codes "T15"
rule_code NameAbsent = codes "T16"
rule_code BusNotVisitedByOne = codes "T17"
rule_code SourceDoubled = codes "T18"
rule_code FormatsDiffer = codes "T19"
rule_code OffsetPastFrame = codes "T20"
rule_code OffsetDoubled = codes "T21"
rule_code LabelDoubled = codes "T22"
rule_code RouterCannotKeepPace = codes "T23"
rule_code OutputCannotKeepPace = codes "T24"

-- the kind of table as it is printed
abbrev pub section_text : Section → List ℕ
section_text Top = codes "top"
section_text Parameter = codes "parameter"
section_text Bus = codes "bus"
section_text Stream = codes "stream"
section_text Router = codes "router"
section_text Output = codes "output"
section_text Label = codes "label"

-- the place: the top has no number
abbrev pub place_text : Section → ℕ → List ℕ
place_text Top index = section_text Top
place_text Parameter index = section_text Parameter ++ codes " " ++ decimal index
place_text Bus index = section_text Bus ++ codes " " ++ decimal index
place_text Stream index = section_text Stream ++ codes " " ++ decimal index
place_text Router index = section_text Router ++ codes " " ++ decimal index
place_text Output index = section_text Output ++ codes " " ++ decimal index
place_text Label index = section_text Label ++ codes " " ++ decimal index

-- as `T16 at router 0` or `T02 at top`
abbrev pub table_fault_text : TableFault → List ℕ
table_fault_text f = rule_code f.rule ++ codes " at " ++ place_text f.section f.index

-- what each rule says, in words
abbrev pub explanation : TableRule → List ℕ
explanation NotToml = codes "the text is over its limit, not UTF-8 or no TOML document"
explanation VersionUnknown = codes "`version` is absent or neither 1 nor 2"
explanation KeyAbsent = codes "a wanted key is absent"
explanation KeyUnknown = codes "a key is unknown"
explanation WrongKind = codes "a value is not of its key's kind"
explanation NumberOutOfRange = codes "a number is outside its range"
explanation WrongSpelling = codes "a text is not in its spelling"
explanation CountOutOfRange = codes "a list, or a total over the tables, is outside its limits"
explanation ParameterDoubled = codes "a parameter is doubled"
explanation IntervalReversed = codes "min_us is over max_us"
explanation MinimumBelowOneTick = codes "the stream's parameter has an input minimum below one tick"
explanation NoOutputInterval = codes "the label's parameter leaves no output interval"
explanation NameDoubled = codes "a name is doubled within its kind"
explanation ParameterAbsent = codes "a parameter that is named is not there"
explanation StreamsOverlap = codes "two streams of the bus have one label, and equal SDI or one of them any"
explanation NameAbsent = codes "visits or sources hold a name that is not there"
explanation BusNotVisitedByOne = codes "the bus is in the visits of no router, or of two routers"
explanation SourceDoubled = codes "a source is doubled in the label"
explanation FormatsDiffer = codes "the label's format is not that of each of its sources"
explanation OffsetPastFrame = codes "an offset is not below the frame"
explanation OffsetDoubled = codes "two entries of the output have one offset"
explanation LabelDoubled = codes "two labels of the output have one label and SDI"
explanation RouterCannotKeepPace = codes "the router's steps are more than most x within"
explanation OutputCannotKeepPace = codes "the output's steps x gap are more than within"

-- the words with the place, as `a source is doubled in the label (at label 2)`
abbrev pub explained : TableFault → List ℕ
explained f = explanation f.rule ++ codes " (at " ++ place_text f.section f.index ++ codes ")"
