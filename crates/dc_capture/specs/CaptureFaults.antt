-- The code of a rule of a capture's lines, as it is printed.
use Rattle.std.specs.Prelude.{ℕ, List, codes}
use Rattle.dc_capture.specs.declared.fault.CaptureRule.{CaptureRule}
use Rattle.dc_capture.specs.declared.fault.CaptureRule.TheVariants.{LineTooLong, LineNotEnded, FieldCountWrong, NotATime, NameUnknown, NotAWord, TimeFalls}

abbrev pub capture_rule_code : CaptureRule → List ℕ
capture_rule_code LineTooLong = codes "E1"
capture_rule_code LineNotEnded = codes "E6"
capture_rule_code FieldCountWrong = codes "E3"
capture_rule_code NotATime = codes "E7"
capture_rule_code NameUnknown = codes "E4"
capture_rule_code NotAWord = codes "E5"
capture_rule_code TimeFalls = codes "E8"
