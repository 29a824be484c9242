-- The code of a rule of a trace's lines, as it is printed.
use Rattle.std.specs.Prelude.{ℕ, List, codes}
use Rattle.dc_event.specs.declared.trace.LineRule.{LineRule}
use Rattle.dc_event.specs.declared.trace.LineRule.TheVariants.{LineTooLong, KindUnknown, FieldCountWrong, NameUnknown, NotAWord, LineNotEnded}

-- the code of a rule of lines: E1 to E6
abbrev pub line_rule_code : LineRule → List ℕ
line_rule_code LineTooLong = codes "E1"
line_rule_code KindUnknown = codes "E2"
line_rule_code FieldCountWrong = codes "E3"
line_rule_code NameUnknown = codes "E4"
line_rule_code NotAWord = codes "E5"
line_rule_code LineNotEnded = codes "E6"
