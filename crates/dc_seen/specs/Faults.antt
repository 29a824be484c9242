-- The code of a rule of observed lines, as it is printed.
use Rattle.std.specs.Prelude.{ℕ, List, codes}
use Rattle.dc_seen.specs.declared.fault.SeenRule.{SeenRule}
use Rattle.dc_seen.specs.declared.fault.SeenRule.TheVariants.{FieldsWrong, KindUnknown, LineNotEnded, LineTooLong, NotNext, NumberWrong}

abbrev pub seen_rule_code : SeenRule → List ℕ
seen_rule_code LineTooLong = codes "E1"
seen_rule_code LineNotEnded = codes "E6"
seen_rule_code KindUnknown = codes "E2"
seen_rule_code FieldsWrong = codes "E3"
seen_rule_code NotNext = codes "E4"
seen_rule_code NumberWrong = codes "E5"
