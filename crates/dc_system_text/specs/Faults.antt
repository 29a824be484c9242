-- A reading of a system's text: what it says, or its first fault.
use Rattle.std.specs.Prelude.{◌≡◌, ℕ, Result, Ok, Err}
use Rattle.dc_document.specs.declared.fault.TableRule.{TableRule}
use Rattle.dc_document.specs.declared.fault.TableRule.TheVariants.{KeyAbsent as TableKeyAbsent, KeyUnknown as TableKeyUnknown, WrongKind as TableWrongKind, NumberOutOfRange as TableNumberOutOfRange, WrongSpelling as TableWrongSpelling, CountOutOfRange as TableCountOutOfRange}
use Rattle.dc_toml.specs.Faults.{Reading}
use Rattle.dc_system_text.specs.declared.fault.SystemRule.{SystemRule}
use Rattle.dc_system_text.specs.declared.fault.SystemRule.TheVariants.{NotToml, KeyAbsent, KeyUnknown, WrongKind, NumberOutOfRange, WrongSpelling, CountOutOfRange}
use Rattle.dc_system_text.specs.declared.fault.SystemPart.{SystemPart}
use Rattle.dc_system_text.specs.declared.fault.SystemFault.{SystemFault}
use Rattle.dc_system_text.specs.declared.read.SystemError.{SystemError}
use Rattle.dc_system_text.specs.declared.read.SystemError.TheVariants.{Refused, Memory}

-- what was read, or the first fault
abbrev pub Said : Type 0 → Type 0
Said A = Result A SystemFault

-- the fault that this rule is broken in the table of this kind and number
abbrev pub fault_of : SystemRule → SystemPart → ℕ → SystemFault
fault_of rule part index = record { rule = rule; part = part; index = index }

-- goes on where nothing was refused
abbrev pub and_then : {A B : Type 0} → Said A → (A → Said B) → Said B
and_then (Ok x) rest = rest x
and_then (Err fault) rest = Err fault

-- the rule of a system's text that a rule of shape of tables is there
abbrev pub shape_rule : TableRule → SystemRule
shape_rule TableKeyAbsent = KeyAbsent
shape_rule TableKeyUnknown = KeyUnknown
shape_rule TableWrongKind = WrongKind
shape_rule TableNumberOutOfRange = NumberOutOfRange
shape_rule TableWrongSpelling = WrongSpelling
shape_rule TableCountOutOfRange = CountOutOfRange
shape_rule _ = NotToml

-- what was read of a table of this kind
abbrev pub of_part : {A : Type 0} → SystemPart → Reading A → Said A
of_part part (Ok x) = Ok x
of_part part (Err fault) = Err (record { rule = shape_rule fault.rule; part = part; index = fault.index })

-- ---- what functions answer

-- What was returned, seen as data, is what is said, unless memory ran out.
abbrev pub Says : {A B : Type 0} → (A → B) → Result A SystemError → Said B → Type 0
Says view (Ok x) said = said ≡ Ok (view x)
Says view (Err (Memory e)) said = Unit {0}
Says view (Err (Refused fault)) said = said ≡ Err fault
