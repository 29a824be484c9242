-- How a fault is reported, and when a reading answers what its definition says.
use Rattle.std.specs.Prelude.{◌≡◌, ℕ, List, ◌++◌, codes, decimal, Result, Ok, Err}
use Rattle.dc_cert.specs.declared.fault.CertRule.{CertRule}
use Rattle.dc_cert.specs.declared.fault.CertRule.TheVariants.{NotJson, VersionUnknown, KeyAbsent, KeyUnknown, WrongKind, ListOrNameOutOfBounds}
use Rattle.dc_cert.specs.declared.fault.TextPlace.{TextPlace}
use Rattle.dc_cert.specs.declared.fault.TextPlace.TheVariants.{Top, Inputs, Outputs, Labels}
use Rattle.dc_cert.specs.declared.fault.Fault.{Fault}
use Rattle.dc_cert.specs.declared.fault.CertFault.{CertFault}
use Rattle.dc_cert.specs.declared.fault.CertFault.TheVariants.{Memory, Unreadable}

-- the code of a rule: K1 to K6
abbrev pub rule_code : CertRule → List ℕ
rule_code NotJson = codes "K1"
rule_code VersionUnknown = codes "K2"
rule_code KeyAbsent = codes "K3"
rule_code KeyUnknown = codes "K4"
rule_code WrongKind = codes "K5"
rule_code ListOrNameOutOfBounds = codes "K6"

-- the list and the index, or the top
abbrev pub place_text : TextPlace → List ℕ
place_text Top = codes "top"
place_text (Inputs i) = codes "inputs " ++ decimal i
place_text (Outputs i) = codes "outputs " ++ decimal i
place_text (Labels i) = codes "labels " ++ decimal i

-- as `K5 at inputs 0`
abbrev pub fault_text : Fault → List ℕ
fault_text fault = rule_code fault.rule ++ codes " at " ++ place_text fault.place

-- what was returned, seen as data
abbrev pub seen : {A B : Type 0} → (A → B) → Result A Fault → Result B Fault
seen view (Ok x) = Ok (view x)
seen view (Err fault) = Err fault

-- What was returned, seen as data, is what the reading gives, unless memory ran out.
abbrev pub Gives : {A B : Type 0} → (A → B) → Result A CertFault → Result B Fault → Type 0
Gives view (Ok x) reading = reading ≡ Ok (view x)
Gives view (Err Memory) reading = Unit {0}
Gives view (Err (Unreadable fault)) reading = reading ≡ Err fault
