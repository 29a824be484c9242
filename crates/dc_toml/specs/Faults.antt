-- A reading: what a text says, or its first fault; and when a function answers what its reading says.
use Rattle.std.specs.Prelude.{◌≡◌, ℕ, Bool, true, false, Option, Some, None, Result, Ok, Err}
use Rattle.dc_document.specs.declared.fault.TableRule.{TableRule}
use Rattle.dc_document.specs.declared.fault.Section.{Section}
use Rattle.dc_document.specs.declared.fault.TableFault.{TableFault}
use Rattle.dc_document.specs.declared.fault.BuildError.{BuildError}
use Rattle.dc_document.specs.declared.fault.BuildError.TheVariants.{Refused, Memory}
use Rattle.dc_toml.specs.declared.place.TablePlace.{TablePlace}

-- what was read, or the first fault
abbrev pub Reading : Type 0 → Type 0
Reading A = Result A TableFault

-- the table of this section with this index
abbrev pub place : Section → ℕ → TablePlace
place section index = record { section = section; index = index }

-- the fault that this rule is broken in the table at this place
abbrev pub fault_at : TablePlace → TableRule → TableFault
fault_at p rule = record { rule = rule; section = p.section; index = p.index }

-- nothing is read: this rule is broken at this place
abbrev pub refused : {A : Type 0} → TablePlace → TableRule → Reading A
refused p rule = Err (fault_at p rule)

-- goes on where nothing was refused
infixl 10 ◌>>=◌
abbrev pub ◌>>=◌ : {A B : Type 0} → Reading A → (A → Reading B) → Reading B
(Ok x) >>= rest = rest x
(Err fault) >>= rest = Err fault

-- goes on where the test holds
abbrev pub wanted : TablePlace → TableRule → Bool → Reading (Unit {0})
wanted p rule true = Ok tt
wanted p rule false = refused p rule

-- what is there, or a fault
abbrev pub found : {A : Type 0} → TablePlace → TableRule → Option A → Reading A
found p rule (Some x) = Ok x
found p rule None = refused p rule

-- ---- what functions answer

-- what was returned, seen as data
abbrev pub seen : {A B : Type 0} → (A → B) → Result A TableFault → Reading B
seen view (Ok x) = Ok (view x)
seen view (Err fault) = Err fault

-- What was returned, seen as data, is what the reading gives, unless memory ran out.
abbrev pub Gives : {A B : Type 0} → (A → B) → Result A BuildError → Reading B → Type 0
Gives view (Ok x) reading = reading ≡ Ok (view x)
Gives view (Err (Memory e)) reading = Unit {0}
Gives view (Err (Refused fault)) reading = reading ≡ Err fault

-- What is there afterwards is what the reading gives, unless memory ran out.
abbrev pub Leaves : {B : Type 0} → B → Result (Unit {0}) BuildError → Reading B → Type 0
Leaves after (Ok x) reading = reading ≡ Ok after
Leaves after (Err (Memory e)) reading = Unit {0}
Leaves after (Err (Refused fault)) reading = reading ≡ Err fault
