-- What a call from C does to the engine of a slot.
use Rattle.std.specs.Prelude.{◌≡◌, ◌==◌, if◌then◌else◌, nat_le, nat_lt, ℕ, List, [], ◌++◌, drop, length, slice_index_or, Bool, true, false, Option, Some, None, Result, Ok, Err}
use Rattle.dc_core.specs.declared.fault.StepFault.{StepFault}
use Rattle.dc_event.specs.declared.event.Event.{Event}
use Rattle.dc_event.specs.declared.event.Reply.{Reply}
use Rattle.dc_check.specs.declared.certified.Certified.{Certified}
use Rattle.dc_engine.specs.Answers.{answer_of, bare, report_of}
use Rattle.dc_engine.specs.Engine.{rows_of, StepsOn}
use Rattle.dc_engine.specs.NameLists.{names_in, number_named}
use Rattle.dc_engine.specs.Opening.{Certifies, Opens}
use Rattle.dc_engine.specs.declared.answer.Answer.{Answer}
use Rattle.dc_engine.specs.declared.engine.Engine.{Engine}
use Rattle.dc_engine.specs.declared.fault.OpenFault.{OpenFault}
use Rattle.dc_engine.specs.declared.fault.Report.{Report}
use Rattle.dc_document.specs.Names.{text_of}
use Rattle.dc_engine.specs.declared.name_list.NameList.{NameList}
use Rattle.dc_engine.specs.declared.name_list.NameList.TheVariants.{Buses, Streams, Routers, Outputs, Labels}

-- 0 where the event was carried out, 1 where it was refused
abbrev pub status_of : Result Reply StepFault → ℕ
status_of (Ok reply) = 0
status_of (Err fault) = 1

-- what an open engine does at an event, and what is told of it
pub record StepsOpen (old : Engine) (new : Option Engine) (event : Event) (answer : Answer) (status : ℕ) : Type 0 where
  pub engine : Engine
  pub outcome : Result Reply StepFault
  pub still : new ≡ Some engine
  pub steps : StepsOn old engine event outcome
  pub told : answer ≡ answer_of outcome
  pub carried : status ≡ status_of outcome

-- what a closed one does: nothing
pub record StaysClosed (new : Option Engine) (answer : Answer) (status : ℕ) : Type 0 where
  pub still : new ≡ None
  pub told : answer ≡ bare 0
  pub closed : status ≡ 2

-- what the engine of a slot does at an event
abbrev pub Steps : Option Engine → Option Engine → Event → Answer → ℕ → Type 0
Steps None new event answer status = StaysClosed new answer status
Steps (Some old) new event answer status = StepsOpen old new event answer status

-- no fault
abbrev pub no_fault : Report
no_fault = record { kind = 0; code = 0; place = 0; window = 0; index = 0 }

-- what is told of an engine that was opened, or was not
abbrev pub TellsOpened : Result Engine OpenFault → Option Engine → Report → Bool → Type 0
TellsOpened (Ok engine) new report answer = (new ≡ Some engine) × (report ≡ no_fault) × (answer ≡ true)
TellsOpened (Err fault) new report answer = (new ≡ None) × (report ≡ report_of fault) × (answer ≡ false)

-- what is opened of two texts, and told of it
pub record OpensSlot (tables certificate : List ℕ) (new : Option Engine) (report : Report) (answer : Bool) : Type 0 where
  pub opened : Result Engine OpenFault
  pub opens : Opens tables certificate opened
  pub told : TellsOpened opened new report answer

-- what is told of a verdict
abbrev pub TellsVerdict : Result Certified OpenFault → Report → Bool → Type 0
TellsVerdict (Ok certified) report answer = (report ≡ no_fault) × (answer ≡ true)
TellsVerdict (Err fault) report answer = (report ≡ report_of fault) × (answer ≡ false)

-- the verdict on two texts, and what is told of it
pub record Checks (tables certificate : List ℕ) (report : Report) (answer : Bool) : Type 0 where
  pub verdict : Result Certified OpenFault
  pub certifies : Certifies tables certificate verdict
  pub told : TellsVerdict verdict report answer

-- the list of this number
abbrev pub list_at : ℕ → Option NameList
list_at n =
    if n == 1 then Some Buses
    else if n == 2 then Some Streams
    else if n == 3 then Some Routers
    else if n == 4 then Some Outputs
    else if n == 5 then Some Labels
    else None

-- the number of a name in an engine, where it is open and the name is known
abbrev pub found_in : Option Engine → Option NameList → List ℕ → Option ℕ
found_in None list name = None
found_in (Some engine) None name = None
found_in (Some engine) (Some list) name = number_named (names_in (rows_of engine) list) name

-- what is told of a number: where there is none, nothing is written
abbrev pub TellsNumber : Option ℕ → ℕ → ℕ → Bool → Type 0
TellsNumber None old new answer = (new ≡ old) × (answer ≡ false)
TellsNumber (Some number) old new answer = (new ≡ number) × (answer ≡ true)

-- what is told of the number of a name
abbrev pub Finds : Option Engine → Option NameList → List ℕ → ℕ → ℕ → Bool → Type 0
Finds engine list name old new answer = TellsNumber (found_in engine list name) old new answer

-- the text of the name of this number among these
abbrev pub text_among : List (List ℕ) → ℕ → Option (List ℕ)
text_among names number = if nat_lt number (length names) then Some (text_of (slice_index_or names number [])) else None

-- the text of a name in an engine, where it is open and there is one
abbrev pub text_in : Option Engine → Option NameList → ℕ → Option (List ℕ)
text_in None list number = None
text_in (Some engine) None number = None
text_in (Some engine) (Some list) number = text_among (names_in (rows_of engine) list) number

-- a text at the front of a buffer, where there is room; else the buffer as it was
abbrev pub front_put : List ℕ → List ℕ → List ℕ
front_put text room = if nat_le (length text) (length room) then text ++ drop (length text) room else room

-- a text is put to the front, or there is no room and nothing is
abbrev pub Puts : List ℕ → List ℕ → List ℕ → ℕ → Type 0
Puts text old new length_put = (new ≡ front_put text old) × (length_put ≡ (if nat_le (length text) (length old) then length text else 0))

-- what is told of a text: where there is none, nothing is written
abbrev pub TellsText : Option (List ℕ) → List ℕ → List ℕ → ℕ → Type 0
TellsText None old new length_put = (new ≡ old) × (length_put ≡ 0)
TellsText (Some text) old new length_put = Puts text old new length_put
