-- What `network` answers to the text of a system, and how it is reported.
use Rattle.std.specs.Prelude.{◌≡◌, ◌≢◌, ◌⊎◌, ℕ, ◌<◌, List, [], ◌∷◌, ◌++◌, Option, Some, None, Result, Ok, Err, codes, length}
use Rattle.std.specs.Io.KnownBytes.{Appends}
use Rattle.dc_answer.specs.Exits.{exit_with}
use Rattle.dc_answer.specs.declared.exit.Exit.{Exit}
use Rattle.dc_answer.specs.declared.exit.Exit.TheVariants.{Done, Refused, Unreadable, Failed}
use Rattle.dc_answer.specs.declared.exit.Outcome.{Outcome}
use Rattle.dc_answer.specs.declared.judge.Unjudged.{Unjudged}
use Rattle.dc_answer.specs.declared.judge.Unjudged.TheVariants.{Device, Memory as NoRoom, Threads}
use Rattle.dc_device.specs.Bytes.{AppendsFront}
use Rattle.dc_device.specs.Lines.{spelled}
use Rattle.dc_device.specs.States.{SinkState}
use Rattle.dc_order.specs.Rings.{IsFirstOnRing, IsOnRing}
use Rattle.dc_system.specs.Judged.{IsNetworkFault, NetworkKeepsClaims, NetworkKeepsTime, Stands}
use Rattle.dc_system.specs.declared.judging.NetworkFault.{NetworkFault}
use Rattle.dc_system.specs.declared.judging.NetworkFault.TheVariants.{Ring, Link, Memory as NoMemory}
use Rattle.dc_system_text.specs.Faults.{Said}
use Rattle.dc_system_text.specs.System.{SystemRows, system_of}
use Rattle.dc_ways.specs.Members.{MemberRows, connection_at, rows_of}
use Rattle.dc_ways.specs.declared.connection.Connection.{Connection}
use Rattle.dc_run_network.specs.Lines.{accepted_lines, link_text, ring_text, system_text}
use Rattle.dc_run_network.specs.Links.{connections_in, hops_in}
use Rattle.dc_run_network.specs.Members.{AreMembers, HaltsFirst, Holds}
use Rattle.dc_run_network.specs.declared.members.Halt.TheVariants.{Told, NoFile}

-- ---- a network

-- what is told of a network that is accepted: of these concentrators, with these ways
abbrev pub Saying : Type 1
Saying = SystemRows → List MemberRows → (ways : List (List ℕ)) → (page : List ℕ) → Type 0

-- its lines
abbrev pub IsLines : Saying
IsLines s members ways page = page ++ 10 ∷ [] ≡ spelled (accepted_lines s.concentrators (length s.links) members ways)

-- a page of which nothing is said
abbrev pub IsAnyPage : Saying
IsAnyPage s members ways page = Unit {0}

-- It stands, with these ways, and so keeps all its claims in every joint run: this is told of it.
pub record IsAccepted (Says : Saying) (s : SystemRows) (members : List MemberRows) (page : List ℕ) : Type 0 where
  pub ways : List (List ℕ)
  pub stands : Stands members (connections_in s members) ways
  pub claims : NetworkKeepsClaims members (connections_in s members) ways
  pub time : NetworkKeepsTime members (connections_in s members) ways
  pub says : Says s members ways page

-- the line of a fault of a network: of a ring, or of a link
abbrev pub fault_text : List MemberRows → List Connection → NetworkFault → List ℕ
fault_text members connections (Ring i) = ring_text i
fault_text members connections (Link k fault) = link_text (rows_of members (connection_at connections k).to) k fault
fault_text members connections (NoMemory e) = []

-- what a command ends with that tells it
abbrev pub fault_exit : NetworkFault → Exit
fault_exit (Ring i) = Unreadable
fault_exit (Link k fault) = Refused
fault_exit (NoMemory e) = Failed

-- its first fault is told
pub record IsRefused (s : SystemRows) (members : List MemberRows) (page : List ℕ) (exit : Exit) : Type 0 where
  pub fault : NetworkFault
  pub first : IsNetworkFault members (connections_in s members) fault
  pub told : page ≡ fault_text members (connections_in s members) fault
  pub ends : exit ≡ fault_exit fault
  pub whole : exit ≢ Failed

-- what was told of this fault; for want of memory nothing
abbrev pub TellsFault : List MemberRows → List Connection → (page : List ℕ) → NetworkFault → Result Exit Unjudged → Type 0
TellsFault members connections page fault (Ok exit) = (page ≡ fault_text members connections fault) × (exit ≡ fault_exit fault) × (exit ≢ Failed)
TellsFault members connections page fault (Err why) = Unit {0}

-- link k is there, and the concentrator to which it leads
abbrev pub IsLinked : List MemberRows → List Connection → ℕ → Type 0
IsLinked members connections k = (k < length connections) × ((connection_at connections k).to < length members)

-- to concentrators that are accepted
abbrev pub AnswersMembers : Saying → SystemRows → List MemberRows → (page : List ℕ) → Exit → Type 0
AnswersMembers Says s members page exit = ((exit ≡ Done) × IsAccepted Says s members page) ⊎ IsRefused s members page exit

-- ---- a system

-- what stops at a concentrator that is not accepted: the first of them
abbrev pub AnswersHalted : Holds → (folder : List ℕ) → SystemRows → (page : List ℕ) → Exit → Type 0
AnswersHalted holds folder s page exit =
    ((outcome : Outcome) × (exit ≡ exit_with outcome) × HaltsFirst holds folder s.concentrators page (Told outcome))
    ⊎ ((exit ≡ Failed) × HaltsFirst holds folder s.concentrators page NoFile)

-- to a system that has no ring: to the first of its concentrators that is not accepted, or to all of them
abbrev pub AnswersOrdered : Saying → Holds → (folder : List ℕ) → SystemRows → (page : List ℕ) → Exit → Type 0
AnswersOrdered Says holds folder s page exit =
    AnswersHalted holds folder s page exit
    ⊎ ((members : List MemberRows) × AreMembers holds folder s.concentrators members × AnswersMembers Says s members page exit)

-- the first concentrator of a system that is on a ring; none where there is no ring
abbrev pub IsRing : SystemRows → Option ℕ → Type 0
IsRing s None = (i : ℕ) → IsOnRing (hops_in s) i → ⊥
IsRing s (Some i) = IsFirstOnRing (length s.concentrators) (hops_in s) i

-- to a system: the first concentrator that is on a ring is told before any file is opened
abbrev pub AnswersRows : Saying → Holds → (folder : List ℕ) → SystemRows → (page : List ℕ) → Exit → Type 0
AnswersRows Says holds folder s page exit =
    ((i : ℕ) × IsFirstOnRing (length s.concentrators) (hops_in s) i × (page ≡ ring_text i) × (exit ≡ Unreadable))
    ⊎ (((i : ℕ) → IsOnRing (hops_in s) i → ⊥) × AnswersOrdered Says holds folder s page exit)

-- to a text that reads so
abbrev pub AnswersRead : Saying → Holds → (folder : List ℕ) → Said SystemRows → (page : List ℕ) → Exit → Type 0
AnswersRead Says holds folder (Ok s) page exit = AnswersRows Says holds folder s page exit
AnswersRead Says holds folder (Err fault) page exit = (page ≡ system_text fault) × (exit ≡ Unreadable)

-- to a text
abbrev pub AnswersNetwork : Saying → Holds → (folder text page : List ℕ) → Exit → Type 0
AnswersNetwork Says holds folder text page exit = AnswersRead Says holds folder (system_of text) page exit

-- ---- what is written

-- what is told where nothing was judged
abbrev pub unjudged_text : Unjudged → List ℕ
unjudged_text Device = codes "failed device"
unjudged_text NoRoom = codes "failed memory"
unjudged_text Threads = codes "failed threads"

-- what is written of a network that was judged so, and what the command ends with
abbrev pub line_of : Result Exit Unjudged → (page : List ℕ) → List ℕ
line_of (Ok exit) page = page
line_of (Err why) page = unjudged_text why

abbrev pub end_of : Result Exit Unjudged → Exit
end_of (Ok exit) = exit
end_of (Err why) = Failed

-- It was written with a line feed behind it, and the command ends so; where a push or a flush failed, a front of that.
pub record Tells (line : List ℕ) (ended : Exit) (sink sink' : SinkState) (exit : Exit) : Type 0 where
  pub whole : sink'.failed ≡ sink.failed → Appends sink.contents sink'.contents (line ++ 10 ∷ []) × (exit ≡ ended)
  pub cut : sink'.failed ≢ sink.failed → AppendsFront sink.contents sink'.contents (line ++ 10 ∷ []) × (exit ≡ Failed)

-- what a command ends with whose page was kept, or was not for want of memory
abbrev pub EndsKept : {E : Type 0} → Result (Unit {0}) E → Exit → Result Exit Unjudged → Type 0
EndsKept (Ok x) exit result = result ≡ Ok exit
EndsKept (Err e) exit result = result ≡ Err NoRoom

-- what was judged is an answer to the text, or something failed
abbrev pub JudgesNetwork : Saying → Holds → (folder text page : List ℕ) → Result Exit Unjudged → Type 0
JudgesNetwork Says holds folder text page (Ok exit) = AnswersNetwork Says holds folder text page exit
JudgesNetwork Says holds folder text page (Err why) = Unit {0}

-- that no thread could be started is told only where this holds
abbrev pub OnlyIf : Type 0 → Result Exit Unjudged → Type 0
OnlyIf Starts (Ok exit) = Unit {0}
OnlyIf Starts (Err Device) = Unit {0}
OnlyIf Starts (Err NoRoom) = Unit {0}
OnlyIf Starts (Err Threads) = Starts

-- What is reported of a network of which this is told where it is accepted: the answer to its text, or what failed. That no thread could be
-- started is reported only where this holds.
pub record ReportsNetwork (Says : Saying) (Starts : Type 0) (holds : Holds) (folder text : List ℕ) (sink sink' : SinkState) (exit : Exit) : Type 0 where
  pub judged : Result Exit Unjudged
  pub page : List ℕ
  pub is : JudgesNetwork Says holds folder text page judged
  pub threads : OnlyIf Starts judged
  pub tells : Tells (line_of judged page) (end_of judged) sink sink' exit

-- ---- what a yes says

-- The text says a system, the texts of its files are those of concentrators with accepted certificates, the network of these stands and
-- keeps all its claims in every joint run, and what is told of it was written.
pub record SaysNetwork (Says : Saying) (holds : Holds) (folder text : List ℕ) (sink sink' : SinkState) : Type 0 where
  pub system : SystemRows
  pub read : system_of text ≡ Ok system
  pub members : List MemberRows
  pub are : AreMembers holds folder system.concentrators members
  pub page : List ℕ
  pub accepted : IsAccepted Says system members page
  pub written : Appends sink.contents sink'.contents (page ++ 10 ∷ [])
