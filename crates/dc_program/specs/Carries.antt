-- How an order is carried out in a world.
use Rattle.std.specs.Prelude.{◌≡◌, ◌⊎◌, ℕ, List, [], ◌∷◌, IfSome, Option, None, Some, option_map}
use Rattle.dc_answer.specs.Answer.{Any, Reported}
use Rattle.dc_answer.specs.declared.exit.Exit.{Exit}
use Rattle.dc_answer.specs.declared.exit.Exit.TheVariants.{Done}
use Rattle.dc_command.specs.declared.asked.Order.{Order}
use Rattle.dc_command.specs.declared.asked.Order.TheVariants.{Design, Network, ReportNetwork}
use Rattle.dc_device.specs.States.{SinkState, SourceState}
use Rattle.dc_program.specs.Opening.{AreNotOpened, TellsFailure, failure_of}
use Rattle.dc_program.specs.Orders.{ReportsAny, ReportsOrder, crew_of, files_of}
use Rattle.dc_program.specs.World.{WorldState}
use Rattle.dc_program.specs.declared.world.Crew.{Crew}
use Rattle.dc_program.specs.declared.world.Crew.TheVariants.{Workers}
use Rattle.dc_run_design.specs.Design.{ReportsDesign}
use Rattle.dc_run_network.specs.Answer.{IsAnyPage, IsLines, ReportsNetwork, Saying}
use Rattle.dc_run_network.specs.Paths.{folder_of}
use Rattle.dc_program.specs.declared.world.NotOpened.{NotOpened}

-- Its files were opened, none was made, and its engine ran over what they hold.
pub record Runs (order : Order) (w w' : WorldState) (input input' : SourceState) (sink sink' : SinkState) (exit : Exit) : Type 0 where
  pub opened : w'.opened ≡ files_of order
  pub refused : w'.refused ≡ None
  pub crew : w'.crew ≡ crew_of order
  pub saved : w'.saved ≡ None
  -- how many calls of the files' sources failed
  pub failed : ℕ
  pub reports : ReportsOrder order w.holds failed input input' sink sink' exit
  pub reported : ReportsAny order failed input input' sink sink' exit

-- A file of it could not be opened: that was told, and nothing else was done.
pub record Stops (order : Order) (w' : WorldState) (input input' : SourceState) (sink sink' : SinkState) (exit : Exit) : Type 0 where
  pub why : NotOpened
  pub files : AreNotOpened (files_of order) why w'
  pub unread : input' ≡ input
  pub tells : TellsFailure (failure_of why) sink sink' exit

-- nothing more was done, after an engine that ended so
pub record StaysAs (w' : WorldState) (mid sink' : SinkState) (ended exit : Exit) : Type 0 where
  pub refused : w'.refused ≡ None
  pub saved : w'.saved ≡ None
  pub unwritten : sink' ≡ mid
  pub ends : exit ≡ ended

-- the file was made with this text, and nothing more was written; or it could not be made, and that was told behind what was written
pub record IsMade (name text : List ℕ) (w' : WorldState) (mid sink' : SinkState) (exit : Exit) : Type 0 where
  pub saved : w'.saved ≡ Some (name, text)
  pub told : ((w'.refused ≡ None) × (sink' ≡ mid) × (exit ≡ Done)) ⊎ ((why : NotOpened) × (w'.refused ≡ Some why) × TellsFailure (failure_of why) mid sink' exit)

-- what is done with the text of a certificate, where its file is named, after an engine that ended so: only one that ended `Done` has it made
abbrev pub Saves : Option (List ℕ) → List ℕ → WorldState → SinkState → SinkState → Exit → Exit → Type 0
Saves None text w' mid sink' ended exit = StaysAs w' mid sink' ended exit
Saves (Some name) text w' mid sink' Done exit = IsMade name text w' mid sink' exit
Saves (Some name) text w' mid sink' ended exit = StaysAs w' mid sink' ended exit

-- Both sheets were opened, the engine of `design` ran over what they hold, and then the file of its certificate was made, where one is named
-- and tables were written whole.
pub record Makes (inputs outputs : List ℕ) (certificate : Option (List ℕ)) (w w' : WorldState) (input input' : SourceState) (sink sink' : SinkState) (exit : Exit) : Type 0 where
  pub opened : w'.opened ≡ inputs ∷ outputs ∷ []
  pub crew : w'.crew ≡ None
  pub unread : input' ≡ input
  -- how many calls of the files' sources failed
  pub failed : ℕ
  -- the text of the certificate
  pub text : List ℕ
  -- the sink behind what the engine wrote, and what that ended with
  pub mid : SinkState
  pub ended : Exit
  pub reports : (ins outs : List ℕ) → w.holds inputs ≡ Some ins → w.holds outputs ≡ Some outs
      → ReportsDesign ins outs text sink.contents mid.contents 0 failed sink.failed mid.failed ended
  pub reported : Reported Any sink.contents mid.contents 0 failed sink.failed mid.failed ended
  pub saves : Saves certificate text w' mid sink' ended exit

-- The text of a system was opened, threads were asked for these then where they are some, and an engine of networks that tells this of those
-- that are accepted ran over what it holds and what the files hold that it names; none was made. That no thread could be started is
-- reported only where this holds.
pub record Judges (Says : Saying) (Starts : Type 0) (crew : Option Crew) (system : List ℕ) (w w' : WorldState) (input input' : SourceState) (sink sink' : SinkState) (exit : Exit) : Type 0 where
  pub opened : w'.opened ≡ system ∷ []
  pub asked : w'.crew ≡ crew
  pub saved : w'.saved ≡ None
  pub unread : input' ≡ input
  pub reports : IfSome (w.holds system) (λ text. ReportsNetwork Says Starts w.holds (folder_of system) text sink sink' exit)

-- the same of an order; of one that is neither a design nor a network it never is so
abbrev pub MakesOf : Order → WorldState → WorldState → SourceState → SourceState → SinkState → SinkState → Exit → Type 0
MakesOf (Design inputs outputs tick headroom police certificate) w w' input input' sink sink' exit =
    Makes inputs.now outputs.now (option_map (λ s. s.now) certificate) w w' input input' sink sink' exit
MakesOf (Network system None) w w' input input' sink sink' exit = Judges IsLines ⊥ None system.now w w' input input' sink sink' exit
MakesOf (Network system (Some count)) w w' input input' sink sink' exit = Judges IsLines (Unit {0}) (Some (Workers count)) system.now w w' input input' sink sink' exit
MakesOf (ReportNetwork system) w w' input input' sink sink' exit = Judges IsAnyPage ⊥ None system.now w w' input input' sink sink' exit
MakesOf _ w w' input input' sink sink' exit = ⊥

-- one of the three
abbrev pub Carries : Order → WorldState → WorldState → SourceState → SourceState → SinkState → SinkState → Exit → Type 0
Carries order w w' input input' sink sink' exit =
    Runs order w w' input input' sink sink' exit ⊎ (Stops order w' input input' sink sink' exit ⊎ MakesOf order w w' input input' sink sink' exit)
