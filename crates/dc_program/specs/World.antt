-- What is known of a world: its files, and for whom threads were asked.
use Rattle.std.specs.Prelude.{◌≡◌, ℕ, List, [], Option, Some, None, Result, Ok, Err}
use Rattle.dc_device.specs.States.{SourceState}
use Rattle.dc_program.specs.declared.world.Crew.{Crew}
use Rattle.dc_program.specs.declared.world.NotOpened.{NotOpened}

-- what a world holds, and what it was asked for
pub record WorldState : Type 0 where
  -- the text of the file of this name, where it is known
  pub holds : List ℕ → Option (List ℕ)
  -- the names of the files that it was asked to open, the first one first
  pub opened : List (List ℕ)
  -- why the file that it was last asked for was not opened or made, where it was not
  pub refused : Option NotOpened
  -- for whom threads were last asked, where they were
  pub crew : Option Crew
  -- the file that it was asked to make, and its text, where it was
  pub saved : Option (List ℕ × List ℕ)

-- the source of a file that was just opened: it gives this text, and has not been pulled
abbrev pub new_source : Option (List ℕ) → SourceState
new_source text = record { remaining = text; failed = 0; asked = 0; dry = 0 }

-- why a file was not opened or made
abbrev pub refusal_of : {F : Type 0} → Result F NotOpened → Option NotOpened
refusal_of (Ok file) = None
refusal_of (Err why) = Some why

-- nothing was asked of it yet
pub record IsNew (w : WorldState) : Type 0 where
  pub opened : w.opened ≡ []
  pub refused : w.refused ≡ None
  pub crew : w.crew ≡ None
  pub saved : w.saved ≡ None

-- it is what it was, but for why a file was not opened
pub record IsKept (w w' : WorldState) : Type 0 where
  pub holds : w'.holds ≡ w.holds
  pub opened : w'.opened ≡ w.opened
  pub crew : w'.crew ≡ w.crew
  pub saved : w'.saved ≡ w.saved
