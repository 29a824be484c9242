-- How files are opened, and what is told where one is not.
use Rattle.std.specs.Prelude.{◌≡◌, ◌<◌, ℕ, List, [], ◌∷◌, ◌++◌, None, Some}
use Rattle.std.specs.Io.KnownBytes.{Appends}
use Rattle.dc_answer.specs.Answer.{failure_text}
use Rattle.dc_answer.specs.declared.answer.Failure.{Failure}
use Rattle.dc_answer.specs.declared.answer.Failure.TheVariants.{Source, Memory as NoMemory}
use Rattle.dc_answer.specs.declared.exit.Exit.{Exit}
use Rattle.dc_answer.specs.declared.exit.Exit.TheVariants.{Failed}
use Rattle.dc_device.specs.Bytes.{AppendsFront}
use Rattle.dc_device.specs.Lines.{spelled}
use Rattle.dc_device.specs.States.{SinkState}
use Rattle.dc_program.specs.World.{WorldState}
use Rattle.dc_program.specs.declared.world.Crew.{Crew}
use Rattle.dc_program.specs.declared.world.NotOpened.{NotOpened}
use Rattle.dc_program.specs.declared.world.NotOpened.TheVariants.{Device, Memory}

-- ---- files

-- all these files were opened, in this order and no other, none was made, and no thread was asked for
pub record AreOpened (files : List (List ℕ)) (w : WorldState) : Type 0 where
  pub opened : w.opened ≡ files
  pub refused : w.refused ≡ None
  pub crew : w.crew ≡ None
  pub saved : w.saved ≡ None

-- all these files were opened, in this order and no other, none was made, and then threads were asked for these
pub record AreOpenedFor (asking : Crew) (files : List (List ℕ)) (w : WorldState) : Type 0 where
  pub opened : w.opened ≡ files
  pub refused : w.refused ≡ None
  pub crew : w.crew ≡ Some asking
  pub saved : w.saved ≡ None

-- The first of these files that could not be opened, for this reason, was the last that was asked for, none was made, and no thread was asked for.
pub record AreNotOpened (files : List (List ℕ)) (why : NotOpened) (w : WorldState) : Type 0 where
  pub behind : List (List ℕ)
  pub front : files ≡ w.opened ++ behind
  pub refused : w.refused ≡ Some why
  pub crew : w.crew ≡ None
  pub saved : w.saved ≡ None

-- ---- what is told of one that was not opened

-- what failed
abbrev pub failure_of : NotOpened → Failure
failure_of Device = Source
failure_of Memory = NoMemory

-- The line of what failed alone was written, or a front of it where a push failed, and the exit is that of a failure.
pub record TellsFailure (failure : Failure) (sink sink' : SinkState) (exit : Exit) : Type 0 where
  pub failed : exit ≡ Failed
  pub whole : sink'.failed ≡ sink.failed → Appends sink.contents sink'.contents (spelled (failure_text failure ∷ []))
  pub cut : sink.failed < sink'.failed → AppendsFront sink.contents sink'.contents (spelled (failure_text failure ∷ []))
