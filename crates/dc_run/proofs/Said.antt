-- What a replay has said so far.
use Rattle.std.proofs.Common.{◌≡◌, ℕ, Bool, List, [], Option, Some}
use Rattle.dc_device.specs.Bytes.{Gathered}
use Rattle.dc_device.specs.Lines.{spelled}
use Rattle.dc_tables.specs.TableRows.{TableRows}
use Rattle.dc_event.specs.ReplyText.{run_lines}
use Rattle.dc_event.specs.TraceText.{Trace, trace_of}
use Rattle.dc_event.specs.declared.event.Event.{Event}
use Rattle.dc_run.specs.Replay.{AllFollow}
use Rattle.dc_run.specs.Steps.{StandsAt}
use Rattle.dc_run.specs.declared.steps.Progress.{Progress}
use Rattle.dc_run.specs.lemmas.Traces.{behind}

-- Some events were carried out, their lines were said or wait, and the trace is these events and what is left.
pub record Said (t : TableRows) (limit : ℕ) (all : Bool) (from : Option (List ℕ)) (left : Option Trace) (p : Progress) (old new : Option (List ℕ)) (waiting : List ℕ) : Type 0 where
  pub done : List Event
  pub follow : AllFollow t [] done
  pub at : StandsAt p done
  pub gathered : Gathered old [] new waiting (spelled (run_lines t all done))
  pub ahead : (text : List ℕ) → from ≡ Some text → (rest : Trace) × (left ≡ Some rest) × (trace_of t limit text ≡ behind done rest)
