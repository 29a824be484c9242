-- What an engine stands for, and what its steps say.
use Rattle.std.specs.Prelude.{◌≡◌, List, Result, OnErr}
use Rattle.dc_cert.specs.NamedRows.{NamedRows, named_rows}
use Rattle.dc_check.specs.Lent.{tables_of, certificate_of}
use Rattle.dc_core.specs.Steps.{StandsFor, StepsTo}
use Rattle.dc_core.specs.declared.fault.StepFault.{StepFault}
use Rattle.dc_event.specs.declared.event.Event.{Event}
use Rattle.dc_event.specs.declared.event.Reply.{Reply}
use Rattle.dc_tables.specs.TableRows.{TableRows}
use Rattle.dc_engine.specs.declared.engine.Engine.{Engine}

-- the tables of an engine
abbrev pub rows_of : Engine → TableRows
rows_of e = tables_of e.certified

-- what its certificate claims
abbrev pub claims_of : Engine → NamedRows
claims_of e = named_rows (certificate_of e.certified)

-- the engine stands for a run of its tables
abbrev pub StandsForRun : Engine → List Event → Type 0
StandsForRun e run = StandsFor (rows_of e) e.state run

-- What a step says: tables and certificate stay; where the event is refused all stays; and where the engine stood for a run, the reply is the one
-- that the run calls for and the engine stands for the run with the event, or the event may not follow the run
pub record StepsOn (old new : Engine) (event : Event) (r : Result Reply StepFault) : Type 0 where
  pub certified : new.certified ≡ old.certified
  pub unchanged : OnErr r (new ≡ old)
  pub stands : (run : List Event) → StandsForRun old run → StepsTo (rows_of old) new.state run event r
