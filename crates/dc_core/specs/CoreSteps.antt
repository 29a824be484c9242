-- A core stands for a run.
use Rattle.std.specs.Prelude.{List}
use Rattle.std.specs.Arc.{arc_value}
use Rattle.std.specs.declared.result.Result.{Result}
use Rattle.dc_tables.specs.TableRows.{TableRows}
use Rattle.dc_event.specs.declared.event.Event.{Event}
use Rattle.dc_event.specs.declared.event.Reply.{Reply}
use Rattle.dc_core.specs.declared.concentrator.Core.{Core}
use Rattle.dc_core.specs.declared.fault.StepFault.{StepFault}
use Rattle.dc_core.specs.Steps.{StandsFor, StepsTo}

-- the tables of a core
abbrev pub rows_of : Core → TableRows
rows_of c = arc_value c.tables

-- the core stands for a run of its tables
abbrev pub CoreStandsFor : Core → List Event → Type 0
CoreStandsFor c run = StandsFor (rows_of c) c.state run

-- what a step to this core says, where the core before stood for the run
abbrev pub CoreStepsTo : Core → List Event → Event → Result Reply StepFault → Type 0
CoreStepsTo c run e r = StepsTo (rows_of c) c.state run e r
