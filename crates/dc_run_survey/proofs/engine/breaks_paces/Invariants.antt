use Rattle.std.proofs.Common.{◌≡◌, ◌&&◌, not}
use Rattle.dc_run_survey.specs.Lines.{any_below, is_early}
use Rattle.dc_survey.specs.States.{pace_state_of}
use Rattle.dc_tables.specs.TableRows.{is_policed, stream_row}
use Rattle.dc_run_survey.proofs.engine.breaks_paces.Given as goal

abbrev pub invariant-loop-stream : goal.invariant-loop-stream
invariant-loop-stream l = l.early ≡ any_below (λ s. not (is_policed l.tables (stream_row l.tables s).bus) && is_early (pace_state_of l.survey s)) l.stream
