use Rattle.std.proofs.Common.{◌≡◌, ◌+◌, ◌*◌, ◌≤◌}
use Rattle.dc_capture.specs.Reading.{ahead, dry_left, failures_at, pulls_left, waits}
use Rattle.dc_capture.specs.declared.capture_lines.TheConstants.{CAPTURE_LIMIT}
use Rattle.dc_run_survey.proofs.Heard.{Heard, steps}
use Rattle.dc_survey.specs.Surveys.{IsSized}
use Rattle.dc_run_survey.proofs.recorded.take_words.Given as goal

abbrev pub invariant-loop-lines : goal.invariant-loop-lines
invariant-loop-lines g l =
    record {
      heard : Heard l.tables (g.S.Source.state l.fn.capture).remaining (ahead l.lines (g.S.Source.state l.capture).remaining) l.lines.latest l.lines.room l.survey;
      sized : IsSized l.tables l.survey;
      timings : l.survey.timings ≡ l.fn.survey.timings;
      rows : l.lines.tables ≡ l.tables;
      source : (g.S.Source.state l.capture).failed ≡ (g.S.Source.state l.fn.capture).failed + failures_at l.lines.stopped;
      asks : (g.S.Source.state l.capture).asked + pulls_left l.lines.stopped l.lines.room l.lines.held ≤ (g.S.Source.state l.fn.capture).asked + (CAPTURE_LIMIT + 1);
      dry : (g.S.Source.state l.capture).dry + dry_left l.lines.stopped ≤ (g.S.Source.state l.fn.capture).dry + 1;
    }

abbrev pub decreases-loop-lines : goal.decreases-loop-lines
decreases-loop-lines g l = steps l.lines.stopped (2 * l.lines.room + waits l.lines.held)
