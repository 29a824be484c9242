use Rattle.std.proofs.Common.{◌≡◌, ◌+◌, ◌*◌, ◌≤◌}
use Rattle.dc_event.specs.Reading.{ahead, dry_left, failures_at, pulls_left, waits}
use Rattle.dc_observe.specs.Near.{IsSized}
use Rattle.dc_run.specs.declared.limits.TheConstants.{LONG_TRACE_LIMIT}
use Rattle.dc_run.specs.lemmas.Traces.{steps}
use Rattle.dc_run_observe.proofs.Heard.{Heard}
use Rattle.dc_run_observe.proofs.followed.take_events.Given as goal

abbrev pub invariant-loop-lines : goal.invariant-loop-lines
invariant-loop-lines g l =
    record {
      heard : Heard l.tables (g.S.Source.state l.fn.trace).remaining (ahead l.lines (g.S.Source.state l.trace).remaining) l.near;
      sized : IsSized l.tables l.near;
      few : l.near.events + l.lines.room ≤ LONG_TRACE_LIMIT;
      source : (g.S.Source.state l.trace).failed ≡ (g.S.Source.state l.fn.trace).failed + failures_at l.lines.stopped;
      asks : (g.S.Source.state l.trace).asked + pulls_left l.lines.stopped l.lines.room l.lines.held ≤ (g.S.Source.state l.fn.trace).asked + (LONG_TRACE_LIMIT + 1);
      dry : (g.S.Source.state l.trace).dry + dry_left l.lines.stopped ≤ (g.S.Source.state l.fn.trace).dry + 1;
    }

abbrev pub decreases-loop-lines : goal.decreases-loop-lines
decreases-loop-lines g l = steps l.lines.stopped (2 * l.lines.room + waits l.lines.held)
