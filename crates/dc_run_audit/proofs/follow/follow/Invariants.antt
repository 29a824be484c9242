use Rattle.std.proofs.Common.{◌≡◌, ◌+◌, ◌*◌, ◌≤◌, false}
use Rattle.dc_cert.specs.Bounds.{certificate_rows}
use Rattle.dc_event.specs.Reading.{ahead, dry_left, failures_at, pulls_left, waits}
use Rattle.dc_oracle.specs.Courses.{IsAuditCourse}
use Rattle.dc_run.specs.Limits.{trace_limit}
use Rattle.dc_run_audit.specs.declared.follow.TheConstants.{MOST_EVENTS}
use Rattle.dc_run_audit.proofs.Recorded.{Followed}
use Rattle.dc_run.specs.lemmas.Traces.{steps}
use Rattle.dc_run_audit.proofs.follow.follow.Given as goal

abbrev pub invariant-loop-lines : goal.invariant-loop-lines
invariant-loop-lines g l =
    record {
      followed : Followed l.tables (trace_limit l.long) (certificate_rows l.certificate).ages (g.S.Source.state l.fn.trace).remaining (ahead l.lines (g.S.Source.state l.trace).remaining) l.course;
      sized : IsAuditCourse l.tables l.course;
      few : l.course.events + l.lines.room ≤ trace_limit l.long;
      usual : l.long ≡ false → l.course.events ≤ MOST_EVENTS;
      source : (g.S.Source.state l.trace).failed ≡ (g.S.Source.state l.fn.trace).failed + failures_at l.lines.stopped;
      asks : (g.S.Source.state l.trace).asked + pulls_left l.lines.stopped l.lines.room l.lines.held ≤ (g.S.Source.state l.fn.trace).asked + (trace_limit l.long + 1);
      dry : (g.S.Source.state l.trace).dry + dry_left l.lines.stopped ≤ (g.S.Source.state l.fn.trace).dry + 1;
    }

abbrev pub decreases-loop-lines : goal.decreases-loop-lines
decreases-loop-lines g l = steps l.lines.stopped (2 * l.lines.room + waits l.lines.held)
