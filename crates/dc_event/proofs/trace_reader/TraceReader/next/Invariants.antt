use Rattle.std.proofs.Common.{◌≡◌, ◌+◌, ◌*◌}
use Rattle.dc_event.specs.Reading.{AsksFor, Stays, ahead, new_failures, waits}
use Rattle.dc_event.proofs.TraceNext.{Again, steps}
use Rattle.dc_event.proofs.trace_reader.TraceReader.next.Given as goal

abbrev pub invariant-loop-reported : goal.invariant-loop-reported
invariant-loop-reported g l =
    record {
      kept : Stays (ahead l.fn.self.lines l.fn.self.coming) (ahead l.self-inside.lines (g.S.Source.state l.self-inside.source).remaining);
      count : (g.S.Source.state l.self-inside.source).failed ≡ l.fn.self.failed + new_failures l.fn.self.lines.stopped l.self-inside.lines.stopped;
      again : Again l.fn.self.lines.stopped l.fn.self.lines l.self-inside.lines l.fn.self.coming (g.S.Source.state l.self-inside.source).remaining
          l.fn.self.asked (g.S.Source.state l.self-inside.source).asked l.fn.self.dry (g.S.Source.state l.self-inside.source).dry;
      asks : AsksFor l.fn.self.lines l.self-inside.lines l.fn.self.asked (g.S.Source.state l.self-inside.source).asked l.fn.self.dry (g.S.Source.state l.self-inside.source).dry;
      tables : l.self-inside.lines.tables ≡ l.fn.self.lines.tables;
    }

abbrev pub decreases-loop-reported : goal.decreases-loop-reported
decreases-loop-reported g l = steps l.self-inside.lines.stopped (2 * l.self-inside.lines.room + waits l.self-inside.lines.held)
