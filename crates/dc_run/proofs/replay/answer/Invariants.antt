use Rattle.std.proofs.Common.{◌≡◌, ◌+◌, ◌*◌, ◌^◌, ◌<◌, ◌≤◌, IfSome}
use Rattle.dc_core.specs.CoreSteps.{rows_of}
use Rattle.dc_event.specs.Reading.{ahead, dry_left, failures_at, pulls_left, waits}
use Rattle.dc_run.specs.Replay.{ShowsTrace}
use Rattle.dc_run.specs.lemmas.Traces.{steps}
use Rattle.dc_run.proofs.Said.{Said}
use Rattle.dc_run.proofs.replay.answer.Given as goal

abbrev pub invariant-loop-writer : goal.invariant-loop-writer
invariant-loop-writer g l =
    record {
      said : Said l.tables l.limit l.all (g.S.Source.state l.fn.trace).remaining (ahead l.lines (g.S.Source.state l.trace).remaining) l.progress (g.K.Sink.state l.fn.sink).contents (g.K.Sink.state l.sink).contents l.writer;
      rows : rows_of l.progress.core ≡ l.tables;
      early : l.progress.tick ≤ 2 ^ 40;
      within : l.progress.number + l.lines.room ≤ (l.limit + 1);
      source : (g.S.Source.state l.trace).failed ≡ (g.S.Source.state l.fn.trace).failed + failures_at l.lines.stopped;
      sink : (g.K.Sink.state l.sink).failed ≡ (g.K.Sink.state l.fn.sink).failed;
      asks : (g.S.Source.state l.trace).asked + pulls_left l.lines.stopped l.lines.room l.lines.held ≤ (g.S.Source.state l.fn.trace).asked + (l.limit + 1);
      dry : (g.S.Source.state l.trace).dry + dry_left l.lines.stopped ≤ (g.S.Source.state l.fn.trace).dry + 1;
      prompt : (g.S.Source.state l.fn.trace).dry < (g.S.Source.state l.trace).dry → (g.S.Source.state l.trace).failed ≡ (g.S.Source.state l.fn.trace).failed
          → IfSome (g.S.Source.state l.fn.trace).remaining (λ text. ShowsTrace l.tables l.limit l.all text (g.K.Sink.state l.fn.sink).contents (g.K.Sink.state l.sink).answered);
    }

abbrev pub decreases-loop-writer : goal.decreases-loop-writer
decreases-loop-writer g l = steps l.lines.stopped (2 * l.lines.room + waits l.lines.held)
