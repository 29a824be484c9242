use Rattle.std.proofs.Common.{◌≡◌, ◌+◌, ◌*◌, ◌≤◌, ◌++◌, length}
use Rattle.std.specs.Io.KnownBytes.{prepend_known}
use Rattle.dc_device.specs.Lines.{NoFeed}
use Rattle.dc_run.specs.declared.decode.TheConstants.{STREAM_LIMIT}
use Rattle.dc_run.proofs.Says.{Says, waits}
use Rattle.dc_run.proofs.decode.answer.Given as goal

abbrev pub invariant-loop-word : goal.invariant-loop-word
invariant-loop-word g l =
    record {
      said : Says l.format STREAM_LIMIT (g.S.Source.state l.fn.source).remaining (prepend_known (l.line.items ++ l.reader.bytes) (g.S.Source.state l.source).remaining) (g.K.Sink.state l.fn.sink).contents (g.K.Sink.state l.sink).contents l.writer (l.reader.room + length l.line.items) l.number;
      plain : NoFeed l.line.items;
      within : l.number + (l.reader.room + length l.line.items) ≤ (STREAM_LIMIT + 1);
      source : (g.S.Source.state l.source).failed ≡ (g.S.Source.state l.fn.source).failed;
      sink : (g.K.Sink.state l.sink).failed ≡ (g.K.Sink.state l.fn.sink).failed;
      asks : (g.S.Source.state l.source).asked + (l.reader.room + waits l.reader.bytes) ≤ (g.S.Source.state l.fn.source).asked + (STREAM_LIMIT + 1);
      dry : (g.S.Source.state l.source).dry ≤ (g.S.Source.state l.fn.source).dry;
    }

abbrev pub decreases-loop-word : goal.decreases-loop-word
decreases-loop-word g l = 2 * l.reader.room + waits l.reader.bytes
