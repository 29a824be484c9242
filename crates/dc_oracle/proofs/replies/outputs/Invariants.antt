use Rattle.std.proofs.Common.{length, ◌≡◌, ◌≤◌, take}
use Rattle.dc_event.specs.Replies.{outputs_of}
use Rattle.dc_event.specs.Admissible.{IsRun}
use Rattle.dc_oracle.specs.Police.{Polices}
use Rattle.dc_oracle.specs.Replies.{IsSized, Holds}
use Rattle.dc_oracle.proofs.replies.outputs.Given as goal

abbrev pub invariant-loop-event : goal.invariant-loop-event
invariant-loop-event l = record {
  sized : IsSized l.tables l.watch;
  paces : length l.police.paces.items ≡ length l.tables.streams;
  early : l.watch.tick ≤ l.event-index;
  police_early : l.police.tick ≤ l.event-index;
  polices : IsRun l.tables l.run → Polices l.tables l.police (take l.event-index l.run);
  holds : IsRun l.tables l.run → Holds l.tables l.watch (take l.event-index l.run);
  replies : IsRun l.tables l.run → l.replies.items ≡ outputs_of l.tables (take l.event-index l.run);
}
