use Rattle.std.proofs.Common.{◌≤◌, take}
use Rattle.dc_cert.specs.Bounds.{certificate_rows}
use Rattle.dc_event.specs.Admissible.{IsRun}
use Rattle.dc_event.specs.Claims.{ClaimsHold}
use Rattle.dc_oracle.specs.Claims.{IsSized, StandsFor}
use Rattle.dc_oracle.proofs.claim_watch.claims.Given as goal

abbrev pub invariant-loop-i : goal.invariant-loop-i
invariant-loop-i l = record {
  sized : IsSized l.tables l.watch;
  early : l.watch.replies.tick ≤ l.i;
  police_early : l.watch.police.tick ≤ l.i;
  stands : IsRun l.tables l.run → StandsFor l.tables l.watch (take l.i l.run);
  hold : IsRun l.tables l.run → ClaimsHold l.tables (certificate_rows l.certificate).ages (take l.i l.run);
}
