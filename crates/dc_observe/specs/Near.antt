-- What is carried along a run of how near it came to its bounds.
use Rattle.std.specs.Prelude.{◌≡◌, ◌≤◌, List, length}
use Rattle.dc_tables.specs.TableRows.{TableRows}
use Rattle.dc_event.specs.declared.event.Event.{Event}
use Rattle.dc_oracle.specs.Arrivals.{IsSized as AreArrivals, Follows}
use Rattle.dc_oracle.specs.Police.{Polices}
use Rattle.dc_oracle.specs.Replies.{IsSized as AreReplies, Holds}
use Rattle.dc_observe.specs.Backlogs.{IsSized as AreBacklogs, Observes}
use Rattle.dc_observe.specs.Waits.{IsSized as AreWaits, Waits}
use Rattle.dc_observe.specs.Lates.{IsSized as AreLates, AreLate}
use Rattle.dc_observe.specs.Labels.{IsSized as AreLabels, AreGauged}
use Rattle.dc_observe.specs.declared.nearness.Nearness.{Nearness}

-- a part for each row of the tables, and no more ticks than events
pub record IsSized (t : TableRows) (n : Nearness) : Type 0 where
  pub replies : AreReplies t n.replies
  pub paces : length n.police.paces.items ≡ length t.streams
  pub arrivals : AreArrivals t n.arrivals
  pub backlogs : AreBacklogs t n.backlogs
  pub waits : AreWaits t n.waits
  pub lates : AreLates t n.lates
  pub labels : AreLabels t n.labels
  pub ticks : n.replies.tick ≤ n.events
  pub police_ticks : n.police.tick ≤ n.events

-- each part is that of the run
pub record IsNearness (t : TableRows) (n : Nearness) (run : List Event) : Type 0 where
  pub count : n.events ≡ length run
  pub replies : Holds t n.replies run
  pub police : Polices t n.police run
  pub arrivals : Follows t n.arrivals run
  pub backlogs : Observes t n.backlogs run
  pub waits : Waits t n.waits run
  pub lates : AreLate t n.lates run
  pub labels : AreGauged t n.labels run
