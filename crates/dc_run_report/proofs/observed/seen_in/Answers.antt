use Rattle.std.proofs.Common.{refl}
use Rattle.dc_run_report.proofs.observed.seen_in.Goals as goal

pub returns-in-Ok-clause-seen : goal.returns-in-Ok-clause-seen
returns-in-Ok-clause-seen g = g.in-Ok.ensures.said

pub returns-in-Ok-clause-sized : goal.returns-in-Ok-clause-sized
returns-in-Ok-clause-sized g = record { inputs = g.in-Ok.ensures.inputs; outputs = g.in-Ok.ensures.outputs; labels = g.in-Ok.ensures.labels }

pub returns-in-Ok-clause-count : goal.returns-in-Ok-clause-count
returns-in-Ok-clause-count g = refl

pub returns-in-Ok-clause-sink : goal.returns-in-Ok-clause-sink
returns-in-Ok-clause-sink g = tt
