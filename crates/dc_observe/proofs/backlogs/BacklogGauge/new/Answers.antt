use Rattle.std.proofs.Common.{sym, arith, ◌∙◌}
use Rattle.dc_observe.proofs.Backlogging.{none-greatest}
use Rattle.dc_observe.proofs.backlogs.BacklogGauge.new.Goals as goal

pub returns-clause-observes : goal.returns-clause-observes
returns-clause-observes c = λ b l. c.in_ok-all_of.ensures.1 b (omega (arith, c.bus_count.ensures)) ∙ sym (none-greatest c.args.tables.now b)
