use Rattle.std.proofs.Common.{◌∙◌, sym, arith}
use Rattle.dc_observe.proofs.Visiting.{waits-nil}
use Rattle.dc_observe.proofs.waits.WaitGauge.new.Goals as goal

pub returns-clause-waits : goal.returns-clause-waits
returns-clause-waits c = λ b l. c.in_ok-all_of.ensures.1 b (omega (arith, c.bus_count.ensures)) ∙ sym (waits-nil c.args.tables.now b)
