use Rattle.std.proofs.Common.{◌∙◌, sym, arith}
use Rattle.dc_observe.proofs.Lating.{latest-nil}
use Rattle.dc_observe.proofs.lates.LateGauge.new.Goals as goal

pub returns-clause-late : goal.returns-clause-late
returns-clause-late c = λ o l. c.in_ok-all_of.ensures.1 o (omega (arith, c.output_count.ensures)) ∙ sym (latest-nil c.args.tables.now o)
