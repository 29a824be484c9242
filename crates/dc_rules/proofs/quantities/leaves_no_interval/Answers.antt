use Rattle.std.proofs.Common.{◌∙◌, ap, is_err, sym}
use Rattle.dc_rules.specs.Rules.{no_interval}
use Rattle.dc_rules.proofs.Ticking.{out_err}
use Rattle.dc_rules.proofs.quantities.leaves_no_interval.Goals as goal

pub returns-in-Some : goal.returns-in-Some
returns-in-Some c = c.is_err.ensures.value ∙ ap is_err c.out_ticks.ensures.value ∙ out_err c.in-Some.p.min_us c.in-Some.p.max_us c.args.tick_us ∙ sym (ap (no_interval c.args.tick_us) c.in-Some.is)
