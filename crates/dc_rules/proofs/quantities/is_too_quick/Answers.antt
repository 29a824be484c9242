use Rattle.std.proofs.Common.{◌∙◌, ap, is_err, sym}
use Rattle.dc_rules.specs.Rules.{too_quick}
use Rattle.dc_rules.proofs.Ticking.{in_err}
use Rattle.dc_rules.proofs.quantities.is_too_quick.Goals as goal

pub returns-in-Some : goal.returns-in-Some
returns-in-Some c = c.is_err.ensures.value ∙ ap is_err c.in_ticks.ensures.value ∙ in_err c.in-Some.p.min_us c.in-Some.p.max_us c.args.tick_us ∙ sym (ap (too_quick c.args.tick_us) c.in-Some.is)
