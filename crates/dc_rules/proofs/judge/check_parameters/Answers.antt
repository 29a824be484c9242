use Rattle.std.proofs.Common.{◌≡◌, ◌∙◌, sym, ap, rules, Ok, map}
use Rattle.dc_rules.specs.Rules.{reported, doubled, first_inverted}
use Rattle.dc_document.specs.Keys.{same_parameter, parameter_key}
use Rattle.dc_document.specs.declared.fault.TableRule.TheVariants.{ParameterDoubled, IntervalReversed}
use Rattle.dc_document.specs.declared.fault.Section.TheVariants.{Parameter}
use Rattle.dc_rules.proofs.Telling.{tells_later}
use Rattle.dc_rules.proofs.judge.check_parameters.Goals as goal

pub returns-clause-rule : goal.returns-clause-rule
returns-clause-rule c =
    let found : c.in_ok-found.found ≡ doubled same_parameter (map parameter_key c.args.parts.now.parameters) = search rules in
    let once : reported ParameterDoubled Parameter (doubled same_parameter (map parameter_key c.args.parts.now.parameters)) ≡ Ok tt = ap (reported ParameterDoubled Parameter) (sym found) ∙ sym c.refuse.ensures ∙ c.in_ok-refuse.was in
    let ordered : reported IntervalReversed Parameter (first_inverted c.args.parts.now.parameters) ≡ Ok tt = search rules in
    tells_later _ _ _ once (tells_later _ _ _ ordered c.keep_parameters.ensures.rule)
