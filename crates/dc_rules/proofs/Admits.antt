-- What a shape that is well says of the tick and the parameters.
use Rattle.std.proofs.Common.{◌≡◌, ◌≤◌, Ok, get_or, arith}
use Rattle.std.specs.List.{All}
use Rattle.dc_document.specs.Document.{Document}
use Rattle.dc_rules.specs.Rules.{outside, parameter_out, then_reported, shape, totals, quantities, first_rules}
use Rattle.dc_dict.specs.declared.parameter.Parameter.{Parameter as ParameterPart}
use Rattle.dc_rules.specs.lemmas.Picks.{each_fails, not_outside, or_none}
use Rattle.dc_rules.proofs.Obeying.{both, shape_obeys}

pub tick_some : (d : Document) → shape d ≡ Ok tt → 1 ≤ d.tick_us
tick_some d h = omega (arith, (not_outside 100 10000 d.tick_us (shape_obeys d h).top.tick).0)

pub parameters_small : (d : Document) → shape d ≡ Ok tt → All (λ (p : ParameterPart). p.min_us ≤ 60000000) d.parameters
parameters_small d h k x l =
    let p = get_or d.parameters k x in
    (not_outside 1 60000000 p.min_us (or_none (outside 1 60000000 p.min_us) (outside 1 60000000 p.max_us) (each_fails parameter_out d.parameters (shape_obeys d h).parameters k x l)).0).1

pub first_tick : (d : Document) → first_rules d ≡ Ok tt → 1 ≤ d.tick_us
first_tick d h = tick_some d (both (shape d) (then_reported (totals d) (quantities d)) h).0
