use Rattle.std.proofs.Common.{◌≡◌, ◌/◌, ◌%◌, ◌*◌, length, arith, ap}
use Rattle.dc_bound.specs.Rounds.{is_at, fewest_visits}
use Rattle.dc_bound.specs.lemmas.Cycle.{fewest_rounds, fewest_zero}
use Rattle.dc_bound.proofs.service.fewest.Goals as goal

pub returns-then-rest-eq0 : goal.returns-then-rest-eq0
returns-then-rest-eq0 c =
    let none : c.args.steps % length c.args.visits.now ≡ 0 = omega arith in
    omega (
      arith,
      fewest_rounds c.args.visits.now c.args.bus c.args.steps c.requires.some,
      ap (λ k. fewest_visits c.args.visits.now c.args.bus k) none,
      fewest_zero (λ i. is_at c.args.visits.now c.args.bus i) (length c.args.visits.now),
      ap (λ k. c.args.steps / length c.args.visits.now * k) c.visits_in_front-round.ensures.value,
    )

pub returns : goal.returns
returns c =
    omega (
      arith,
      fewest_rounds c.args.visits.now c.args.bus c.args.steps c.requires.some,
      c.fewest_in_rest-least.ensures.value,
      ap (λ k. c.args.steps / length c.args.visits.now * k) c.visits_in_front-round.ensures.value,
    )
