use Rattle.std.proofs.Common.{◌≡◌, ◌+◌, ◌-◌, length, arith, ap, ◌∙◌}
use Rattle.dc_bound.specs.Places.{least}
use Rattle.dc_bound.specs.Rounds.{is_at}
use Rattle.dc_bound.specs.lemmas.Cycle.{least_step, among_small, is_at_small}
use Rattle.dc_bound.proofs.Sliding.{visits_in, slides_inside, slides_round}
use Rattle.dc_bound.proofs.service.fewest_in_rest.Goals as goal

pub overflow_add-here : goal.overflow_add-here
overflow_add-here c = omega (arith, among_small (λ i. is_at c.args.visits.now c.args.bus i) (is_at_small c.args.visits.now c.args.bus) (length c.args.visits.now) c.loop-n.n c.args.rest)

pub overflow_sub-here : goal.overflow_sub-here
overflow_sub-here c =
    omega (
      arith,
      slides_inside c.args.visits.now c.args.bus c.loop-n.n c.args.rest c.loop-n.here c.loop-n.invariant.here (omega arith),
      c.visit.ensures.value,
      c.visit-in-loop-n.ensures.value,
    )

pub loop-n-preserved : goal.loop-n-preserved
loop-n-preserved c =
    let slide = slides_inside c.args.visits.now c.args.bus c.loop-n.n c.args.rest c.loop-n.here c.loop-n.invariant.here (omega arith) in
    let next : c.loop-n.here + c.visit.result - c.visit-in-loop-n.result ≡ visits_in c.args.visits.now c.args.bus (c.loop-n.n + 1) c.args.rest =
    omega (arith, slide, c.visit.ensures.value, c.visit-in-loop-n.ensures.value) in
    record {
      small = omega arith;
      here = next;
      least = c.min-least.ensures ∙ least_step c.loop-n.n (λ n. visits_in c.args.visits.now c.args.bus n c.args.rest) c.loop-n.least _ c.loop-n.invariant.least next;
    }

pub overflow_add-here-in-loop-front : goal.overflow_add-here-in-loop-front
overflow_add-here-in-loop-front c =
    let last = length c.args.visits.now - c.args.rest in
    omega (arith, among_small (λ i. is_at c.args.visits.now c.args.bus i) (is_at_small c.args.visits.now c.args.bus) (length c.args.visits.now) (last + c.loop-front.front) c.args.rest)

pub overflow_sub-here-in-loop-front : goal.overflow_sub-here-in-loop-front
overflow_sub-here-in-loop-front c =
    let last = length c.args.visits.now - c.args.rest in
    omega (
      arith,
      slides_round c.args.visits.now c.args.bus last c.loop-front.front c.args.rest c.loop-front.here (omega arith) c.loop-front.invariant.here (omega arith),
      c.visit-in-loop-front.ensures.value,
      c.visit-in-loop-front-2.ensures.value,
    )

pub loop-front-preserved : goal.loop-front-preserved
loop-front-preserved c =
    let last = length c.args.visits.now - c.args.rest in
    let slide = slides_round c.args.visits.now c.args.bus last c.loop-front.front c.args.rest c.loop-front.here (omega arith) c.loop-front.invariant.here (omega arith) in
    let here = c.loop-front.here + c.visit-in-loop-front.result - c.visit-in-loop-front-2.result in
    let next : here ≡ visits_in c.args.visits.now c.args.bus (last + c.loop-front.front + 1) c.args.rest =
    omega (arith, slide, c.visit-in-loop-front.ensures.value, c.visit-in-loop-front-2.ensures.value) in
    let same : last + c.loop-front.front + 1 ≡ last + (c.loop-front.front + 1) = omega arith in
    let step = least_step (last + c.loop-front.front) (λ n. visits_in c.args.visits.now c.args.bus n c.args.rest) c.loop-front.least here c.loop-front.invariant.least next in
    record {
      small = omega arith;
      here = next ∙ ap (λ n. visits_in c.args.visits.now c.args.bus n c.args.rest) same;
      least = c.min-least-in-loop-front.ensures ∙ step ∙ ap (least (λ n. visits_in c.args.visits.now c.args.bus n c.args.rest)) same;
    }
