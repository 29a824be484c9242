-- What a bus is served stays small.
use Rattle.std.proofs.Common.{ℕ, ◌*◌, ◌/◌, ◌≤◌, ◌<◌, length, arith}
use Rattle.std.proofs.Math.Nat.{mul-le-mul, mul-le-mul_right, div-le_of_le-mul}
use Rattle.dc_bound.specs.Rounds.{is_at}
use Rattle.dc_bound.specs.lemmas.Cycle.{fewest_holds, among_small, is_at_small}
use Rattle.dc_tables.specs.TableRows.{TableRows, AreValid, bus_row, router_row, bus_floor}

few-steps : (steps within d : ℕ) → steps ≤ 1000 → 1 ≤ within → d ≤ 100000 → steps * (d / within) ≤ 100000000
few-steps steps within d small paced short =
    let whole : d / within ≤ d = div-le_of_le-mul within (omega (arith, mul-le-mul_right d paced)) in
    let at_most : d / within ≤ 100000 = omega (arith, whole, short) in
    mul-le-mul small at_most

pub bus-few : (t : TableRows) → AreValid t → (b : ℕ) → b < length t.buses → (d : ℕ) → d ≤ 100000 → bus_floor t b d ≤ 100000000
unfolding bus_floor
bus-few t v b there d short =
    let row = router_row t (bus_row t b).router in
    let r = v.routers_of_buses b there in
    let steps = row.steps * (d / row.within) in
    omega (
      arith,
      fewest_holds (λ i. is_at row.visits b i) (length row.visits) (v.visits_there (bus_row t b).router r) 0 steps,
      among_small (λ i. is_at row.visits b i) (λ i. is_at_small row.visits b i) (length row.visits) 0 steps,
      few-steps row.steps row.within d (v.routers_steps_small (bus_row t b).router r) (v.routers_paced (bus_row t b).router r) short,
    )
