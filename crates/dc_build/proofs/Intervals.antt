-- Intervals in ticks.
use Rattle.std.proofs.Common.{◌≡◌, ℕ, ◌+◌, ◌*◌, ◌/◌, ◌<◌, ◌≤◌, false, Option, Some, None, is_none, refl, ap, inl, inr, arith}
use Rattle.std.specs.Option.{option_map_or}
use Rattle.std.proofs.Math.Nat.{div-lt_iff_lt-mul, lt-div-mul-add, mul-le-mul_right}
use Rattle.std.proofs.lemmas.Bool.{cases_lt}
use Rattle.std.specs.Int.{div_ceil}
use Rattle.std.proofs.lemmas.Grind.{div_ceil_times}
use Rattle.dc_dict.specs.Ticks.{in_minimum, in_maximum, jitter_ticks, out_minimum, out_maximum}
use Rattle.dc_document.specs.Ticks.{output_gap, input_spacing}
use Rattle.dc_rules.specs.Rules.{too_quick, no_interval}
use Rattle.dc_dict.specs.declared.parameter.Parameter.{Parameter as ParameterPart}
use Rattle.dc_document.specs.declared.parts.Speed.{Speed}
use Rattle.dc_document.specs.declared.parts.Speed.TheVariants.{High, Low}
use Rattle.dc_rules.specs.lemmas.Picks.{not_below}

div_mono : (k x y : ℕ) → 0 < k → x ≤ y → x / k ≤ y / k
div_mono k x y h l =
    let lt : x < (y / k + 1) * k = omega (arith, lt-div-mul-add {a = y} {b = k} h) in
    let r : x / k < y / k + 1 = (div-lt_iff_lt-mul {k = k} {x = x} {y = y / k + 1} h).1 lt in
    omega arith

-- a quotient rounded up, by what is divided
ceil_below : (x k q : ℕ) → 0 < k → x ≤ q * k → div_ceil x k ≤ q
ceil_below x k q h l =
    elim (cases_lt q (div_ceil x k)) [
      | inl m ↦ absurd (omega (arith, (div_ceil_times x k h).1, mul-le-mul_right {m = q + 1} {n = div_ceil x k} k (omega (arith, m)), l))
      | inr g ↦ g
    ]

ceil_some : (x k : ℕ) → 0 < k → 1 ≤ x → 1 ≤ div_ceil x k
ceil_some x k h l =
    elim (cases_lt 0 (div_ceil x k)) [
      | inl m ↦ m
      | inr g ↦ let z : div_ceil x k ≡ 0 = omega arith in absurd (omega (arith, (div_ceil_times x k h).0, z, ap (λ n. n * k) z, l))
    ]

-- ---- a stream's interval

pub minimum_some : (tick : ℕ) (o : Option ParameterPart) → is_none o ≡ false → too_quick tick o ≡ false → 1 ≤ option_map_or (λ p. in_minimum p.min_us tick) o 0
minimum_some tick None h q = absurd (cc h)
minimum_some tick (Some p) h q = not_below (p.min_us / tick) 1 q

pub maximum_after : (tick : ℕ) (o : Option ParameterPart) → 0 < tick → ((p : ParameterPart) → o ≡ Some p → p.min_us ≤ p.max_us) → option_map_or (λ p. in_minimum p.min_us tick) o 0 ≤ option_map_or (λ p. in_maximum p.max_us tick) o 0
maximum_after tick None t h = omega arith
maximum_after tick (Some p) t h = omega (arith, div_mono tick p.min_us p.max_us t (h p refl))

pub maximum_small : (tick : ℕ) (o : Option ParameterPart) → 100 ≤ tick → ((p : ParameterPart) → o ≡ Some p → p.max_us ≤ 60000000) → option_map_or (λ p. in_maximum p.max_us tick) o 0 ≤ 600000
maximum_small tick None t h = omega arith
maximum_small tick (Some p) t h = ceil_below p.max_us tick 600000 (omega arith) (omega (arith, h p refl))

pub jitter_small : (tick jitter_us : ℕ) → 100 ≤ tick → jitter_us ≤ 60000000 → jitter_ticks jitter_us tick ≤ 600000
jitter_small tick jitter_us t h = ceil_below jitter_us tick 600000 (omega arith) (omega (arith, h))

-- ---- a label's interval

pub interval_there : (tick : ℕ) (o : Option ParameterPart) → is_none o ≡ false → no_interval tick o ≡ false → option_map_or (λ p. out_minimum p.min_us tick) o 0 ≤ option_map_or (λ p. out_maximum p.max_us tick) o 0
interval_there tick None h q = absurd (cc h)
interval_there tick (Some p) h q = not_below (out_maximum p.max_us tick) (out_minimum p.min_us tick) q

pub interval_small : (tick : ℕ) (o : Option ParameterPart) → 100 ≤ tick → ((p : ParameterPart) → o ≡ Some p → p.max_us ≤ 60000000) → option_map_or (λ p. out_maximum p.max_us tick) o 0 ≤ 600000
interval_small tick None t h = omega arith
interval_small tick (Some p) t h =
    let z : 0 < tick = omega arith in
    let lt : p.max_us < 600001 * tick = omega (arith, h p refl) in
    let r : p.max_us / tick < 600001 = (div-lt_iff_lt-mul {k = tick} {x = p.max_us} {y = 600001} z).1 lt in
    omega arith

-- ---- speeds

pub spacing_some : (speed : Speed) → 1 ≤ input_spacing speed
spacing_some High = omega arith
spacing_some Low = omega arith

pub gap_some : (tick : ℕ) (speed : Speed) → 1 ≤ tick → 1 ≤ output_gap tick speed
gap_some tick High t = ceil_some 365 tick t (omega arith)
gap_some tick Low t = ceil_some 3050 tick t (omega arith)
