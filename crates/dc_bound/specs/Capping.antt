-- A bound, and a wire's where there is one.
use Rattle.std.specs.Prelude.{ℕ, min, Option, Some, None, List}
use Rattle.dc_bound.specs.Window.{HoldsWire, wire_cap, ticks_of}
use Rattle.dc_bound.specs.declared.arrival.Wire.{Wire}

-- the lesser of a cap and the wire's; the cap alone where there is no wire
abbrev pub capped : Option Wire → ℕ → ℕ → ℕ
capped None d n = n
capped (Some w) d n = min n (wire_cap w.tick w.spacing d)

-- what the wire carries, where there is one
abbrev pub WireHolds : Option Wire → List (ℕ × ℕ) → Type 0
WireHolds None xs = Unit {0}
WireHolds (Some w) xs = HoldsWire w.tick w.spacing (ticks_of xs)
