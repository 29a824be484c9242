-- Laws on orders and rings. Each is the contract of a function in `laws`.
use Rattle.std.specs.Prelude.{ℕ, List}
use Rattle.dc_order.specs.declared.hop.Hop.{Hop}
use Rattle.dc_order.specs.Rings.{IsOrder, IsOnRing}

-- where there is an order, there is no ring
abbrev pub OrdersExcludeRings : Type 0
OrdersExcludeRings = (hops : List Hop) (place : ℕ → ℕ) → IsOrder hops place → (i : ℕ) → IsOnRing hops i → ⊥
