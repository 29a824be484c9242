-- The routers that visit a bus: the first, and whether another does too.
use Rattle.std.specs.Prelude.{ℕ, Bool, false, ◌==◌, ◌||◌, not, nat_lt, if◌then◌else◌, Option, Some, None, option_map, List, count_by, map, position, unwrap_or}
use Rattle.dc_rules.specs.Rules.{visits_bus}
use Rattle.dc_document.specs.declared.parts.BusPart.{BusPart}
use Rattle.dc_document.specs.declared.parts.RouterPart.{RouterPart}
use Rattle.dc_rules.specs.declared.visits.Visitors.{Visitors}

-- those of the bus of this name, where it has some
abbrev pub visitors_of : List RouterPart → List ℕ → Option Visitors
visitors_of routers name =
    option_map (λ r. record { first = r; shared = nat_lt 1 (count_by (visits_bus name) routers) }) (position (visits_bus name) routers)

-- those after a visit of this router
abbrev pub with_visit : Option Visitors → ℕ → Visitors
with_visit None router = record { first = router; shared = false }
with_visit (Some v) router = record { first = v.first; shared = v.shared || not (v.first == router) }

-- those after this router, which visits the bus or does not
abbrev pub with_router : Bool → Option Visitors → ℕ → Option Visitors
with_router visits past router = if visits then Some (with_visit past router) else past

-- whether there is one visitor
abbrev pub is_served : Option Visitors → Bool
is_served None = false
is_served (Some v) = not v.shared

-- the first visitor
abbrev pub first_of : Option Visitors → ℕ
first_of None = 0
first_of (Some v) = v.first

-- the first router that visits each bus
abbrev pub visiting_routers : List RouterPart → List BusPart → List ℕ
visiting_routers routers buses = map (λ b. unwrap_or (position (visits_bus b.name) routers) 0) buses
