-- What is judged of a whole network, and what it means.
use Rattle.std.specs.Prelude.{ℕ, ◌<◌, List, length, map}
use Rattle.dc_event.specs.declared.event.Event.{Event}
use Rattle.dc_spans.specs.Spans.{exact_clock}
use Rattle.dc_order.specs.Rings.{IsFirstOnRing, IsOnRing}
use Rattle.dc_order.specs.declared.hop.Hop.{Hop}
use Rattle.dc_chain.specs.Concentrators.{KeepsClaims}
use Rattle.dc_network.specs.Networks.{IsOrder, AreWays}
use Rattle.dc_network.specs.JointRuns.{Running, HaveClocks, IsJointRun, running, SendsRecent}
use Rattle.dc_ways.specs.Fitting.{IsGood, IsLinkFault}
use Rattle.dc_ways.specs.Members.{MemberRows, concentrator, connection_at, link_of, network_of, rows_of, ways_in}
use Rattle.dc_ways.specs.declared.connection.Connection.{Connection}
use Rattle.dc_system.specs.declared.judging.NetworkFault.{NetworkFault}
use Rattle.dc_system.specs.declared.judging.NetworkFault.TheVariants.{Ring, Link, Memory}

-- from where to where each link leads
abbrev pub hops_of : List Connection → List Hop
hops_of connections = map (λ c. record { from = c.from; to = c.to }) connections

-- link k is of one speed and fits
abbrev pub IsGoodAt : List MemberRows → List Connection → ℕ → Type 0
IsGoodAt members connections k = let c = connection_at connections k in IsGood (concentrator members c.from) (concentrator members c.to) (link_of c)

-- there is an order, each link is good, and the ways are these
pub record Stands (members : List MemberRows) (connections : List Connection) (rows : List (List ℕ)) : Type 0 where
  pub place : ℕ → ℕ
  pub order : IsOrder (network_of members connections) place
  pub good : (k : ℕ) → k < length connections → IsGoodAt members connections k
  pub ways : AreWays (network_of members connections) (ways_in rows)

-- ---- what it means

-- In every joint run of the network, each concentrator by a clock of its own that its intervals fit, each keeps its claims in microseconds, and each word that
-- leaves a label is no computed data, or has the data and the SSM of one that came to a bus that no link feeds less than the label's way before
abbrev pub NetworkKeepsClaims : List MemberRows → List Connection → List (List ℕ) → Type 0
NetworkKeepsClaims members connections rows =
    let n = network_of members connections in
    (runs : ℕ → Running) → HaveClocks n runs → IsJointRun n runs → (i : ℕ) → i < n.size → KeepsClaims (running n runs i) × SendsRecent n runs (ways_in rows) i

-- these timed runs, each by a clock that starts when it likes and whose ticks last what its document says
abbrev pub exact_runs : List MemberRows → (starts : ℕ → ℕ) → (runs : ℕ → List (ℕ × Event)) → ℕ → Running
exact_runs members starts runs i = record { clock = exact_clock (starts i) (rows_of members i).tick_us; run = runs i }

-- the same by such clocks, which all intervals fit
abbrev pub NetworkKeepsTime : List MemberRows → List Connection → List (List ℕ) → Type 0
NetworkKeepsTime members connections rows =
    let n = network_of members connections in
    (starts : ℕ → ℕ) (runs : ℕ → List (ℕ × Event)) → IsJointRun n (exact_runs members starts runs) → (i : ℕ) → i < n.size
    → KeepsClaims (running n (exact_runs members starts runs) i) × SendsRecent n (exact_runs members starts runs) (ways_in rows) i

-- ---- faults

-- the first link that is not good, with its first fault
abbrev pub IsLinksFault : List MemberRows → List Connection → NetworkFault → Type 0
IsLinksFault members connections (Ring i) = ⊥
IsLinksFault members connections (Link k fault) =
    (k < length connections) × ((j : ℕ) → j < k → IsGoodAt members connections j)
    × (let c = connection_at connections k in IsLinkFault (concentrator members c.from) (concentrator members c.to) (link_of c) fault)
IsLinksFault members connections (Memory e) = ⊥

-- the first concentrator that is on a ring; where there is none, the first link that is not good
abbrev pub IsNetworkFault : List MemberRows → List Connection → NetworkFault → Type 0
IsNetworkFault members connections (Ring i) = IsFirstOnRing (length members) (hops_of connections) i
IsNetworkFault members connections (Link k fault) = ((i : ℕ) → IsOnRing (hops_of connections) i → ⊥) × IsLinksFault members connections (Link k fault)
IsNetworkFault members connections (Memory e) = Unit {0}

-- where memory is not out, a ring
abbrev pub IsOrderFault : List MemberRows → List Connection → NetworkFault → Type 0
IsOrderFault members connections (Ring i) = IsFirstOnRing (length members) (hops_of connections) i
IsOrderFault members connections (Link k fault) = ⊥
IsOrderFault members connections (Memory e) = Unit {0}

-- memory is out
abbrev pub IsMemory : NetworkFault → Type 0
IsMemory (Ring i) = ⊥
IsMemory (Link k fault) = ⊥
IsMemory (Memory e) = Unit {0}
