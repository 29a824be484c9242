-- What makes a network stand, and what follows.
use Rattle.std.proofs.Common.{◌≡◌, ℕ, ◌+◌, ◌<◌, ◌≤◌, List, length, get_or, refl, sym, subst, arith, inl, inr}
use Rattle.std.proofs.lemmas.Bool.{cases_eq}
use Rattle.std.proofs.Math.ListN.{get_or-map, length-map}
use Rattle.dc_order.specs.Rings.{hop_at, AreNumbered, IsOnRing}
use Rattle.dc_order.specs.Rings.{IsOrder as IsHopOrder}
use Rattle.dc_order.specs.declared.hop.Hop.{Hop}
use Rattle.dc_order.specs.lemmas.Reaching.{orders-exclude_rings}
use Rattle.dc_network.specs.Networks.{AreWays}
use Rattle.dc_network.specs.JointRuns.{IsSound, IsClockOf}
use Rattle.dc_in_time.specs.lemmas.Rounding.{fits_clock}
use Rattle.dc_order.specs.declared.limits.TheConstants.{MOST_CONCENTRATORS}
use Rattle.dc_spans.specs.Spans.{exact_clock}
use Rattle.dc_spans.specs.lemmas.Scaling.{exact-paced}
use Rattle.dc_network.specs.lemmas.Tracing.{networks-keep_claims}
use Rattle.dc_ways.specs.Members.{MemberRows, IsMember, AreConnections, ArePlaces, concentrator, connection_at, member_of, network_of, ways_in}
use Rattle.dc_ways.specs.declared.connection.Connection.{Connection}
use Rattle.dc_system.specs.Judged.{hops_of, IsGoodAt, Stands, NetworkKeepsClaims, NetworkKeepsTime, exact_runs, IsLinksFault, IsMemory, IsNetworkFault}
use Rattle.dc_system.specs.declared.judging.NetworkFault.{NetworkFault}
use Rattle.dc_system.specs.declared.judging.NetworkFault.TheVariants.{Ring, Link, Memory}

-- ---- hops

pub hop-is : (connections : List Connection) (k : ℕ) → hop_at (hops_of connections) k ≡ record { from = (connection_at connections k).from; to = (connection_at connections k).to }
hop-is connections k = get_or-map (λ (c : Connection). let h : Hop = record { from = c.from; to = c.to } in h) connections k (record { from = 0; to = 0; output = 0; bus = 0; least_us = 0; most_us = 0 })

pub hops-count : (connections : List Connection) → length (hops_of connections) ≡ length connections
hops-count connections = length-map connections (λ (c : Connection). let h : Hop = record { from = c.from; to = c.to } in h)

pub hops-numbered : (size : ℕ) (connections : List Connection) → AreConnections size connections → AreNumbered size (hops_of connections)
hops-numbered size connections are k h =
    let there : k < length connections = omega (arith, h, hops-count connections) in
    let P : Hop → Type 0 = λ x. (x.from < size) × (x.to < size) in
    subst P (sym (hop-is connections k)) (are.from k there, are.to k there)

pub places-are : (members : List MemberRows) (connections : List Connection) (places : List ℕ) → length members ≤ MOST_CONCENTRATORS → length places ≡ length members → ((i : ℕ) → get_or places i 0 ≤ length members) → IsHopOrder (hops_of connections) (λ i. get_or places i 0)
    → ArePlaces members connections places
places-are members connections places all each few order = record {
  each = each;
  few = λ i. omega (arith, few i, all);
  order = λ k there. (let P : Hop → Type 0 = λ x. get_or places x.from 0 < get_or places x.to 0 in subst P (hop-is connections k) (order k (omega (arith, there, hops-count connections))));
}

-- places exclude rings
pub no-ring : (members : List MemberRows) (connections : List Connection) (places : List ℕ) → ArePlaces members connections places → (i : ℕ) → IsOnRing (hops_of connections) i → ⊥
no-ring members connections places p i ring =
    orders-exclude_rings (hops_of connections) (λ i. get_or places i 0)
    (λ k there. (let P : Hop → Type 0 = λ x. get_or places x.from 0 < get_or places x.to 0 in subst P (sym (hop-is connections k)) (p.order k (omega (arith, there, hops-count connections)))))
    i ring

-- ---- the whole

pub stands : (members : List MemberRows) (connections : List Connection) (places : List ℕ) (rows : List (List ℕ)) → ArePlaces members connections places → ((k : ℕ) → k < length connections → IsGoodAt members connections k)
    → AreWays (network_of members connections) (ways_in rows) → Stands members connections rows
stands members connections places rows p good are = record { place = λ i. get_or places i 0; order = p.order; good = good; ways = are }

pub links-fault : (members : List MemberRows) (connections : List Connection) (places : List ℕ) (fault : NetworkFault) → ArePlaces members connections places → IsLinksFault members connections fault → IsNetworkFault members connections fault
links-fault members connections places (Ring i) p h = absurd h
links-fault members connections places (Link k fault) p h = (no-ring members connections places p, h)
links-fault members connections places (Memory e) p h = absurd h

-- each concentrator has an accepted certificate
abbrev pub AreJudged : List MemberRows → Type 0
AreJudged members = (i : ℕ) → i < length members → IsMember (concentrator members i)

pub stands-claims : (members : List MemberRows) (connections : List Connection) (rows : List (List ℕ)) → AreJudged members → AreConnections (length members) connections → Stands members connections rows
    → NetworkKeepsClaims members connections rows
stands-claims members connections rows all are s = λ runs clocks joint i there.
    let sound : IsSound (network_of members connections) = record {
      certified = λ j inside. record { valid = (all j inside).valid; claims = (concentrator members j).claims; accepted = (all j inside).accepted; ages = refl };
      ends = λ k inside. (are.from k inside, are.to k inside);
      fit = λ k inside. (s.good k inside).fits;
      place = s.place;
      order = s.order;
    } in
    networks-keep_claims (network_of members connections) sound (ways_in rows) s.ways runs clocks joint i there

-- a clock whose ticks last what the document says is one that its intervals fit
pub exact-clock : (m : MemberRows) (start : ℕ) → IsMember m → IsClockOf (member_of m) (exact_clock start m.written.tables.tick_us)
exact-clock m start is = record {
  paced = exact-paced start m.written.tables.tick_us (omega (arith, is.valid.ticks_some));
  longest = omega arith;
  fits = fits_clock m.written.tables is.valid m.written.parts is.written.obeys is.written.rows start;
}

pub stands-time : (members : List MemberRows) (connections : List Connection) (rows : List (List ℕ)) → AreJudged members → AreConnections (length members) connections → Stands members connections rows
    → NetworkKeepsTime members connections rows
stands-time members connections rows all are s = λ starts runs joint.
    stands-claims members connections rows all are s (exact_runs members starts runs) (λ i there. exact-clock (concentrator members i) (starts i) (all i there)) joint

-- one link more
pub links-more : (members : List MemberRows) (connections : List Connection) (m : ℕ) → ((k : ℕ) → k < m → IsGoodAt members connections k) → IsGoodAt members connections m → (k : ℕ) → k < m + 1 → IsGoodAt members connections k
links-more members connections m h last k less = elim (cases_eq k m) [
  | inl same ↦ (let P : ℕ → Type 0 = λ k. IsGoodAt members connections k in subst P (sym same) last)
  | inr ne ↦ h k (omega (arith, less, ne))
]

pub memory-fault : (members : List MemberRows) (connections : List Connection) (fault : NetworkFault) → IsMemory fault → IsNetworkFault members connections fault
memory-fault members connections (Ring i) h = absurd h
memory-fault members connections (Link k fault) h = absurd h
memory-fault members connections (Memory e) h = tt
