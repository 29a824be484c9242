-- A fault excludes that the network stands.
use Rattle.std.proofs.Common.{ℕ, ◌<◌, List, sym, subst, arith}
use Rattle.dc_chain.specs.Concentrators.{Link as TheLink}
use Rattle.dc_order.specs.declared.hop.Hop.{Hop}
use Rattle.dc_order.specs.lemmas.Reaching.{orders-exclude_rings}
use Rattle.dc_ways.specs.Fitting.{IsGood, IsLinkFault}
use Rattle.dc_ways.specs.Members.{MemberRows, concentrator, connection_at, link_of}
use Rattle.dc_ways.specs.declared.fitting.LinkFault.{LinkFault}
use Rattle.dc_ways.specs.declared.fitting.LinkFault.TheVariants.{NoEnd, Speeds, Stream}
use Rattle.dc_ways.specs.declared.fitting.StreamRule.TheVariants.{TwoLabels, Formats, TooSoon, TooLate}
use Rattle.dc_ways.specs.declared.connection.Connection.{Connection}
use Rattle.dc_system.specs.Judged.{hops_of, Stands, IsNetworkFault, IsMemory}
use Rattle.dc_system.specs.declared.judging.NetworkFault.{NetworkFault}
use Rattle.dc_system.specs.declared.judging.NetworkFault.TheVariants.{Ring, Link, Memory}
use Rattle.dc_system.specs.lemmas.Judging.{hop-is, hops-count}

link-excludes : (from to : MemberRows) (link : TheLink) (fault : LinkFault) → IsLinkFault from to link fault → IsGood from to link → ⊥
link-excludes from to link NoEnd h g = h (g.fits.output_there, g.fits.bus_there)
link-excludes from to link Speeds h g = h.1 g.speeds
link-excludes from to link (Stream s TwoLabels) h g = h.4.4 (g.fits.alone h.4.0 h.4.1 s h.4.2 h.4.3)
link-excludes from to link (Stream s Formats) h g = h.4.1.2 (g.fits.alike h.4.1.0 s h.4.1.1)
link-excludes from to link (Stream s TooSoon) h g = h.4.1.2.1 (g.fits.spaced h.4.1.0 s h.4.1.1)
link-excludes from to link (Stream s TooLate) h g = h.4.1.2.2 (g.fits.lasting h.4.1.0 s h.4.1.1)

pub faults-exclude : (members : List MemberRows) (connections : List Connection) (fault : NetworkFault) (rows : List (List ℕ)) → IsNetworkFault members connections fault → (IsMemory fault → ⊥) → Stands members connections rows → ⊥
faults-exclude members connections (Ring i) rows h other s =
    orders-exclude_rings (hops_of connections) s.place
    (λ k there. (let P : Hop → Type 0 = λ x. s.place x.from < s.place x.to in subst P (sym (hop-is connections k)) (s.order k (omega (arith, there, hops-count connections)))))
    i h.ring
faults-exclude members connections (Link k fault) rows h other s =
    link-excludes (concentrator members (connection_at connections k).from) (concentrator members (connection_at connections k).to) (link_of (connection_at connections k)) fault h.1.2 (s.good k h.1.0)
faults-exclude members connections (Memory e) rows h other s = other tt
