use Rattle.std.proofs.Common.{List, length, sym, subst, get_or}
use Rattle.dc_order.specs.Rings.{AreNumbered, IsOrder}
use Rattle.dc_order.specs.declared.hop.Hop.{Hop}
use Rattle.dc_order.specs.lemmas.Reaching.{orders-exclude_rings}
use Rattle.dc_system_text.specs.System.{ConcentratorRow}
use Rattle.dc_run_network.specs.Links.{hops_in}
use Rattle.dc_run_network.specs.lemmas.Ends.{hops-is, hops-numbered}
use Rattle.dc_run_network.proofs.engine.ring_in.Goals as goal

pub places-requires : goal.places-requires
places-requires c =
    let P : List Hop → Type 0 = λ z. AreNumbered (length c.args.system.now.concentrators) z in
    let Q : List ConcentratorRow → Type 0 = λ z. AreNumbered (length z) c.deref.result.now in
    let is = hops-is c.args.system.now c.concentrators.result.now c.links.result.now c.deref.result.now c.in_ok-hops.hops.items c.concentrators.ensures c.links.ensures c.deref.ensures.value c.in_ok-hops.ensures in
    subst Q (sym c.concentrators-2.ensures) (subst P (sym is) (hops-numbered c.args.system.now c.keeps_rules.ensures))

pub returns-in-Ok : goal.returns-in-Ok
returns-in-Ok c =
    let P : List Hop → Type 0 = λ z. IsOrder z (λ i. get_or c.in-Ok.field-0.items i 0) in
    let is = hops-is c.args.system.now c.concentrators.result.now c.links.result.now c.deref.result.now c.in_ok-hops.hops.items c.concentrators.ensures c.links.ensures c.deref.ensures.value c.in_ok-hops.ensures in
    λ i ring. orders-exclude_rings (hops_in c.args.system.now) (λ i. get_or c.in-Ok.field-0.items i 0) (subst P is c.in-Ok.ensures.order) i ring
