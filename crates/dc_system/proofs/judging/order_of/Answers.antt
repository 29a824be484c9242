use Rattle.std.proofs.Common.{List, length, sym, ◌∙◌, subst, arith}
use Rattle.dc_order.specs.Rings.{AreNumbered, IsOrder}
use Rattle.dc_order.specs.declared.hop.Hop.{Hop}
use Rattle.std.specs.Prelude.{slice_index}
use Rattle.dc_system.specs.lemmas.Judging.{hops-numbered, places-are}
use Rattle.dc_system.proofs.judging.order_of.Goals as goal

pub places-requires : goal.places-requires
places-requires c =
    let P : List Hop → Type 0 = λ z. AreNumbered (length c.args.members.now) z in
    subst P (sym (c.deref.ensures.value ∙ c.in-Ok.ensures)) (hops-numbered (length c.args.members.now) c.args.connections.now c.requires.connections)

pub returns-in-Ok-places : goal.returns-in-Ok-places
returns-in-Ok-places c =
    let P : List Hop → Type 0 = λ z. IsOrder z (λ i. slice_index c.in-Ok-places.places.items i) in
    places-are c.args.members.now c.args.connections.now c.in-Ok-places.places.items c.requires.few
    (omega (arith, c.in-Ok-places.ensures.places, c.in-Ok-places.places.ok.0))
    c.in-Ok-places.ensures.few
    (subst P (c.deref.ensures.value ∙ c.in-Ok.ensures) c.in-Ok-places.ensures.order)
