use Rattle.std.proofs.Common.{[], ◌∷◌, ◌++◌, map, take, sym, ap, ◌∙◌}
use Rattle.std.proofs.lemmas.List.{map_more}
use Rattle.dc_ways.specs.declared.connection.Connection.{Connection}
use Rattle.dc_system_text.specs.declared.parts.LinkText.{LinkText}
use Rattle.dc_run_network.specs.Links.{connection_of}
use Rattle.dc_run_network.proofs.links.connections.Goals as goal

pub loop-link-preserved : goal.loop-link-preserved
loop-link-preserved c =
    let f : LinkText → Connection = connection_of c.args.concentrators.now c.args.members.now in
    let so_far = map f (take c.loop-link.link-index c.args.links.now) in
    c.in_ok-push.ensures.items ∙ ap (λ l. l ++ c.connection_of.result ∷ []) c.loop-link.invariant ∙ ap (λ x. so_far ++ x ∷ []) (c.connection_of.ensures ∙ ap f c.link-item.is)
    ∙ sym (map_more f c.args.links.now c.loop-link.link-index c.link-item.result c.loop-link-test.true)
