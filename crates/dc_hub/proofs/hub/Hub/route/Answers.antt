use Rattle.std.proofs.Common.{sym}
use Rattle.dc_event.specs.declared.event.Event.TheVariants.{Route}
use Rattle.dc_hub.proofs.Lasts.{by_actor}
use Rattle.dc_hub.proofs.hub.Hub.route.Goals as goal

pub returns-clause-err : goal.returns-clause-err
returns-clause-err g c = by_actor g.L.Charter.certified g.L.Charter.limit c.seat.inside.seat c.args.seat.now (Route c.seat.inside.router) c.act.result c.seat.view_is (sym c.seat.invariant) c.act.ensures.err
