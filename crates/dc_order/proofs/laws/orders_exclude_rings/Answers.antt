use Rattle.dc_order.specs.lemmas.Reaching.{orders-exclude_rings}
use Rattle.dc_order.proofs.laws.orders_exclude_rings.Goals as goal

pub returns : goal.returns
returns c = orders-exclude_rings
