use Rattle.std.proofs.Common.{◌≡◌, drop}
use Rattle.std.specs.List.{list_all}
use Rattle.dc_rows_kept.specs.Tests.{router_asks_no_more}
use Rattle.dc_rows_kept.proofs.inputs.all_ask_no_more.Given as goal

-- what is left decides
abbrev pub invariant-loop-router : goal.invariant-loop-router
invariant-loop-router l = list_all (router_asks_no_more l.tick_us l.bus l.task) (drop l.router-index l.routers) ≡ list_all (router_asks_no_more l.tick_us l.bus l.task) l.routers
