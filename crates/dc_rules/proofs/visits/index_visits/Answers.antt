use Rattle.std.proofs.Common.{◌≡◌, ◌+◌, length, take, ap, ◌∙◌, arith}
use Rattle.std.specs.List.{list_any}
use Rattle.std.specs.Str.{bytes_eq}
use Rattle.std.proofs.lemmas.List.{length-take}
use Rattle.indexmap.specs.IndexMap.{get}
use Rattle.dc_rules.specs.Visits.{with_router}
use Rattle.dc_rules.proofs.Doubled.{take_more}
use Rattle.dc_rules.proofs.Visited.{visitors_more}
use Rattle.dc_rules.proofs.visits.index_visits.Goals as goal

pub loop-number-preserved : goal.loop-number-preserved
loop-number-preserved c n =
    let routers = c.args.routers.now in
    let i = c.loop-number.number in
    let router = c.index-routers-number.result in
    let l : i ≡ length (take i routers) = omega (arith, length-take i routers, c.loop-number-test.true) in
    let found = get bytes_eq c.loop-number.visits.known n in
    visitors_more (take (i + 1) routers) (take i routers) router i n found (get bytes_eq c.add_all.new.self.known n)
    (take_more routers i router c.loop-number-test.true c.index-routers-number.is) l (c.loop-number.invariant n)
    (c.in_ok-add_all.ensures n ∙ ap (λ xs. with_router (list_any (bytes_eq n) xs) found i) c.deref.ensures.value)
