use Rattle.std.proofs.Common.{◌<◌, ◌∙◌, [], ◌∷◌, ◌++◌, length, sym, ap, refl, arith}
use Rattle.std.proofs.lemmas.List.{get_or_read}
use Rattle.std.proofs.lemmas.Bool.{leb-true, leb-false}
use Rattle.dc_tables.specs.TableRows.{router_row}
use Rattle.dc_tables.specs.declared.rows.Router.{Router}
use Rattle.dc_event.specs.Time.{route_of}
use Rattle.circular_buffer.specs.Buffer.{keep_last}
use Rattle.dc_oracle.specs.RecentData.{RecentData}
use Rattle.dc_oracle.specs.Budgets.{no_steps, router_room, output_room}
use Rattle.dc_oracle.specs.History.{held}
use Rattle.dc_oracle.proofs.Budgeting.{watches-unknown_router, route-breaks, tested, watches-route}
use Rattle.dc_oracle.proofs.budgets.BudgetWatch.route.Goals as goal

pub returns-then-router-len-clause-seen : goal.returns-then-router-len-clause-seen
returns-then-router-len-clause-seen c = λ run h. watches-unknown_router _ _ run c.args.router (omega (arith, c.if-router-len.true, c.len.ensures, c.requires.sized.routers)) h

pub returns-then-holds-clause-seen : goal.returns-then-holds-clause-seen
returns-then-holds-clause-seen c = λ run h.
    let lt : c.args.router < length c.args.tables.now.routers = omega (arith, c.if-router-len.false, c.len.ensures, c.requires.sized.routers) in
    let there : c.args.router < length c.args.self.now.routers.items = omega (arith, c.requires.sized.routers) in
    let read = get_or_read c.args.self.now.routers.items c.args.router c.index.result.now there c.index.ensures no_steps in
    let test = tested (route_of c.args.router) run (router_row c.args.tables.now c.args.router).most 1 c.args.self.now.tick (router_room c.args.tables.now c.args.router) c.index.result.now c.holds.result ((c.valid.ensures.routers_step c.args.router lt).1) (omega arith) h.clock (read ∙ h.routes c.args.router lt)
    (c.holds.ensures ∙ ap (λ (r : Router). held r.most 1 c.args.self.now.tick c.index.result.now.ticks) c.router.ensures) in
    route-breaks c.args.tables.now run c.args.router lt (leb-true _ _ (sym test ∙ c.if-holds.true))

pub returns-clause-seen : goal.returns-clause-seen
returns-clause-seen c = λ run h.
    let lt : c.args.router < length c.args.tables.now.routers = omega (arith, c.if-router-len.false, c.len.ensures, c.requires.sized.routers) in
    let there : c.args.router < length c.args.self.now.routers.items = omega (arith, c.requires.sized.routers) in
    let read = get_or_read c.args.self.now.routers.items c.args.router c.index.result.now there c.index.ensures no_steps in
    let written = get_or_read c.args.self.now.routers.items c.args.router c.index_mut.result.now there c.index_mut.ensures.value no_steps in
    let test = tested (route_of c.args.router) run (router_row c.args.tables.now c.args.router).most 1 c.args.self.now.tick (router_room c.args.tables.now c.args.router) c.index.result.now c.holds.result ((c.valid.ensures.routers_step c.args.router lt).1) (omega arith) h.clock (read ∙ h.routes c.args.router lt)
    (c.holds.ensures ∙ ap (λ (r : Router). held r.most 1 c.args.self.now.tick c.index.result.now.ticks) c.router.ensures) in
    watches-route c.args.tables.now c.args.self.now _ run c.args.router c.add.new.self lt c.requires.sized.routers refl refl refl
    (c.add.ensures ∙ ap (λ (z : RecentData). record { ticks = keep_last z.room (z.ticks ++ c.args.self.now.tick ∷ []); room = z.room }) written) (leb-false _ _ (sym test ∙ c.if-holds.false)) h
