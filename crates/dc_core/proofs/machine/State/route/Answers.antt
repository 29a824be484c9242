use Rattle.std.proofs.Common.{◌≡◌, ℕ, ◌<◌, [], ◌∷◌, ◌++◌, option_map, slice_get, set, ◌∙◌, false, Option, None, sym, ap, get_or, length, List, refl, subst, arith}
use Rattle.std.specs.Prelude.{nat_le}
use Rattle.std.proofs.lemmas.List.{get_or_read, length-set}
use Rattle.dc_event.specs.declared.event.Event.TheVariants.{Route}
use Rattle.dc_queue.specs.QueueData.{QueueData}
use Rattle.dc_route.specs.Routing.{queue_at, rest_of}
use Rattle.dc_core.specs.States.{BusData, bus_at, no_router}
use Rattle.dc_core.specs.declared.states.RouterState.{RouterState}
use Rattle.dc_core.proofs.Standing.{may-follow, changes_queue}
use Rattle.dc_core.proofs.Routing.{Hands, visit_from, route-spent, standing-route, words_routed, visit_reply-is, written, routed-length, numbers-step}
use Rattle.dc_core.proofs.Paces.{paces-other}
use Rattle.dc_event.specs.Latest.{latest}
use Rattle.dc_core.specs.Standing.{Standing, word_and_tick}
use Rattle.dc_core.proofs.machine.State.route.Goals as goal

pub returns-then-is_spent-clause-step : goal.returns-then-is_spent-clause-step
returns-then-is_spent-clause-step c = λ run h.
    let lt : c.args.router < length c.args.tables.now.routers = omega (arith, c.if-router-len.false, c.len.ensures, c.requires.sized.routers) in
    let there : c.args.router < length c.args.self.now.routers.items = omega (arith, c.requires.sized.routers) in
    let read = get_or_read c.args.self.now.routers.items c.args.router c.index.result.now there c.index.ensures no_router in
    let full = ap (λ (s : RouterState). nat_le s.window.room s.window.count) (sym read) ∙ sym c.is_spent.ensures ∙ c.if-is_spent.true in
    let no_room = route-spent c.args.tables.now c.args.router (get_or c.args.self.now.routers.items c.args.router no_router) run (h.0.turns c.args.router lt) full in
    ((λ m. no_room (m.keeps.routers_rest c.args.router lt)), (c.args.router, refl, lt, no_room))

pub returns-clause-sized : goal.returns-clause-sized
returns-clause-sized c =
    let lt : c.args.router < length c.args.tables.now.routers = omega (arith, c.if-router-len.false, c.len.ensures, c.requires.sized.routers) in
    let wrote : length c.step-bus.new.queues ≡ length c.args.self.now.queues.items =
    ap (λ (xs : List QueueData). length xs) c.step-bus.ensures.queues ∙ length-set c.deref_mut.result.now c.step-bus.result.0 (rest_of (queue_at c.deref_mut.result.now c.step-bus.result.0)) ∙ ap (λ (xs : List QueueData). length xs) c.deref_mut.ensures.value in
    record {
      queues = ap (λ (xs : List QueueData). length xs) (written _ c.args.self.now.queues.items c.step-bus.new.queues c.args.self.now.queues.ok.0 wrote) ∙ wrote ∙ c.requires.sized.queues;
      latches = c.requires.sized.latches;
      paces = c.requires.sized.paces;
      streams = ap (λ (xs : List (Option (ℕ × ℕ))). length xs) c.step-bus.ensures.latest ∙ routed-length c.args.tables.now c.step-bus.result.0 c.args.self.now.tick c.step-bus.result.1 c.args.self.now.latest ∙ c.requires.sized.streams;
      routers = length-set c.args.self.now.routers.items c.args.router c.step-bus.new.self ∙ c.requires.sized.routers;
      numbers = numbers-step c.args.tables.now c.args.self.now.routers.items c.args.router c.step-bus.new.self c.index_mut-actor.result.now c.requires.sized.routers lt c.requires.sized.numbers c.index_mut-actor.ensures.value c.step-bus.ensures.after;
      outputs = c.requires.sized.outputs;
      early = c.requires.sized.early;
    }

pub returns-clause-step : goal.returns-clause-step
returns-clause-step c = λ run h.
    let lt : c.args.router < length c.args.tables.now.routers = omega (arith, c.if-router-len.false, c.len.ensures, c.requires.sized.routers) in
    let bus_there : c.step-bus.result.0 < length c.args.self.now.queues.items = omega (arith, c.step-bus.ensures.there, c.requires.sized.queues) in
    let old_queue : QueueData = queue_at c.args.self.now.queues.items c.step-bus.result.0 in
    let bus : BusData = record { queue = rest_of (queue_at c.args.self.now.queues.items c.step-bus.result.0); latched = get_or c.args.self.now.latched.items c.step-bus.result.0 false } in
    let wrote : length c.step-bus.new.queues ≡ length c.args.self.now.queues.items =
    ap (λ (xs : List QueueData). length xs) c.step-bus.ensures.queues ∙ length-set c.deref_mut.result.now c.step-bus.result.0 (rest_of (queue_at c.deref_mut.result.now c.step-bus.result.0)) ∙ ap (λ (xs : List QueueData). length xs) c.deref_mut.ensures.value in
    let queues = written _ c.args.self.now.queues.items c.step-bus.new.queues c.args.self.now.queues.ok.0 wrote ∙ c.step-bus.ensures.queues
    ∙ ap (λ (xs : List QueueData). set xs c.step-bus.result.0 (rest_of (queue_at xs c.step-bus.result.0))) c.deref_mut.ensures.value in
    let hands : Hands (bus_at c.args.self.now.queues.items c.args.self.now.latched.items c.step-bus.result.0) c.step-bus.result.1 bus = record {
      word = c.step-bus.ensures.word ∙ ap (λ (xs : List QueueData). slice_get (queue_at xs c.step-bus.result.0).words 0) c.deref_mut.ensures.value;
      rest = refl;
      flag = refl;
    } in
    let changes = changes_queue c.args.self.now.queues.items c.args.self.now.latched.items c.step-bus.result.0 (rest_of (queue_at c.args.self.now.queues.items c.step-bus.result.0)) bus_there in
    let v = visit_from c.args.tables.now c.args.self.now.tick _ _ c.args.self.now.latest c.args.self.now.routers.items c.args.self.now.outputs.items run c.args.router c.step-bus.result.0 c.step-bus.result.1 bus c.step-bus.new.self c.index.result.now c.index_mut-actor.result.now
    lt c.step-bus.ensures.there c.requires.sized.routers (c.requires.sized.numbers c.args.router lt) h.0 c.index.ensures (sym c.is_spent.ensures ∙ c.if-is_spent.false) c.index_mut-actor.ensures.value c.step-bus.ensures.bus c.step-bus.ensures.after hands changes in
    let words : (s : ℕ) → s < length c.args.tables.now.streams → get_or c.step-bus.new.latest s None ≡ option_map word_and_tick (latest c.args.tables.now s (run ++ Route c.args.router ∷ [])) =
    λ s l. ap (λ (xs : List (Option (ℕ × ℕ))). get_or xs s None) c.step-bus.ensures.latest ∙ words_routed _ _ _ _ _ _ _ run _ _ _ _ _ v h.0 c.step-bus.result.1 refl c.requires.sized.streams s l in
    let s = standing-route _ _ _ _ _ _ _ run _ _ _ _ _ v h.0 c.step-bus.new.latest words in
    let P : List QueueData → Type 0 = λ xs. Standing c.args.tables.now c.args.self.now.tick (bus_at xs c.args.self.now.latched.items) c.step-bus.new.latest (set c.args.self.now.routers.items c.args.router c.step-bus.new.self) c.args.self.now.outputs.items (run ++ Route c.args.router ∷ []) in
    (may-follow _ _ run (Route c.args.router) lt refl h.0.clock c.requires.sized.early v.keeps, (subst P (sym queues) s, paces-other c.args.tables.now c.args.self.now.paces.items run (Route c.args.router) (λ s. refl) h.1), c.visit_reply.ensures ∙ visit_reply-is _ _ _ _ _ _ _ run _ _ _ _ _ v h.0 c.step-bus.result.1 refl)
