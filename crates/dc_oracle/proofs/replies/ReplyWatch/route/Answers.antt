use Rattle.std.proofs.Common.{◌≡◌, ◌<◌, ◌≤◌, ◌∙◌, ◌+◌, ◌%◌, [], ◌∷◌, ◌++◌, length, get_or, set, Some, rules, List, ap, refl, subst, arith}
use Rattle.std.proofs.lemmas.List.{get_or_read}
use Rattle.dc_bound.specs.Moves.{Move}
use Rattle.dc_bound.specs.Moves.Move.{Visit}
use Rattle.std.specs.Vec.{with_item}
use Rattle.dc_tables.specs.TableRows.{visited, router_row}
use Rattle.dc_event.specs.Buses.{room}
use Rattle.dc_event.specs.declared.event.Event.TheVariants.{Route}
use Rattle.dc_event.specs.declared.event.Reply.TheVariants.{Took}
use Rattle.dc_oracle.specs.BusData.{BusData}
use Rattle.dc_oracle.specs.BusLog.{IsLog, no_log}
use Rattle.dc_oracle.specs.declared.replies.ReplyWatch.{ReplyWatch}
use Rattle.dc_oracle.specs.Replies.{Replies}
use Rattle.dc_oracle.proofs.Replying.{Steps, replies-empty, replies-took}
use Rattle.dc_oracle.proofs.replies.ReplyWatch.route.Goals as goal

pub returns-in_default-clause-reply : goal.returns-in_default-clause-reply
returns-in_default-clause-reply c = λ run h l.
    let there : c.args.router < length c.args.self.now.cursors.items = omega (arith, c.if-router-len.false, c.len.ensures) in
    let bus_there : c.visit-bus.result.0 < length c.args.self.now.buses.items = omega (arith, c.visit-bus.ensures.there, c.requires.sized.buses) in
    let cursor = get_or_read c.args.self.now.cursors.items c.args.router c.index-cursor.result.now there c.index-cursor.ensures 0 in
    let read = get_or_read c.args.self.now.buses.items c.visit-bus.result.0 c.index_mut-2.result.now bus_there c.index_mut-2.ensures.value no_log in
    let P : BusData → Type 0 = λ d. (ms : List Move) → IsLog (room c.args.tables.now c.visit-bus.result.0) d ms → IsLog (room c.args.tables.now c.visit-bus.result.0) c.take-taken.new.self (ms ++ Visit ∷ []) in
    let Q : BusData → Type 0 = λ d. d.words ≡ [] in
    let v : Steps c.args.tables.now c.args.self.now _ c.args.router c.visit-bus.result.0 c.take-taken.new.self = record {
      router_there = there;
      bus_there = bus_there;
      in_tables = (l, c.visit-bus.ensures.there);
      bus_is = c.visit-bus.ensures.bus ∙ ap (λ n. visited c.args.tables.now c.args.router n) cursor;
      next = c.visit-bus.result.1;
      next_is = c.visit-bus.ensures.next ∙ ap (λ n. (n % length (router_row c.args.tables.now c.args.router).visits + 1) % length (router_row c.args.tables.now c.args.router).visits) cursor;
      same_tick = refl;
      buses = refl;
      cursors = refl;
      sents = refl;
      visit = subst P read (λ ms g. c.take-taken.ensures.visit (room c.args.tables.now c.visit-bus.result.0) ms g);
    } in
    replies-empty c.args.tables.now c.args.self.now _ run c.args.router c.visit-bus.result.0 c.take-taken.new.self v h (subst Q read c.in_default.ensures.item) refl

pub returns-clause-reply : goal.returns-clause-reply
returns-clause-reply c = λ run h l.
    let there : c.args.router < length c.args.self.now.cursors.items = omega (arith, c.if-router-len.false, c.len.ensures) in
    let bus_there : c.visit-bus.result.0 < length c.args.self.now.buses.items = omega (arith, c.visit-bus.ensures.there, c.requires.sized.buses) in
    let cursor = get_or_read c.args.self.now.cursors.items c.args.router c.index-cursor.result.now there c.index-cursor.ensures 0 in
    let read = get_or_read c.args.self.now.buses.items c.visit-bus.result.0 c.index_mut-2.result.now bus_there c.index_mut-2.ensures.value no_log in
    let P : BusData → Type 0 = λ d. (ms : List Move) → IsLog (room c.args.tables.now c.visit-bus.result.0) d ms → IsLog (room c.args.tables.now c.visit-bus.result.0) c.take-taken.new.self (ms ++ Visit ∷ []) in
    let Q : BusData → Type 0 = λ d. 1 ≤ length d.words in
    let new : ReplyWatch =
    record { tick = c.args.self.now.tick; buses = with_item c.args.self.now.buses c.visit-bus.result.0 c.take-taken.new.self; latest = c.note.new.latest; cursors = with_item c.args.self.now.cursors c.args.router c.visit-bus.result.1; sent = c.args.self.now.sent } in
    let v : Steps c.args.tables.now c.args.self.now new c.args.router c.visit-bus.result.0 c.take-taken.new.self = record {
      router_there = there;
      bus_there = bus_there;
      in_tables = (l, c.visit-bus.ensures.there);
      bus_is = c.visit-bus.ensures.bus ∙ ap (λ n. visited c.args.tables.now c.args.router n) cursor;
      next = c.visit-bus.result.1;
      next_is = c.visit-bus.ensures.next ∙ ap (λ n. (n % length (router_row c.args.tables.now c.args.router).visits + 1) % length (router_row c.args.tables.now c.args.router).visits) cursor;
      same_tick = refl;
      buses = refl;
      cursors = refl;
      sents = refl;
      visit = subst P read (λ ms g. c.take-taken.ensures.visit (room c.args.tables.now c.visit-bus.result.0) ms g);
    } in
    let latests : c.note.new.latest.items ≡ set c.args.self.now.latest.items c.in-Some.stream (Some ((c.in-Some.stream, c.in-Some.word), c.args.self.now.tick)) = search rules in
    let reported : Replies c.args.tables.now new run (Route c.args.router) (Took c.in-Some.word c.visit-bus.result.0) =
    replies-took c.args.tables.now c.args.self.now new run c.args.router c.visit-bus.result.0 c.take-taken.new.self v h (c.in-Some.stream, c.in-Some.word) (subst Q read c.in-Some.ensures.item.0)
    (c.in-Some.ensures.item.1 ∙ ap (λ (d : BusData). (get_or d.words 0 (0, (0, 0))).1) read) c.requires.sized.streams latests in
    search rules
