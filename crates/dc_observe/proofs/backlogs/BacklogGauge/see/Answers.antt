use Rattle.std.proofs.Common.{◌≡◌, ◌<◌, ◌∙◌, max, [], ◌∷◌, ◌++◌, length, get_or, set, sym, ap, arith}
use Rattle.std.proofs.lemmas.List.{get_or_read}
use Rattle.std.specs.Vec.{with_item}
use Rattle.dc_event.specs.Buses.{backlog}
use Rattle.dc_oracle.specs.BusData.{BusData}
use Rattle.dc_observe.proofs.Backlogging.{observes-quiet, observes-word, backlog-of_log}
use Rattle.dc_observe.proofs.backlogs.BacklogGauge.see.Goals as goal

pub returns-in_default-clause-observes : goal.returns-in_default-clause-observes
returns-in_default-clause-observes c = λ run h holds l. observes-quiet c.args.tables.now c.args.self.now run c.args.event.now (sym c.word_bus.ensures ∙ c.in_default.is) h

pub returns-clause-observes : goal.returns-clause-observes
returns-clause-observes c = λ run h holds l.
    let there : c.in-Some.bus < length c.args.self.now.greatest.items = omega (arith, c.if-bus-len.false, c.len.ensures) in
    let in_tables : c.in-Some.bus < length c.args.tables.now.buses = omega (arith, there, c.requires.sized) in
    let read = get_or_read c.args.self.now.greatest.items c.in-Some.bus c.index.result.now there c.index.ensures 0 in
    let waits : c.backlog-backlog.result ≡ backlog c.args.tables.now c.in-Some.bus (run ++ c.args.event.now ∷ []) = c.backlog-backlog.ensures ∙ ap (λ (d : BusData). length d.words) c.log.ensures ∙ backlog-of_log c.args.tables.now c.args.replies.now (run ++ c.args.event.now ∷ []) c.in-Some.bus in_tables holds in
    let value : c.max.result ≡ max (get_or c.args.self.now.greatest.items c.in-Some.bus 0) (backlog c.args.tables.now c.in-Some.bus (run ++ c.args.event.now ∷ [])) = c.max.ensures ∙ ap (λ k. max k c.backlog-backlog.result) read ∙ ap (max (get_or c.args.self.now.greatest.items c.in-Some.bus 0)) waits in
    observes-word c.args.tables.now c.args.self.now (record { greatest = with_item c.args.self.now.greatest c.in-Some.bus c.max.result }) run c.args.event.now c.in-Some.bus (sym c.word_bus.ensures ∙ c.in-Some.is) there (ap (set c.args.self.now.greatest.items c.in-Some.bus) value) in_tables h
