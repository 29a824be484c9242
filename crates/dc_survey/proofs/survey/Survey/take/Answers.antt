use Rattle.dc_bound.specs.Window.{ticks_of}
use Rattle.dc_gauge.specs.Times.{last_time}
use Rattle.dc_gauge.specs.Gauges.{IsStreamGauge, IsWireGauge}
use Rattle.dc_gauge.specs.declared.timing.StreamTiming.{StreamTiming}
use Rattle.dc_gauge.specs.declared.stream.StreamGauge.{StreamGauge}
use Rattle.dc_tables.specs.declared.rows.Bus.{Bus}
use Rattle.std.proofs.Common.{◌≤◌, ◌++◌, ◌∷◌, [], subst, get_or, ◌≡◌, ◌+◌, ◌-◌, ◌^◌, ◌<◌, ◌∙◌, min, length, sym, ap, refl, arith}
use Rattle.std.proofs.lemmas.List.{get_or_read}
use Rattle.dc_survey.specs.Surveys.{no_bus_words, no_timing}
use Rattle.dc_survey.specs.declared.bus_gauge.BusGauge.{BusGauge}
use Rattle.dc_gauge.specs.Steps.{no_stream_words}
use Rattle.dc_survey.proofs.Surveying.{even-word, undeclared-word, offered-word}
use Rattle.dc_survey.proofs.survey.Survey.take.Goals as goal

pub returns-then-not-is_odd-clause-surveys : goal.returns-then-not-is_odd-clause-surveys
returns-then-not-is_odd-clause-surveys c = λ capture h later few.
    let there : c.args.bus < length c.args.self.now.buses.items = omega (arith, c.requires.sized.buses, c.requires.there) in
    let read = get_or_read c.args.self.now.buses.items c.args.bus c.index_mut.result.now there c.index_mut.ensures.value no_bus_words in
    let also = get_or_read c.args.self.now.buses.items c.args.bus c.index.result.now there c.index.ensures no_bus_words in
    let count : c.saturating_add.result ≡ min (c.index_mut.result.now.parity + 1) (2 ^ 64 - 1) = c.saturating_add.ensures ∙ ap (λ (g : BusGauge). min (g.parity + 1) (2 ^ 64 - 1)) (also ∙ sym read) in
    even-word c.args.tables.now c.args.self.now _ capture c.args.time c.args.bus c.args.word h later few c.saturating_add-line.ensures refl (sym c.is_odd.ensures.test ∙ c.if-not-is_odd.true) refl c.requires.sized.buses c.requires.there c.index_mut.result.now read
    (rw count refl)

pub returns-in_default-clause-surveys : goal.returns-in_default-clause-surveys
returns-in_default-clause-surveys c = λ capture h later few.
    let there : c.args.bus < length c.args.self.now.buses.items = omega (arith, c.requires.sized.buses, c.requires.there) in
    let read = get_or_read c.args.self.now.buses.items c.args.bus c.index_mut-in_default.result.now there c.index_mut-in_default.ensures.value no_bus_words in
    let also = get_or_read c.args.self.now.buses.items c.args.bus c.index-in_default.result.now there c.index-in_default.ensures no_bus_words in
    let count : c.saturating_add-in_default.result ≡ min (c.index_mut-in_default.result.now.undeclared + 1) (2 ^ 64 - 1) = c.saturating_add-in_default.ensures ∙ ap (λ (g : BusGauge). min (g.undeclared + 1) (2 ^ 64 - 1)) (also ∙ sym read) in
    undeclared-word c.args.tables.now c.args.self.now _ capture c.args.time c.args.bus c.args.word h later few c.saturating_add-line.ensures refl (sym c.is_odd.ensures.test ∙ c.if-not-is_odd.false) (sym c.in_default.ensures.stream) refl c.requires.sized.buses c.requires.there c.index_mut-in_default.result.now read
    (rw count refl)

pub returns-clause-surveys : goal.returns-clause-surveys
returns-clause-surveys c = λ capture h later few.
    let there : c.args.bus < length c.args.self.now.buses.items = omega (arith, c.requires.sized.buses, c.requires.there) in
    let known : c.in-Some.stream < length c.args.self.now.streams.items = omega (arith, c.requires.sized.streams, c.in-Some.ensures.there) in
    let known_too : c.in-Some.stream < length c.args.self.now.timings.items = omega (arith, c.requires.sized.timings, c.in-Some.ensures.there) in
    let read = get_or_read c.args.self.now.buses.items c.args.bus c.index_mut-2.result.now there c.index_mut-2.ensures.value no_bus_words in
    let stream = get_or_read c.args.self.now.streams.items c.in-Some.stream c.index_mut-3.result.now known c.index_mut-3.ensures.value no_stream_words in
    let timing = get_or_read c.args.self.now.timings.items c.in-Some.stream c.index-timing.result.now known_too c.index-timing.ensures no_timing in
    offered-word c.args.tables.now c.args.self.now _ capture c.args.time c.args.bus c.args.word h later few c.saturating_add-line.ensures refl c.in-Some.stream (sym c.is_odd.ensures.test ∙ c.if-not-is_odd.false) (sym c.in-Some.ensures.stream) c.in-Some.ensures.there c.requires.sized c.requires.there
    c.index_mut-2.result.now read c.take.new.self
    (λ came. let P : Bus → Type 0 = λ (r : Bus). IsWireGauge r.spacing came c.index_mut-2.result.now.wire → last_time (ticks_of came) ≤ c.args.time → length came < 2 ^ 64 - 1 → IsWireGauge r.spacing (came ++ (c.args.time, c.saturating_add-line.result) ∷ []) c.take.new.self in subst P c.bus.ensures (c.take.ensures came))
    refl c.take-2.new.self
    (λ came. let P : StreamTiming → Type 0 = λ (i : StreamTiming). IsStreamGauge i came c.index_mut-3.result.now → last_time (ticks_of came) ≤ c.args.time → length came < 2 ^ 64 - 1 → IsStreamGauge i (came ++ (c.args.time, c.saturating_add-line.result) ∷ []) c.take-2.new.self in
    let Q : StreamGauge → Type 0 = λ (g : StreamGauge). IsStreamGauge (get_or c.args.self.now.timings.items c.in-Some.stream no_timing) came g → last_time (ticks_of came) ≤ c.args.time → length came < 2 ^ 64 - 1 → IsStreamGauge (get_or c.args.self.now.timings.items c.in-Some.stream no_timing) (came ++ (c.args.time, c.saturating_add-line.result) ∷ []) c.take-2.new.self in
    subst Q stream (subst P timing (c.take-2.ensures came)))
    refl
