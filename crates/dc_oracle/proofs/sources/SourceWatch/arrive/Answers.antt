use Rattle.std.proofs.Common.{◌≡◌, true, ◌<◌, ◌∙◌, length, sym, ap, refl, arith}
use Rattle.std.proofs.lemmas.List.{get_or_read}
use Rattle.dc_tables.specs.TableRows.{bus_row, stream_row, is_policed}
use Rattle.dc_tables.specs.declared.rows.Bus.{Bus}
use Rattle.dc_tables.specs.declared.rows.Stream.{Stream}
use Rattle.dc_oracle.specs.Pace.{moved, no_pace}
use Rattle.dc_oracle.specs.WireLoad.{can_carry, loaded, no_load}
use Rattle.dc_oracle.proofs.Sourcing.{IsArrival, quiet_even, quiet_unknown, quiet_undeclared, quiet_policed, watches-quiet, stream-breaks, rested-test, seen-arrival}
use Rattle.dc_oracle.proofs.sources.SourceWatch.arrive.Goals as goal
use Rattle.dc_oracle.proofs.sources.SourceWatch.arrive.Goals.{then-bus-len-via-then-bus-len, then-bus-len-via-else-bus-len+then-not-is_odd}

pub returns-then-bus-len-clause-seen : goal.returns-then-bus-len-clause-seen
returns-then-bus-len-clause-seen c = λ run h. elim c.then-bus-len.branch [
  | then-bus-len-via-then-bus-len w ↦ watches-quiet _ c.valid.ensures run _ (quiet_unknown _ run c.args.bus c.args.word (omega (arith, w.if-bus-len.true, c.len.ensures, c.requires.sized.wires))) _ refl h
  | then-bus-len-via-else-bus-len+then-not-is_odd w ↦ watches-quiet _ c.valid.ensures run _ (quiet_even _ run c.args.bus c.args.word (sym w.is_odd.ensures.test ∙ w.if-not-is_odd.true)) _ refl h
]

pub returns-in_default-clause-seen : goal.returns-in_default-clause-seen
returns-in_default-clause-seen c = λ run h. watches-quiet _ c.valid.ensures run _ (quiet_undeclared _ run c.args.bus c.args.word (sym c.in_default.ensures.stream)) _ refl h

pub returns-then-bus-clause-seen : goal.returns-then-bus-clause-seen
returns-then-bus-clause-seen c = λ run h.
    let policed : is_policed c.args.tables.now c.args.bus ≡ true = ap (λ (r : Bus). r.police) (sym c.bus.ensures) ∙ c.if-bus.true in
    watches-quiet _ c.valid.ensures run _ (quiet_policed _ run c.args.bus c.args.word policed) _ refl h

pub returns-then-refuses-clause-seen : goal.returns-then-refuses-clause-seen
returns-then-refuses-clause-seen c = λ run h.
    let is : IsArrival c.args.tables.now c.args.bus c.args.word c.in-Some.stream = record {
      bus_there = omega (arith, c.if-bus-len.false, c.len.ensures, c.requires.sized.wires);
      odd = sym c.is_odd.ensures.test ∙ c.if-not-is_odd.false;
      declared = sym c.in-Some.ensures.stream;
      free = ap (λ (r : Bus). r.police) (sym c.bus.ensures) ∙ c.if-bus.false;
    } in
    let there : c.in-Some.stream < length c.args.self.now.streams.items = omega (arith, c.in-Some.ensures.there, c.requires.sized.streams) in
    let read = get_or_read c.args.self.now.streams.items c.in-Some.stream c.index_mut.result.now there c.index_mut.ensures.value no_pace in
    let test = rested-test c.args.tables.now c.valid.ensures run c.args.bus c.args.word c.in-Some.stream is c.args.self.now c.refuses.result c.index_mut.result.now c.stream-row.result.now h c.stream-row.ensures read c.refuses.ensures.result in
    stream-breaks c.args.tables.now c.valid.ensures run c.args.bus c.args.word c.in-Some.stream is h.kept (sym test ∙ c.if-refuses.true)

pub returns-clause-seen : goal.returns-clause-seen
returns-clause-seen c = λ run h.
    let is : IsArrival c.args.tables.now c.args.bus c.args.word c.in-Some.stream = record {
      bus_there = omega (arith, c.if-bus-len.false, c.len.ensures, c.requires.sized.wires);
      odd = sym c.is_odd.ensures.test ∙ c.if-not-is_odd.false;
      declared = sym c.in-Some.ensures.stream;
      free = ap (λ (r : Bus). r.police) (sym c.bus.ensures) ∙ c.if-bus.false;
    } in
    let there : c.in-Some.stream < length c.args.self.now.streams.items = omega (arith, c.in-Some.ensures.there, c.requires.sized.streams) in
    let wire_there : c.args.bus < length c.args.self.now.wires.items = omega (arith, c.if-bus-len.false, c.len.ensures) in
    let read = get_or_read c.args.self.now.streams.items c.in-Some.stream c.index_mut.result.now there c.index_mut.ensures.value no_pace in
    let wire = get_or_read c.args.self.now.wires.items c.args.bus c.index_mut-2.result.now wire_there c.index_mut-2.ensures.value no_load in
    let test = rested-test c.args.tables.now c.valid.ensures run c.args.bus c.args.word c.in-Some.stream is c.args.self.now c.refuses.result c.index_mut.result.now c.stream-row.result.now h c.stream-row.ensures read c.refuses.ensures.result in
    seen-arrival c.args.tables.now c.valid.ensures run c.args.bus c.args.word c.in-Some.stream is c.args.self.now _ c.refuses.new.self c.carry.new.self c.carry.result h c.requires.sized.streams c.requires.sized.wires refl refl refl
    (c.refuses.ensures.after c.if-refuses.false ∙ ap (λ (r : Stream). moved r.minimum c.args.self.now.tick c.index_mut.result.now) c.stream-row.ensures ∙ ap (λ p. moved (stream_row c.args.tables.now c.in-Some.stream).minimum c.args.self.now.tick p) read)
    (c.carry.ensures.result ∙ ap (λ n. can_carry n c.args.self.now.tick c.index_mut-2.result.now) c.tick_us.ensures ∙ ap (λ x. can_carry c.args.tables.now.tick_us c.args.self.now.tick x) wire)
    (λ yes'. c.carry.ensures.after yes'
    ∙ ap (λ n. loaded n c.bus-2.result.now.spacing c.args.self.now.tick c.index_mut-2.result.now) c.tick_us.ensures
    ∙ ap (λ (r : Bus). loaded c.args.tables.now.tick_us r.spacing c.args.self.now.tick c.index_mut-2.result.now) c.bus-2.ensures
    ∙ ap (λ x. loaded c.args.tables.now.tick_us (bus_row c.args.tables.now c.args.bus).spacing c.args.self.now.tick x) wire)
    (sym test ∙ c.if-refuses.false)
