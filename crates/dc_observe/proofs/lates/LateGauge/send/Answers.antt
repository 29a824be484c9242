use Rattle.std.proofs.Common.{◌≡◌, ◌<◌, ◌-◌, ◌^◌, ◌∙◌, min, max, length, get_or, set, ap, arith}
use Rattle.std.proofs.lemmas.List.{get_or_read}
use Rattle.std.specs.Vec.{with_item}
use Rattle.dc_event.specs.Time.{tick_after}
use Rattle.dc_event.specs.Outputs.{due_tick, sent}
use Rattle.dc_observe.proofs.Leaving.{late-idle, late-left}
use Rattle.dc_observe.proofs.lates.LateGauge.send.Goals as goal

pub returns-then-due-tick-clause-late : goal.returns-then-due-tick-clause-late
returns-then-due-tick-clause-late c = λ run h holds l.
    let due : c.next_due-due.result ≡ min (due_tick c.args.tables.now c.args.output (sent c.args.tables.now c.args.output run)) (2 ^ 64 - 1) =
    c.next_due-due.ensures ∙ ap (λ n. min (due_tick c.args.tables.now c.args.output n) (2 ^ 64 - 1)) (holds.counts c.args.output l) in
    late-idle c.args.tables.now c.valid.ensures run c.args.output l c.args.self.now (omega (arith, due, c.if-due-tick.true, c.tick-tick.ensures, holds.clock)) h

pub returns-clause-late : goal.returns-clause-late
returns-clause-late c = λ run h holds l.
    let there : c.args.output < length c.args.self.now.latest.items = omega (arith, c.if-output-len.false, c.len.ensures) in
    let read = get_or_read c.args.self.now.latest.items c.args.output c.index.result.now there c.index.ensures 0 in
    let clock : c.tick-tick.result ≡ tick_after run = c.tick-tick.ensures ∙ holds.clock in
    let bounded : c.next_due-due.result ≡ min (due_tick c.args.tables.now c.args.output (sent c.args.tables.now c.args.output run)) (2 ^ 64 - 1) =
    c.next_due-due.ensures ∙ ap (λ n. min (due_tick c.args.tables.now c.args.output n) (2 ^ 64 - 1)) (holds.counts c.args.output l) in
    let due : c.next_due-due.result ≡ due_tick c.args.tables.now c.args.output (sent c.args.tables.now c.args.output run) = omega (arith, bounded, c.if-due-tick.false, c.tick-tick.ensures, c.requires.early) in
    let value : c.max.result ≡ max (get_or c.args.self.now.latest.items c.args.output 0) (tick_after run - c.next_due-due.result) = omega (arith, c.max.ensures, read, clock) in
    late-left c.args.tables.now c.valid.ensures run c.args.output l c.args.self.now (record { latest = with_item c.args.self.now.latest c.args.output c.max.result })
    c.next_due-due.result due (omega (arith, c.if-due-tick.false, clock)) there (ap (set c.args.self.now.latest.items c.args.output) value) h
