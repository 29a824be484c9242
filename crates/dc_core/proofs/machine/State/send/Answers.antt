use Rattle.std.proofs.Common.{◌≡◌, ℕ, ◌<◌, ◌∙◌, Bool, cond, sym, ap, get_or, length, List, refl, arith}
use Rattle.std.specs.Prelude.{nat_le}
use Rattle.std.proofs.lemmas.List.{get_or_read}
use Rattle.std.proofs.lemmas.Bool.{lt-ltb, le-ltb}
use Rattle.dc_event.specs.declared.event.Event.TheVariants.{Send}
use Rattle.dc_tables.specs.declared.rows.Output.{Output}
use Rattle.dc_tables.specs.declared.rows.OutputLabel.{OutputLabel}
use Rattle.dc_event.specs.declared.event.Reply.TheVariants.{Sent}
use Rattle.dc_tables.specs.TableRows.{output_row}
use Rattle.dc_event.specs.Outputs.{entry_label}
use Rattle.dc_route.specs.Choosing.{chosen_now}
use Rattle.dc_core.specs.States.{bus_at, no_output}
use Rattle.dc_transmit.specs.Schedule.{ScheduleData, label_at, due_count}
use Rattle.dc_core.specs.Lacking.{too_soon}
use Rattle.dc_core.specs.declared.states.OutputState.{OutputState}
use Rattle.dc_core.proofs.Standing.{may-follow}
use Rattle.dc_core.proofs.Paces.{paces-other}
use Rattle.dc_core.proofs.Sending.{send-soon, send-spent, standing-send, idle_reply, sent_reply, chosen_is}
use Rattle.dc_core.proofs.Ticking.{send_from, due-same, label_there}
use Rattle.dc_core.proofs.machine.State.send.Goals as goal

pub returns-then-is_soon-clause-step : goal.returns-then-is_soon-clause-step
returns-then-is_soon-clause-step c = λ run h.
    let t = c.args.tables.now in
    let lt : c.args.output < length c.args.tables.now.outputs = omega (arith, c.if-output-len.false, c.len.ensures, c.requires.sized.outputs) in
    let there : c.args.output < length c.args.self.now.outputs.items = omega (arith, c.requires.sized.outputs) in
    let read = get_or_read c.args.self.now.outputs.items c.args.output c.index.result.now there c.index.ensures no_output in
    let gap = ap (λ (r : Output). too_soon r.gap c.args.self.now.tick c.index.result.now.last) c.output.ensures in
    let full = ap (λ (s : OutputState). too_soon (output_row c.args.tables.now c.args.output).gap c.args.self.now.tick s.last) (sym read) ∙ sym gap ∙ sym c.is_soon.ensures ∙ c.if-is_soon.true in
    let no_room = send-soon c.args.tables.now c.args.output c.args.self.now.tick (get_or c.args.self.now.outputs.items c.args.output no_output) run (c.valid.ensures.gaps_some c.args.output lt) h.0.clock (h.0.sendings c.args.output lt) full in
    ((λ m. no_room (m.keeps.outputs_rest c.args.output lt)), (c.args.output, refl, lt, no_room))

pub returns-then-is_spent-clause-step : goal.returns-then-is_spent-clause-step
returns-then-is_spent-clause-step c = λ run h.
    let lt : c.args.output < length c.args.tables.now.outputs = omega (arith, c.if-output-len.false, c.len.ensures, c.requires.sized.outputs) in
    let there : c.args.output < length c.args.self.now.outputs.items = omega (arith, c.requires.sized.outputs) in
    let read = get_or_read c.args.self.now.outputs.items c.args.output c.index-2.result.now there c.index-2.ensures no_output in
    let full = ap (λ (s : OutputState). nat_le s.window.room s.window.count) (sym read) ∙ sym c.is_spent.ensures ∙ c.if-is_spent.true in
    let no_room = send-spent c.args.tables.now c.args.output c.args.self.now.tick (get_or c.args.self.now.outputs.items c.args.output no_output) run (c.valid.ensures.gaps_some c.args.output lt) h.0.clock (h.0.sendings c.args.output lt) full in
    ((λ m. no_room (m.keeps.outputs_rest c.args.output lt)), (c.args.output, refl, lt, no_room))

pub returns-then-sent-due-clause-step : goal.returns-then-sent-due-clause-step
returns-then-sent-due-clause-step c = λ run h.
    let lt : c.args.output < length c.args.tables.now.outputs = omega (arith, c.if-output-len.false, c.len.ensures, c.requires.sized.outputs) in
    let there : c.args.output < length c.args.self.now.outputs.items = omega (arith, c.requires.sized.outputs) in
    let free = ap (λ (r : Output). too_soon r.gap c.args.self.now.tick c.index.result.now.last) (sym c.output.ensures) ∙ sym c.is_soon.ensures ∙ c.if-is_soon.false in
    let due = c.due_by-due.ensures.due ∙ ap (λ (s : ScheduleData). due_count s c.args.self.now.tick) c.of-schedule.ensures ∙ due-same c.args.tables.now c.args.output c.args.self.now.tick in
    let read = ap (λ (s : OutputState). s.sent) (get_or_read c.args.self.now.outputs.items c.args.output c.index-3.result.now there c.index-3.ensures no_output) in
    let v = send_from c.args.tables.now c.args.self.now.tick _ _ _ c.args.self.now.outputs.items run c.valid.ensures h.0 c.args.output 0 c.send.new.self c.index.result.now c.index_mut.result.now lt c.requires.sized.outputs
    c.index.ensures free c.index_mut.ensures.value c.send.ensures (sym (ap (λ b. cond {A = ℕ} b 1 0) (le-ltb _ _ (omega (arith, c.if-sent-due.true, due, read))))) in
    (may-follow _ _ run (Send c.args.output) lt refl h.0.clock c.requires.sized.early v.keeps, (standing-send _ _ _ _ _ _ run _ _ _ v h.0, paces-other c.args.tables.now c.args.self.now.paces.items run (Send c.args.output) (λ s. refl) h.1), idle_reply _ _ _ _ _ _ run _ _ _ v h.0 (omega (arith, c.if-sent-due.true, due, read)))

pub returns-clause-step : goal.returns-clause-step
returns-clause-step c = λ run h.
    let lt : c.args.output < length c.args.tables.now.outputs = omega (arith, c.if-output-len.false, c.len.ensures, c.requires.sized.outputs) in
    let there : c.args.output < length c.args.self.now.outputs.items = omega (arith, c.requires.sized.outputs) in
    let free = ap (λ (r : Output). too_soon r.gap c.args.self.now.tick c.index.result.now.last) (sym c.output.ensures) ∙ sym c.is_soon.ensures ∙ c.if-is_soon.false in
    let due = c.due_by-due.ensures.due ∙ ap (λ (s : ScheduleData). due_count s c.args.self.now.tick) c.of-schedule.ensures ∙ due-same c.args.tables.now c.args.output c.args.self.now.tick in
    let read = ap (λ (s : OutputState). s.sent) (get_or_read c.args.self.now.outputs.items c.args.output c.index-3.result.now there c.index-3.ensures no_output) in
    let v = send_from c.args.tables.now c.args.self.now.tick _ _ _ c.args.self.now.outputs.items run c.valid.ensures h.0 c.args.output 1 c.send-2.new.self c.index.result.now c.index_mut-2.result.now lt c.requires.sized.outputs
    c.index.ensures free c.index_mut-2.ensures.value c.send-2.ensures (sym (ap (λ b. cond {A = ℕ} b 1 0) (lt-ltb _ _ (omega (arith, c.if-sent-due.false, due, read))))) in
    let s = standing-send _ _ _ _ _ _ run _ _ _ v h.0 in
    let n = (get_or c.args.self.now.outputs.items c.args.output no_output).sent in
    let label : c.next-label.result.0 ≡ entry_label c.args.tables.now c.args.output (get_or c.args.self.now.outputs.items c.args.output no_output).sent =
    c.next-label.ensures.label ∙ ap (λ (s : ScheduleData). label_at s c.index-3.result.now.sent) c.of-schedule.ensures ∙ ap (entry_label c.args.tables.now c.args.output) read in
    let in_tables = label_there c.args.tables.now c.args.output (get_or c.args.self.now.outputs.items c.args.output no_output).sent c.next-label.result.0 c.valid.ensures lt label in
    let word = c.choose-word.ensures ∙ ap (λ (fs : List Bool). chosen_now c.args.tables.now fs c.args.self.now.latest c.args.self.now.tick c.next-label.result.0) c.deref.ensures.value
    ∙ chosen_is c.args.tables.now c.args.self.now.tick (bus_at c.args.self.now.queues.items c.args.self.now.latched.items) c.args.self.now.latched.items c.args.self.now.latest _ _ _ c.next-label.result.0 c.valid.ensures in_tables (λ b. refl) s in
    let reply = sent_reply _ _ _ _ _ _ run _ _ _ v h.0 (omega (arith, c.if-sent-due.false, due, read)) c.next-label.result.0 c.choose-word.result label word in
    (may-follow _ _ run (Send c.args.output) lt refl h.0.clock c.requires.sized.early v.keeps, (s, paces-other c.args.tables.now c.args.self.now.paces.items run (Send c.args.output) (λ s. refl) h.1), ap (λ (r : OutputLabel). Sent r.label c.choose-word.result) c.label.ensures ∙ reply)
