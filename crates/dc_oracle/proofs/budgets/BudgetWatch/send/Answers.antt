use Rattle.std.proofs.Common.{◌<◌, ◌∙◌, [], ◌∷◌, ◌++◌, length, sym, ap, refl, arith}
use Rattle.std.proofs.lemmas.List.{get_or_read}
use Rattle.std.proofs.lemmas.Bool.{leb-true, leb-false}
use Rattle.dc_tables.specs.TableRows.{output_row}
use Rattle.dc_tables.specs.declared.rows.Output.{Output}
use Rattle.dc_event.specs.Time.{send_of}
use Rattle.circular_buffer.specs.Buffer.{keep_last}
use Rattle.dc_oracle.specs.RecentData.{RecentData}
use Rattle.dc_oracle.specs.Budgets.{no_steps, router_room, output_room}
use Rattle.dc_oracle.specs.History.{held}
use Rattle.dc_oracle.proofs.Budgeting.{watches-unknown_output, send-breaks, tested, watches-send}
use Rattle.dc_oracle.proofs.budgets.BudgetWatch.send.Goals as goal

pub returns-then-output-len-clause-seen : goal.returns-then-output-len-clause-seen
returns-then-output-len-clause-seen c = λ run h. watches-unknown_output _ _ run c.args.output (omega (arith, c.if-output-len.true, c.len.ensures, c.requires.sized.outputs)) h

pub returns-then-holds-clause-seen : goal.returns-then-holds-clause-seen
returns-then-holds-clause-seen c = λ run h.
    let lt : c.args.output < length c.args.tables.now.outputs = omega (arith, c.if-output-len.false, c.len.ensures, c.requires.sized.outputs) in
    let there : c.args.output < length c.args.self.now.outputs.items = omega (arith, c.requires.sized.outputs) in
    let read = get_or_read c.args.self.now.outputs.items c.args.output c.index.result.now there c.index.ensures no_steps in
    let test = tested (send_of c.args.output) run 1 (output_row c.args.tables.now c.args.output).gap c.args.self.now.tick (output_room c.args.tables.now c.args.output) c.index.result.now c.holds.result (omega arith) (c.valid.ensures.outputs_step c.args.output lt) h.clock (read ∙ h.sends c.args.output lt)
    (c.holds.ensures ∙ ap (λ (r : Output). held 1 r.gap c.args.self.now.tick c.index.result.now.ticks) c.output.ensures) in
    send-breaks c.args.tables.now c.valid.ensures run c.args.output lt (leb-true _ _ (sym test ∙ c.if-holds.true))

pub returns-clause-seen : goal.returns-clause-seen
returns-clause-seen c = λ run h.
    let lt : c.args.output < length c.args.tables.now.outputs = omega (arith, c.if-output-len.false, c.len.ensures, c.requires.sized.outputs) in
    let there : c.args.output < length c.args.self.now.outputs.items = omega (arith, c.requires.sized.outputs) in
    let read = get_or_read c.args.self.now.outputs.items c.args.output c.index.result.now there c.index.ensures no_steps in
    let written = get_or_read c.args.self.now.outputs.items c.args.output c.index_mut.result.now there c.index_mut.ensures.value no_steps in
    let test = tested (send_of c.args.output) run 1 (output_row c.args.tables.now c.args.output).gap c.args.self.now.tick (output_room c.args.tables.now c.args.output) c.index.result.now c.holds.result (omega arith) (c.valid.ensures.outputs_step c.args.output lt) h.clock (read ∙ h.sends c.args.output lt)
    (c.holds.ensures ∙ ap (λ (r : Output). held 1 r.gap c.args.self.now.tick c.index.result.now.ticks) c.output.ensures) in
    watches-send c.args.tables.now c.valid.ensures c.args.self.now _ run c.args.output c.add.new.self lt c.requires.sized.outputs refl refl refl
    (c.add.ensures ∙ ap (λ (z : RecentData). record { ticks = keep_last z.room (z.ticks ++ c.args.self.now.tick ∷ []); room = z.room }) written) (leb-false _ _ (sym test ∙ c.if-holds.false)) h
