use Rattle.std.proofs.Common.{◌≡◌, ◌%◌, ◌==◌, ◌++◌, ◌∷◌, [], true, ◌∙◌, ap, sym, arith}
use Rattle.dc_event.specs.declared.event.Event.TheVariants.{Send}
use Rattle.dc_run_trace.proofs.Spelling.{send_more}
use Rattle.dc_run_trace.specs.Lines.{event_text}
use Rattle.dc_tables.specs.TableRows.{output_row}
use Rattle.dc_run_trace.proofs.texts.put_sends.Goals as goal

pub loop-output-preserved : goal.loop-output-preserved
loop-output-preserved c =
    let t = c.args.tables.now in
    let o = c.loop-output.output in
    let before = c.loop-output.invariant in
    let due : (c.args.tick % (output_row t o).gap == 0) ≡ true = sym c.sends_in.ensures ∙ c.if-not-sends_in.false in
    record {
      items = c.put_send.ensures.items ∙ ap (λ l. l ++ (event_text t (Send o) ++ 10 ∷ [])) before.items ∙ sym (send_more t c.args.tick o due);
      len = omega (arith, c.put_send.ensures.len, before.len);
    }
