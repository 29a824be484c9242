use Rattle.std.proofs.Common.{◌++◌, ◌∷◌, [], ◌∙◌, ap, sym, append_assoc, codes, replicate, ℕ, List}
use Rattle.dc_device.specs.Lines.{spelled}
use Rattle.dc_document.specs.Names.{text_of}
use Rattle.dc_run_trace.proofs.Spelling.{step_more}
use Rattle.dc_run_trace.proofs.texts.add_steps.Goals as goal

pub loop-step-preserved : goal.loop-step-preserved
loop-step-preserved c =
    let line : List ℕ = codes "R " ++ text_of c.args.name.now in
    c.in-Ok.ensures ∙ ap (λ l. l ++ (line ++ 10 ∷ [])) c.loop-step.invariant
    ∙ append_assoc c.args.lines.now.items (spelled (replicate c.loop-step._step line)) (line ++ 10 ∷ [])
    ∙ ap (λ l. c.args.lines.now.items ++ l) (sym (step_more c.loop-step._step line))
