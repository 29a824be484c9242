use Rattle.std.proofs.Common.{◌≡◌, ◌∙◌, subst, length}
use Rattle.dc_device.specs.Lines.{spelled}
use Rattle.dc_event.specs.Steady.{each_below, router_steps}
use Rattle.dc_run_trace.proofs.Spelling.{tick_text}
use Rattle.dc_run_trace.specs.Lines.{run_text}
use Rattle.dc_tables.specs.TableRows.{TableRows}
use Rattle.dc_run_trace.proofs.texts.TraceTexts.write_steps.Goals as goal

pub returns-in-Ok-clause-bytes : goal.returns-in-Ok-clause-bytes
returns-in-Ok-clause-bytes g c =
    let P : TableRows → Type 0 = λ t. c.self.inside.routers.items ≡ spelled (run_text t (each_below (router_steps t) (length t.routers))) in
    let routers = c.as_slice.ensures.value ∙ subst P c.self.view_is c.self.invariant.0 in
    let sends = c.text.ensures.text ∙ c.sends_and_end-sends.ensures in
    rw (tick_text c.args.self.now c.args.tick c.as_slice.result.now c.text.result.now routers sends) at c.in-Ok.ensures.bytes

pub returns-in-Err-clause-bytes : goal.returns-in-Err-clause-bytes
returns-in-Err-clause-bytes g c =
    let P : TableRows → Type 0 = λ t. c.self.inside.routers.items ≡ spelled (run_text t (each_below (router_steps t) (length t.routers))) in
    let routers = c.as_slice.ensures.value ∙ subst P c.self.view_is c.self.invariant.0 in
    let sends = c.text.ensures.text ∙ c.sends_and_end-sends.ensures in
    rw (tick_text c.args.self.now c.args.tick c.as_slice.result.now c.text.result.now routers sends) at c.in-Err.ensures.bytes
