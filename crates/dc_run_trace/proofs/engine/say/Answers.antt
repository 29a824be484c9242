use Rattle.std.proofs.Common.{◌≡◌, ◌-◌, [], ◌∷◌, ◌++◌, ◌∙◌, ap, ℕ}
use Rattle.dc_run_trace.proofs.Stepping.{up_text}
use Rattle.dc_run_trace.proofs.Told.{front_behind, front_lines, gathered_behind}
use Rattle.dc_run_trace.specs.Lines.{run_text}
use Rattle.dc_run_trace.specs.Steps.{steady_from}
use Rattle.dc_trace.specs.Traces.{arrive, tick_at}
use Rattle.dc_run_trace.proofs.engine.say.Goals as goal

pub returns-in-Err-clause-bytes : goal.returns-in-Err-clause-bytes
returns-in-Err-clause-bytes g c =
    let t = c.args.texts.now in
    let x : ℕ × (ℕ × ℕ) = (c.args.word.time, (c.args.word.bus, c.args.word.word)) in
    let is : c.tick_at-tick.result ≡ tick_at c.args.clock.from t.tick_us c.args.word.time = c.tick_at-tick.ensures ∙ ap (λ us. tick_at c.args.clock.from us c.args.word.time) c.tick_us.ensures.tick in
    let (failed, empty) = c.in-Err.ensures.bytes in
    let front = front_lines _ (g.K.Sink.state c.write_ticks.new.sink).contents _ (run_text t (steady_from t c.args.clock.tick (c.tick_at-tick.result - c.args.clock.tick))) (run_text t (arrive x ∷ [])) failed in
    (rw (up_text t c.args.clock x c.tick_at-tick.result is) at front, empty)

pub returns-in-Err-write_word-clause-bytes : goal.returns-in-Err-write_word-clause-bytes
returns-in-Err-write_word-clause-bytes g c =
    let t = c.args.texts.now in
    let x : ℕ × (ℕ × ℕ) = (c.args.word.time, (c.args.word.bus, c.args.word.word)) in
    let is : c.tick_at-tick.result ≡ tick_at c.args.clock.from t.tick_us c.args.word.time = c.tick_at-tick.ensures ∙ ap (λ us. tick_at c.args.clock.from us c.args.word.time) c.tick_us.ensures.tick in
    let (failed, empty) = c.in-Err-write_word.ensures.bytes in
    let front = front_behind _ _ (g.K.Sink.state c.write_word.new.sink).contents _ _ (run_text t (steady_from t c.args.clock.tick (c.tick_at-tick.result - c.args.clock.tick))) (run_text t (arrive x ∷ [])) c.in-Ok.ensures.bytes failed in
    (rw (up_text t c.args.clock x c.tick_at-tick.result is) at front, empty)

pub returns-in-Ok-write_word-clause-bytes : goal.returns-in-Ok-write_word-clause-bytes
returns-in-Ok-write_word-clause-bytes g c =
    let t = c.args.texts.now in
    let x : ℕ × (ℕ × ℕ) = (c.args.word.time, (c.args.word.bus, c.args.word.word)) in
    let is : c.tick_at-tick.result ≡ tick_at c.args.clock.from t.tick_us c.args.word.time = c.tick_at-tick.ensures ∙ ap (λ us. tick_at c.args.clock.from us c.args.word.time) c.tick_us.ensures.tick in
    let gathered = gathered_behind _ _ (g.K.Sink.state c.write_word.new.sink).contents _ _ _ (run_text t (steady_from t c.args.clock.tick (c.tick_at-tick.result - c.args.clock.tick))) (run_text t (arrive x ∷ [])) c.in-Ok.ensures.bytes c.in-Ok-write_word.ensures.bytes in
    rw (up_text t c.args.clock x c.tick_at-tick.result is) at gathered
