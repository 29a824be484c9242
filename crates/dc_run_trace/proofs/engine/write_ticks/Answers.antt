use Rattle.std.proofs.Common.{◌≡◌, ◌+◌, ◌-◌, ◌++◌, arith, subst}
use Rattle.dc_device.specs.Bytes.{AppendsFront, Gathered}
use Rattle.dc_device.specs.Lines.{spelled}
use Rattle.dc_event.specs.Steady.{steady_tick}
use Rattle.dc_run_trace.proofs.Stepping.{all_ticks, ticks_front, ticks_more}
use Rattle.dc_run_trace.proofs.Told.{front_behind, gathered_behind}
use Rattle.dc_run_trace.specs.Lines.{run_text}
use Rattle.dc_run_trace.specs.Steps.{steady_from}
use Rattle.dc_run_trace.proofs.engine.write_ticks.Goals as goal

pub returns-in-Err-clause-bytes : goal.returns-in-Err-clause-bytes
returns-in-Err-clause-bytes g c =
    let t = c.args.texts.now in
    let (failed, empty) = c.in-Err.ensures.bytes in
    let front = front_behind _ _ (g.K.Sink.state c.write_steps.new.sink).contents _ _ (run_text t (steady_from t c.args.tick (c.loop-k.k - c.args.tick))) (run_text t (steady_tick t c.loop-k.k)) c.loop-k.invariant.gathered failed in
    (ticks_front _ _ _ t c.args.tick c.loop-k.k c.args.next c.loop-k.invariant.after c.loop-k-test.true (rw (ticks_more t c.args.tick c.loop-k.k c.loop-k.invariant.after) at front), empty)

pub loop-k-preserved : goal.loop-k-preserved
loop-k-preserved g c =
    let t = c.args.texts.now in
    let before = c.loop-k.invariant in
    let gathered = gathered_behind _ _ (g.K.Sink.state c.write_steps.new.sink).contents _ _ _ (run_text t (steady_from t c.args.tick (c.loop-k.k - c.args.tick))) (run_text t (steady_tick t c.loop-k.k)) before.gathered c.in-Ok.ensures.bytes in
    record {
      after = omega (arith, before.after);
      none = λ no. absurd (omega (arith, no, c.loop-k-test.true, before.after));
      gathered = rw (ticks_more t c.args.tick c.loop-k.k before.after) at gathered;
      sink = omega (arith, before.sink, c.in-Ok.ensures.count);
    }

pub returns-clause-bytes : goal.returns-clause-bytes
returns-clause-bytes g c =
    let loop = c.loop-k.invariant in
    rw (all_ticks c.loop-k.k c.args.tick c.args.next loop.after c.loop-k-test.false c.loop-k.auto.k-end loop.none) at loop.gathered
