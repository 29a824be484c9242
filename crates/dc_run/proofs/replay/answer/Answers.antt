use Rattle.std.proofs.Common.{◌∙◌, ◌+◌, ◌≡◌, ◌≤◌, [], ap, arith, refl, sym}
use Rattle.dc_event.specs.Reading.{Reading, dry_left, failures_at, pulls_left}
use Rattle.dc_run.specs.Refusals.{refused, stop_end}
use Rattle.dc_run.specs.lemmas.Traces.{not_stopped, pulls_needed, pulls_reported}
use Rattle.dc_run.proofs.ReplayExits.{at_tick_0, cut_some, flush_ends, refused_ends, said_first, said_next, said_pulled, said_some, say_ends, step_count, step_early, stop_ends}
use Rattle.dc_run.proofs.Shown.{pull_shown}
use Rattle.dc_device.specs.lemmas.Known.{front_more}
use Rattle.dc_run.proofs.replay.answer.Goals as goal

pub loop-writer-init : goal.loop-writer-init
loop-writer-init g c =
    let start = c.new-lines.ensures.start in
    record {
      said = said_first _ _ _ (g.S.Source.state c.args.trace.now).remaining _ _ _ _ c.requires.stands c.requires.new (λ text is. rw is (c.new-lines.ensures.whole text));
      rows = c.requires.rows;
      early = omega (arith, at_tick_0 c.args.progress.now c.requires.stands);
      within = omega (arith, c.requires.stands.count, ap (λ (r : Reading). r.room) start);
      source = omega (arith, ap (λ (r : Reading). failures_at r.stopped) start);
      sink = refl;
      asks = omega (arith, ap (λ (r : Reading). pulls_left r.stopped r.room r.held) start);
      dry = omega (arith, ap (λ (r : Reading). dry_left r.stopped) start);
      prompt = λ more. absurd (omega (arith, more));
    }

pub returns-in-Err-clause-answer : goal.returns-in-Err-clause-answer
returns-in-Err-clause-answer g c =
    flush_ends _ _ _ _ _ _ _ _ (g.K.Sink.state c.flush.new.sink).contents _ c.in-Err.field-0 c.loop-writer.invariant.said c.in-Err.ensures.bytes

pub loop-writer-preserved-in-Ok : goal.loop-writer-preserved-in-Ok
loop-writer-preserved-in-Ok g c =
    let before = c.loop-writer.invariant in
    let (ran, runs, none, fewer) = c.in-None.ensures.more in
    let said = said_pulled _ _ _ _ _ _ _ _ _ _ (g.K.Sink.state c.pull.new.sink).contents _ _ before.said (c.in-None.ensures.reported (g.S.Source.state c.loop-writer.trace).remaining) c.pull.ensures.kept (rw c.pull.ensures.shows c.in-Ok.ensures.bytes) c.in-Ok.ensures.empty in
    let source : (g.S.Source.state c.pull.new.source).failed ≡ (g.S.Source.state c.args.trace.now).failed + failures_at c.pull.new.self.stopped = omega (arith, before.source, c.pull.ensures.count, ap failures_at ran) in
    let dry : (g.S.Source.state c.pull.new.source).dry + dry_left c.pull.new.self.stopped ≤ (g.S.Source.state c.args.trace.now).dry + 1 = omega (arith, before.dry, c.pull.ensures.asks.1, ap dry_left (runs ∙ sym ran)) in
    record {
      said = said;
      rows = before.rows;
      early = before.early;
      within = omega (arith, before.within, c.pull.ensures.room, fewer);
      source = source;
      sink = omega (arith, before.sink, c.in-Ok.ensures.count, c.pull.ensures.sink);
      asks = omega (
        arith,
        before.asks,
        c.pull.ensures.asks.0,
        pulls_needed c.loop-writer.lines.stopped c.advance.new.self.stopped c.loop-writer.lines.held c.advance.new.self.held c.loop-writer.lines.room c.advance.new.self.room ran runs none fewer,
      );
      dry = dry;
      prompt = pull_shown _ _ _ _ c.pull.new.self c.pull.new.self.stopped _ _ _ (g.K.Sink.state c.pull.new.sink).contents _ _ _ _ _ _ _ _ refl said c.in-Ok.ensures.empty c.pull.ensures.end (rw (← c.pull.ensures.shows) at c.pull.ensures.answered) dry source;
    }

pub returns-in-Some-Err-clause-answer : goal.returns-in-Some-Err-clause-answer
returns-in-Some-Err-clause-answer g c =
    let reported = rw c.in-Some-Err.field-0-is at (c.in-Some-Err.ensures.reported (g.S.Source.state c.loop-writer.trace).remaining) in
    stop_ends _ _ _ _ _ _ _ _ _ _ _ c.in-Some-Err.stop c.end_by.result c.loop-writer.invariant.said reported c.end_by.ensures.stops c.end_by.ensures.bytes

pub returns-in-Err-step-clause-answer : goal.returns-in-Err-step-clause-answer
returns-in-Err-step-clause-answer g c =
    let reported = rw c.in-Some-Ok.field-0-is at (c.in-Some-Ok.ensures.reported (g.S.Source.state c.loop-writer.trace).remaining) in
    refused_ends _ _ _ _ _ _ _ _ c.step.new.self _ _ _ _ c.in-Some-Ok.event c.in-Err-step.refusal c.end_refused.result
    c.loop-writer.invariant.rows c.loop-writer.invariant.said reported c.in-Err-step.ensures.step c.end_refused.ensures.bytes

pub returns-in-Err-say-clause-answer : goal.returns-in-Err-say-clause-answer
returns-in-Err-say-clause-answer g c =
    let reported = rw c.in-Some-Ok.field-0-is at (c.in-Some-Ok.ensures.reported (g.S.Source.state c.loop-writer.trace).remaining) in
    let bytes = rw c.of-names.ensures at c.in-Err-say.ensures.bytes in
    say_ends _ _ _ _ _ _ _ _ c.step.new.self _ _ _ _ c.say.new.writer c.in-Some-Ok.event c.in-Ok-step.step c.in-Err-say.failure
    c.loop-writer.invariant.rows c.loop-writer.invariant.said reported c.in-Ok-step.ensures.step bytes.0 c.in-Err-say.ensures.sink

pub loop-writer-preserved : goal.loop-writer-preserved
loop-writer-preserved g c =
    let before = c.loop-writer.invariant in
    let reported = rw c.in-Some-Ok.field-0-is at (c.in-Some-Ok.ensures.reported (g.S.Source.state c.loop-writer.trace).remaining) in
    let runs = rw c.in-Some-Ok.field-0-is at c.in-Some-Ok.ensures.more in
    let shorter = rw c.in-Some-Ok.field-0-is at c.in-Some-Ok.ensures.shorter in
    let ran = not_stopped _ _ c.in-Some-Ok.event _ _ c.in-Some-Ok.field-0-is c.in-Some-Ok.ensures.again in
    let steps = c.in-Ok-step.ensures.step before.said.done before.said.at in
    let bytes = rw c.of-names.ensures at c.in-Ok-say.ensures.bytes in
    record {
      said = said_next _ _ _ _ _ _ _ _ _ _ _ _ _ _ c.in-Some-Ok.event c.in-Ok-step.step before.rows before.said reported c.in-Ok-step.ensures.step bytes;
      rows = c.in-Ok-step.ensures.rows ∙ before.rows;
      early = step_early _ _ _ _ _ steps;
      within = omega (arith, before.within, shorter, step_count _ _ _ _ _ _ before.said.at steps);
      source = omega (arith, before.source, ap failures_at ran, ap failures_at runs);
      sink = omega (arith, before.sink, c.in-Ok-say.ensures.count);
      asks = omega (
        arith,
        before.asks,
        pulls_reported c.loop-writer.lines.stopped c.advance.new.self.stopped c.loop-writer.lines.held c.advance.new.self.held c.loop-writer.lines.room c.advance.new.self.room ran runs shorter,
      );
      dry = omega (arith, before.dry, ap dry_left (runs ∙ sym ran));
      prompt = rw c.in-Ok-say.ensures.answered before.prompt;
    }

pub returns-in-Err-clause-some : goal.returns-in-Err-clause-some
returns-in-Err-clause-some g c =
    cut_some _ _ _ _ _ _ _ _ _ _ [] _ c.loop-writer.invariant.said (front_more _ _ _ [] c.in-Err.ensures.bytes) refl

pub returns-in-Some-Err-clause-some : goal.returns-in-Some-Err-clause-some
returns-in-Some-Err-clause-some g c = said_some _ _ _ _ _ _ _ _ _ _ (stop_end c.in-Some-Err.stop) c.end_by.result c.loop-writer.invariant.said c.end_by.ensures.bytes

pub returns-in-Err-step-clause-some : goal.returns-in-Err-step-clause-some
returns-in-Err-step-clause-some g c = said_some _ _ _ _ _ _ _ _ _ _ (refused c.args.tables.now c.in-Err-step.refusal.event c.in-Err-step.refusal.fault c.in-Err-step.refusal.number) c.end_refused.result c.loop-writer.invariant.said c.end_refused.ensures.bytes

pub returns-in-Err-say-clause-some : goal.returns-in-Err-say-clause-some
returns-in-Err-say-clause-some g c = cut_some _ _ _ _ _ _ _ _ _ _ _ c.in-Err-say.failure c.loop-writer.invariant.said c.in-Err-say.ensures.bytes.0 c.in-Err-say.ensures.sink
