use Rattle.std.proofs.Common.{◌≡◌, ◌∙◌, ◌+◌, ◌≤◌, ◌<◌, [], ap, arith, length, refl, sym, subst}
use Rattle.dc_capture.specs.Reading.{Reading, dry_left, failures_at, pulls_left}
use Rattle.dc_device.specs.lemmas.Known.{front_more}
use Rattle.dc_run_trace.specs.Steps.{stop_answer}
use Rattle.dc_run_trace.proofs.Told.{cut_some, flush_ends, not_stopped, pulls_needed, pulls_reported, say_ends, stop_ends, told_first, told_next, told_pulled, told_some}
use Rattle.dc_tables.specs.TableRows.{TableRows}
use Rattle.dc_run_trace.proofs.engine.answer.Goals as goal

pub loop-writer-init : goal.loop-writer-init
loop-writer-init g c =
    let start = c.since-lines.ensures.start in
    record {
      told = told_first _ _ (g.C.Source.state c.args.capture.now).remaining c.valid.ensures _ _ _ c.requires.new (λ text is. rw is (rw c.least_time.ensures at (c.since-lines.ensures.whole text)));
      tables = ap (λ (r : Reading). r.tables) start;
      source = omega (arith, ap (λ (r : Reading). failures_at r.stopped) start);
      sink = refl;
      asks = omega (arith, ap (λ (r : Reading). pulls_left r.stopped r.room r.held) start);
      dry = omega (arith, ap (λ (r : Reading). dry_left r.stopped) start);
    }

pub returns-in-Err-clause-answer : goal.returns-in-Err-clause-answer
returns-in-Err-clause-answer g c =
    flush_ends _ _ _ _ _ _ _ (g.K.Sink.state c.flush.new.sink).contents _ c.loop-writer.invariant.told c.in-Err.ensures.bytes

pub returns-in-Err-clause-some : goal.returns-in-Err-clause-some
returns-in-Err-clause-some g c =
    cut_some _ _ _ _ _ _ _ _ _ [] _ c.loop-writer.invariant.told (front_more _ _ _ [] c.in-Err.ensures.bytes) refl

pub loop-writer-preserved-in-Ok : goal.loop-writer-preserved-in-Ok
loop-writer-preserved-in-Ok g c =
    let before = c.loop-writer.invariant in
    let (ran, runs, none, fewer, late) = c.in-None.ensures.more in
    record {
      told = told_pulled _ _ _ _ _ _ _ _ _ (g.K.Sink.state c.pull.new.sink).contents _ _ before.told (c.in-None.ensures.reported (g.C.Source.state c.loop-writer.capture).remaining) c.pull.ensures.kept (rw c.pull.ensures.shows c.in-Ok.ensures.bytes) c.in-Ok.ensures.empty;
      tables = c.pull.ensures.tables ∙ c.in-None.ensures.tables ∙ before.tables;
      source = omega (arith, before.source, c.pull.ensures.count, ap failures_at ran);
      sink = omega (arith, before.sink, c.in-Ok.ensures.count, c.pull.ensures.sink);
      asks = omega (
        arith,
        before.asks,
        c.pull.ensures.asks.0,
        pulls_needed c.loop-writer.lines.stopped c.advance.new.self.stopped c.loop-writer.lines.held c.advance.new.self.held c.loop-writer.lines.room c.advance.new.self.room ran runs none fewer,
      );
      dry = omega (arith, before.dry, c.pull.ensures.asks.1, ap dry_left (runs ∙ sym ran));
    }

pub returns-in-Some-Err-clause-answer : goal.returns-in-Some-Err-clause-answer
returns-in-Some-Err-clause-answer g c =
    let reported = rw c.in-Some-Err.field-0-is at (c.in-Some-Err.ensures.reported (g.C.Source.state c.loop-writer.capture).remaining) in
    let bytes = rw c.requires.same at c.end_trace.ensures.bytes in
    stop_ends _ _ _ _ _ _ _ _ _ _ c.in-Some-Err.stop c.end_trace.result c.loop-writer.invariant.told reported c.end_trace.ensures.stops bytes

pub returns-in-Some-Err-clause-some : goal.returns-in-Some-Err-clause-some
returns-in-Some-Err-clause-some g c = told_some _ _ _ _ _ _ _ _ _ (stop_answer c.args.texts.now c.loop-writer.clock c.in-Some-Err.stop) c.end_trace.result c.loop-writer.invariant.told c.end_trace.ensures.bytes

pub say-requires-clause-there : goal.say-requires-clause-there
say-requires-clause-there g c =
    let next = rw c.in-Some-Ok.field-0-is at c.in-Some-Ok.ensures.next in
    omega (arith, next.bus, ap (λ (t : TableRows). length t.buses) (c.loop-writer.invariant.tables ∙ sym c.requires.same))

pub returns-in-Err-say-clause-answer : goal.returns-in-Err-say-clause-answer
returns-in-Err-say-clause-answer g c =
    let reported = rw c.in-Some-Ok.field-0-is at (c.in-Some-Ok.ensures.reported (g.C.Source.state c.loop-writer.capture).remaining) in
    let bytes = rw (c.clock_or.ensures, c.requires.same) at c.in-Err-say.ensures.bytes in
    say_ends _ _ _ _ _ _ _ _ _ _ c.in-Some-Ok.word c.in-Err-say.failure c.loop-writer.invariant.told reported bytes.0 c.in-Err-say.ensures.sink

pub returns-in-Err-say-clause-some : goal.returns-in-Err-say-clause-some
returns-in-Err-say-clause-some g c = cut_some _ _ _ _ _ _ _ _ _ _ c.in-Err-say.failure c.loop-writer.invariant.told c.in-Err-say.ensures.bytes.0 c.in-Err-say.ensures.sink

pub loop-writer-preserved : goal.loop-writer-preserved
loop-writer-preserved g c =
    let before = c.loop-writer.invariant in
    let reported = rw c.in-Some-Ok.field-0-is at (c.in-Some-Ok.ensures.reported (g.C.Source.state c.loop-writer.capture).remaining) in
    let runs = rw c.in-Some-Ok.field-0-is at c.in-Some-Ok.ensures.more in
    let shorter = rw c.in-Some-Ok.field-0-is at c.in-Some-Ok.ensures.shorter in
    let ran = not_stopped _ _ c.in-Some-Ok.word _ _ c.in-Some-Ok.field-0-is c.in-Some-Ok.ensures.again in
    let bytes = rw (c.clock_or.ensures, c.requires.same) at c.in-Ok-say.ensures.bytes in
    let clock = rw (c.clock_or.ensures, c.requires.same) at c.in-Ok-say.ensures.clock in
    record {
      told = told_next _ _ _ _ _ _ _ _ _ _ _ c.in-Some-Ok.word c.in-Ok-say.next before.told reported clock bytes;
      tables = c.in-Some-Ok.ensures.tables ∙ before.tables;
      source = omega (arith, before.source, ap failures_at ran, ap failures_at runs);
      sink = omega (arith, before.sink, c.in-Ok-say.ensures.count);
      asks = omega (
        arith,
        before.asks,
        pulls_reported c.loop-writer.lines.stopped c.advance.new.self.stopped c.loop-writer.lines.held c.advance.new.self.held c.loop-writer.lines.room c.advance.new.self.room ran runs shorter,
      );
      dry = omega (arith, before.dry, ap dry_left (runs ∙ sym ran));
    }
