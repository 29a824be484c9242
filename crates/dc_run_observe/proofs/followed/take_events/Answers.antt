use Rattle.std.proofs.Common.{◌∙◌, ap, arith, sym}
use Rattle.dc_event.specs.Reading.{Reading, dry_left, failures_at, pulls_left}
use Rattle.dc_run.specs.lemmas.Traces.{not_stopped, pulls_reported}
use Rattle.dc_run_observe.proofs.Heard.{heard_first, heard_next}
use Rattle.dc_run_observe.proofs.followed.take_events.Goals as goal

pub loop-lines-init : goal.loop-lines-init
loop-lines-init g c =
    let start = c.new-lines.ensures.start in
    record {
      heard = heard_first c.args.tables.now (g.S.Source.state c.args.trace.now).remaining _ _ c.requires.start (λ text is. rw is (c.new-lines.ensures.whole text));
      sized = c.requires.sized;
      few = omega (arith, c.requires.none, ap (λ (r : Reading). r.room) start);
      source = omega (arith, ap (λ (r : Reading). failures_at r.stopped) start);
      asks = omega (arith, ap (λ (r : Reading). pulls_left r.stopped r.room r.held) start);
      dry = omega (arith, ap (λ (r : Reading). dry_left r.stopped) start);
    }

pub loop-lines-preserved : goal.loop-lines-preserved
loop-lines-preserved g c =
    let before = c.loop-lines.invariant in
    let reported = rw c.in-Some-Ok.field-0-is at (c.in-Some-Ok.ensures.reported (g.S.Source.state c.loop-lines.trace).remaining) in
    let runs = rw c.in-Some-Ok.field-0-is at c.in-Some-Ok.ensures.more in
    let shorter = rw c.in-Some-Ok.field-0-is at c.in-Some-Ok.ensures.shorter in
    let ran = not_stopped _ _ c.in-Some-Ok.event _ _ c.in-Some-Ok.field-0-is c.in-Some-Ok.ensures.again in
    record {
      heard = heard_next c.args.tables.now (g.S.Source.state c.args.trace.now).remaining _ _ c.loop-lines.near c.see.new.self c.in-Some-Ok.event c.named.ensures before.heard reported c.see.ensures.near;
      sized = c.see.ensures.sized;
      few = omega (arith, before.few, shorter, c.see.ensures.count);
      source = omega (arith, before.source, ap failures_at ran, ap failures_at runs);
      asks = omega (
        arith,
        before.asks,
        pulls_reported c.loop-lines.lines.stopped c.advance.new.self.stopped c.loop-lines.lines.held c.advance.new.self.held c.loop-lines.lines.room c.advance.new.self.room ran runs shorter,
      );
      dry = omega (arith, before.dry, ap dry_left (runs ∙ sym ran));
    }
