use Rattle.std.proofs.Common.{◌∙◌, ap, arith, sym}
use Rattle.dc_cert.specs.Bounds.{certificate_rows}
use Rattle.dc_event.specs.Reading.{Reading, dry_left, failures_at, pulls_left}
use Rattle.dc_run_audit.proofs.Recorded.{followed_first, followed_next}
use Rattle.dc_run.specs.lemmas.Traces.{not_stopped, pulls_reported}
use Rattle.dc_run_audit.proofs.follow.follow.Goals as goal
use Rattle.dc_run_audit.proofs.follow.follow.Goals.{else-not-long-via-then-not-long+else-events-eq-MOST_EVENTS, else-not-long-via-else-not-long}

pub loop-lines-init : goal.loop-lines-init
loop-lines-init g c =
    let start = c.new-lines.ensures.start in
    let limit = c.limit_of.ensures.limit in
    record {
      followed = followed_first c.args.tables.now c.args.long (certificate_rows c.args.certificate.now).ages (g.S.Source.state c.args.trace.now).remaining c.limit_of.result _ _ limit c.requires.tells (λ text is. rw is (c.new-lines.ensures.whole text));
      sized = c.requires.sized;
      few = omega (arith, c.requires.none, limit, ap (λ (r : Reading). r.room) start);
      usual = λ e. omega (arith, c.requires.none);
      source = omega (arith, ap (λ (r : Reading). failures_at r.stopped) start);
      asks = omega (arith, limit, ap (λ (r : Reading). pulls_left r.stopped r.room r.held) start);
      dry = omega (arith, ap (λ (r : Reading). dry_left r.stopped) start);
    }

pub loop-lines-preserved : goal.loop-lines-preserved
loop-lines-preserved g c =
    let before = c.loop-lines.invariant in
    let reported = rw c.in-Some-Ok.field-0-is at (c.in-Some-Ok.ensures.reported (g.S.Source.state c.loop-lines.trace).remaining) in
    let runs = rw c.in-Some-Ok.field-0-is at c.in-Some-Ok.ensures.more in
    let shorter = rw c.in-Some-Ok.field-0-is at c.in-Some-Ok.ensures.shorter in
    let ran = not_stopped _ _ c.in-Some-Ok.event _ _ c.in-Some-Ok.field-0-is c.in-Some-Ok.ensures.again in
    record {
      followed = followed_next c.args.tables.now c.args.long (certificate_rows c.args.certificate.now).ages (g.S.Source.state c.args.trace.now).remaining _ _ c.loop-lines.course c.step.new.self c.in-Some-Ok.event
          c.named.ensures before.followed reported c.step.ensures.tells;
      sized = c.step.ensures.sized;
      few = omega (arith, before.few, shorter, c.step.ensures.count);
      usual = λ e. elim c.else-not-long.branch [
        | else-not-long-via-then-not-long+else-events-eq-MOST_EVENTS w ↦ omega (arith, before.usual e, c.step.ensures.count, w.events.ensures, w.if-events-eq-MOST_EVENTS.false)
        | else-not-long-via-else-not-long w ↦ absurd (let f = rw e at w.if-not-long.false in cc)
      ];
      source = omega (arith, before.source, ap failures_at ran, ap failures_at runs);
      asks = omega (
        arith,
        before.asks,
        pulls_reported c.loop-lines.lines.stopped c.advance.new.self.stopped c.loop-lines.lines.held c.advance.new.self.held c.loop-lines.lines.room c.advance.new.self.room ran runs shorter,
      );
      dry = omega (arith, before.dry, ap dry_left (runs ∙ sym ran));
    }
