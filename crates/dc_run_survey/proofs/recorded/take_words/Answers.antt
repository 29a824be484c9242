use Rattle.std.proofs.Common.{◌∙◌, ap, arith, refl, sym}
use Rattle.dc_capture.specs.Reading.{Reading, ahead, dry_left, failures_at, pulls_left}
use Rattle.dc_run_survey.proofs.Heard.{heard_first, heard_next, heard_pulled, not_stopped, pulls_needed, pulls_reported}
use Rattle.dc_run_survey.proofs.recorded.take_words.Goals as goal

pub loop-lines-init : goal.loop-lines-init
loop-lines-init g c =
    let start = c.new-lines.ensures.start in
    record {
      heard = heard_first _ (g.S.Source.state c.args.capture.now).remaining _ _ _ _ c.requires.start (omega (arith, ap (λ (r : Reading). r.room) start)) (λ text is. rw is (c.new-lines.ensures.whole text));
      sized = c.requires.sized;
      timings = refl;
      rows = ap (λ (r : Reading). r.tables) start;
      source = omega (arith, ap (λ (r : Reading). failures_at r.stopped) start);
      asks = omega (arith, ap (λ (r : Reading). pulls_left r.stopped r.room r.held) start);
      dry = omega (arith, ap (λ (r : Reading). dry_left r.stopped) start);
    }

pub loop-lines-preserved-in-None : goal.loop-lines-preserved-in-None
loop-lines-preserved-in-None g c =
    let before = c.loop-lines.invariant in
    let (ran, runs, none, fewer, latest) = c.in-None.ensures.more in
    record {
      heard = heard_pulled c.args.tables.now (g.S.Source.state c.args.capture.now).remaining _ _ _ _ _ _ _ _ before.heard (ahead c.advance.new.self (g.S.Source.state c.loop-lines.capture).remaining) (c.in-None.ensures.reported (g.S.Source.state c.loop-lines.capture).remaining) c.pull.ensures.kept (c.pull.ensures.latest ∙ latest) (omega (arith, c.pull.ensures.room, fewer)) refl;
      sized = before.sized;
      timings = before.timings;
      rows = c.pull.ensures.tables ∙ c.in-None.ensures.tables ∙ before.rows;
      source = omega (arith, before.source, c.pull.ensures.count, ap failures_at ran);
      asks = omega (
        arith,
        before.asks,
        c.pull.ensures.asks.0,
        pulls_needed c.loop-lines.lines.stopped c.advance.new.self.stopped c.loop-lines.lines.held c.advance.new.self.held c.loop-lines.lines.room c.advance.new.self.room ran runs none fewer,
      );
      dry = omega (arith, before.dry, c.pull.ensures.asks.1, ap dry_left (runs ∙ sym ran));
    }

pub loop-lines-preserved : goal.loop-lines-preserved
loop-lines-preserved g c =
    let before = c.loop-lines.invariant in
    let reported = rw c.in-Some-Ok.field-0-is at (c.in-Some-Ok.ensures.reported (g.S.Source.state c.loop-lines.capture).remaining) in
    let runs = rw c.in-Some-Ok.field-0-is at c.in-Some-Ok.ensures.more in
    let shorter = rw c.in-Some-Ok.field-0-is at c.in-Some-Ok.ensures.shorter in
    let next = rw c.in-Some-Ok.field-0-is at c.in-Some-Ok.ensures.next in
    let latest = rw c.in-Some-Ok.field-0-is at c.in-Some-Ok.ensures.latest in
    let ran = not_stopped _ _ c.in-Some-Ok.word _ _ c.in-Some-Ok.field-0-is c.in-Some-Ok.ensures.again in
    record {
      heard = heard_next c.args.tables.now (g.S.Source.state c.args.capture.now).remaining _ _ _ _ _ _ _ _ before.heard c.in-Some-Ok.word reported next.after latest shorter c.take.ensures.surveys;
      sized = c.take.ensures.sized;
      timings = c.take.ensures.timings ∙ before.timings;
      rows = c.in-Some-Ok.ensures.tables ∙ before.rows;
      source = omega (arith, before.source, ap failures_at ran, ap failures_at runs);
      asks = omega (
        arith,
        before.asks,
        pulls_reported c.loop-lines.lines.stopped c.advance.new.self.stopped c.loop-lines.lines.held c.advance.new.self.held c.loop-lines.lines.room c.advance.new.self.room ran runs shorter,
      );
      dry = omega (arith, before.dry, ap dry_left (runs ∙ sym ran));
    }
