use Rattle.std.proofs.Common.{◌≡◌, ◌++◌, append-nil, subst, ap, ◌∙◌, arith}
use Rattle.std.specs.Prelude.{All}
use Rattle.dc_drive.specs.Played.{out_with}
use Rattle.dc_drive.proofs.Same.{all-before, all-last, all-eq, all-more, handed, nothing-out, refused}
use Rattle.dc_drive.proofs.threads.start_all.Goals as goal

pub returns-in_err-started-clause-same : goal.returns-in_err-started-clause-same
returns-in_err-started-clause-same g c =
    nothing-out g.S.Player.seat c.args.seats.now.items c.args.children.now.items (λ h. h.promise.seat.value) (omega (arith, c.requires.room.0, c.args.children.now.ok.0))

pub start-requires-after_bounds : goal.start-requires-after_bounds
start-requires-after_bounds g c = λ κs bounds.
    all-last (g.S.Player.is_of_hub c.args.stage.now.hub.now) c.pop.new.self.items c.in-Some.seat (subst (All (g.S.Player.is_of_hub c.args.stage.now.hub.now)) c.in-Some.ensures.items c.loop-seat.invariant.1)

pub loop-seat-preserved : goal.loop-seat-preserved
loop-seat-preserved g c =
    let before = c.loop-seat.invariant in (
      handed c.loop-seat.children.items c.push_reserved.new.self.items c.in-Ok.child (λ h. h.promise.seat.value) c.args.seats.now.items c.loop-seat.seats.items c.pop.new.self.items c.in-Some.seat
          before.0 c.in-Some.ensures.items c.push_reserved.ensures.items c.in-Ok.ensures.ok.0,
      all-before (g.S.Player.is_of_hub c.args.stage.now.hub.now) c.pop.new.self.items c.in-Some.seat (subst (All (g.S.Player.is_of_hub c.args.stage.now.hub.now)) c.in-Some.ensures.items before.1),
      all-more (λ h. (h.promise.hub.value ≡ c.args.stage.now.hub.now) × (h.promise.gate.value ≡ c.args.stage.now.gate.now)) c.loop-seat.children.items c.push_reserved.new.self.items c.in-Ok.child before.2 (c.in-Ok.ensures.ok.1, c.in-Ok.ensures.ok.2) c.push_reserved.ensures.items,
      omega (arith, before.3, c.in-Some.ensures.len, c.push_reserved.ensures.len),
      omega (arith, before.4, c.push_reserved.ensures.capacity),
      omega (arith, before.5, c.pop.ensures.capacity),
    )

pub returns-in-Err-clause-same : goal.returns-in-Err-clause-same
returns-in-Err-clause-same g c =
    refused g.S.Player.seat c.loop-seat.children.items (λ h. h.promise.seat.value) c.args.seats.now.items c.loop-seat.seats.items c.pop.new.self.items c.push_reserved-in-Err.new.self.items c.in-Some.seat c.in-Err.seat
    c.loop-seat.invariant.0 c.in-Some.ensures.items c.push_reserved-in-Err.ensures.items c.in-Err.ensures.err.0

pub returns-clause-same : goal.returns-clause-same
returns-clause-same g c =
    all-eq g.S.Player.seat c.args.seats.now.items (c.pop.new.self.items ++ out_with (λ h. h.promise.seat.value) c.loop-seat.children.items)
    (c.loop-seat.invariant.0 ∙ ap (λ l. l ++ out_with (λ h. h.promise.seat.value) c.loop-seat.children.items) (c.in_default.ensures.items ∙ append-nil c.pop.new.self.items))
