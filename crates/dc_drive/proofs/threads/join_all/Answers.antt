use Rattle.std.proofs.Common.{◌≡◌, ◌++◌, sym, subst, arith}
use Rattle.std.specs.Prelude.{All, IfErr}
use Rattle.std.proofs.lemmas.List.Elements.{All-push}
use Rattle.dc_drive.specs.Played.{out_with}
use Rattle.dc_drive.specs.Refusals.{HaltsAs, MayStickAt}
use Rattle.dc_drive.proofs.Halts.{either}
use Rattle.dc_drive.proofs.Same.{all-fewer, all_self, joined, one-last}
use Rattle.dc_drive.proofs.threads.join_all.Goals as goal

pub loop-child-init : goal.loop-child-init
loop-child-init g c = (
  all_self g.S.Player.seat (c.args.seats.now.items ++ out_with (λ h. h.promise.seat.value) c.args.children.now.items),
  c.requires.of_hub,
  c.requires.hubs,
  c.requires.room,
  tt,
)

pub loop-child-preserved : goal.loop-child-preserved
loop-child-preserved g c =
    let before = c.loop-child.invariant in
    let is = one-last (λ h. (h.promise.hub.value ≡ c.args.hub.now) × (h.promise.gate.value ≡ c.args.gate.now)) c.loop-child.children.items c.pop.new.self.items c.in-Some.child before.2 c.in-Some.ensures.items in (
      joined g.S.Player.seat c.loop-child.children.items c.pop.new.self.items c.in-Some.child (λ h. h.promise.seat.value) (c.args.seats.now.items ++ out_with (λ h. h.promise.seat.value) c.args.children.now.items)
          c.loop-child.seats.items c.push_reserved.new.self.items c.join-seat.result.seat before.0 c.in-Some.ensures.items c.push_reserved.ensures.items c.join-seat.ensures.0,
      subst (All (g.S.Player.is_of_hub c.args.hub.now)) (sym c.push_reserved.ensures.items)
          (All-push (g.S.Player.is_of_hub c.args.hub.now) c.loop-child.seats.items c.join-seat.result.seat before.1 (subst (λ b. g.S.Player.is_of_hub b c.join-seat.result.seat) is.0 c.join-seat.ensures.1)),
      all-fewer (λ h. (h.promise.hub.value ≡ c.args.hub.now) × (h.promise.gate.value ≡ c.args.gate.now)) c.loop-child.children.items c.pop.new.self.items c.in-Some.child before.2 c.in-Some.ensures.items,
      omega (arith, before.3, c.in-Some.ensures.len, c.push_reserved.ensures.len, c.push_reserved.ensures.capacity),
      either (HaltsAs g.L.Charter.certified g.L.Charter.limit (MayStickAt (g.G.Gate.may_stick c.args.gate.now))) c.loop-child.end c.join-seat.result.end c.first-end.result c.first-end.ensures before.4
          (subst (λ b. IfErr c.join-seat.result.end (HaltsAs g.L.Charter.certified g.L.Charter.limit (MayStickAt (g.G.Gate.may_stick b)))) is.1 c.join-seat.ensures.2),
    )
