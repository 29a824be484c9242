use Rattle.std.proofs.Common.{rules, ◌≡◌, ◌+◌, ◌++◌, ◌∷◌, [], refl, subst, sym, ap, ◌∙◌}
use Rattle.dc_event.specs.declared.event.Actor.TheVariants.{Wire}
use Rattle.dc_hub.specs.Views.{WireView, unused, AreNewWires}
use Rattle.dc_board.specs.Marks.{stepped_once}
use Rattle.dc_hub.proofs.Opens.{wires-push, stepped_more}
use Rattle.dc_hub.proofs.opening.wire_seats.Goals as goal

pub loop-bus-preserved : goal.loop-bus-preserved
loop-bus-preserved g c =
    let v = c.loop-bus.invariant in
    let w : WireView = record { seat = unused (Wire c.loop-bus.bus) 1; marks = c.split-marks.result } in
    let items : c.push.new.self.items ≡ c.loop-bus.wires.items ++ w ∷ [] = search rules in (
      subst (λ l. AreNewWires c.args.board.now l (c.loop-bus.bus + 1)) (sym items)
          (wires-push c.args.board.now c.loop-bus.wires.items c.loop-bus.bus w v.0 (record { seat = refl; board_seat = c.split-marks.ensures.new.0; nothing_noted = c.split-marks.ensures.new.1 })),
      c.split-marks.ensures.seat,
      c.split-marks.ensures.same ∙ ap stepped_once v.2 ∙ stepped_more c.loop-bus.bus c.args.watch.now.1,
      search rules,
      search rules,
    )
