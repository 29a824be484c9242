use Rattle.std.proofs.Common.{rules, ◌≡◌, ℕ, Err, IfErr, length, subst, sym, ◌∙◌}
use Rattle.std.specs.declared.result.Result.{Result}
use Rattle.dc_event.specs.declared.event.Actor.TheVariants.{Wire}
use Rattle.dc_event.specs.declared.event.Event.TheVariants.{Arrive}
use Rattle.dc_hub.specs.declared.entry.Receipt.{Receipt}
use Rattle.dc_hub.specs.declared.fault.HubFault.{HubFault}
use Rattle.dc_board.specs.Marks.{IsSeatOf}
use Rattle.dc_hub.specs.Views.{WireView, IsNotedAt, IsRefusal, greatest}
use Rattle.dc_hub.proofs.Marks.{noted_next, wire-same}
use Rattle.dc_hub.proofs.hub.Hub.arrive.Goals as goal

pub invariant_of-seat-2 : goal.invariant_of-seat-2
invariant_of-seat-2 g c =
    let i = c.seat.invariant in
    let of_board : IsSeatOf c.self.inside.board c.seat.inside.marks =
    subst (λ b. IsSeatOf b c.seat.inside.marks) (sym c.self.view_is) (subst (λ (w : WireView). IsSeatOf c.args.self.now w.marks) (sym c.seat.view_is) c.requires) in (
      c.in_ok-receipt.ensures.kept.0 ∙ i.0,
      i.1,
      noted_next c.self.inside.board c.seat.inside.marks c.seat.inside.seat.receipts c.in_ok-receipt.receipt c.seat.inside.bus c.act.new.seat.receipts c.note.new.seat.1.noted c.self.invariant of_board i.1 i.2
          c.in_ok-receipt.ensures.receipt.0 c.note.ensures.noted,
    )

pub returns-clause-noted : goal.returns-clause-noted
returns-clause-noted g c = λ bus actor.
    let i = c.seat.invariant in
    let of_board : IsSeatOf c.self.inside.board c.seat.inside.marks =
    subst (λ b. IsSeatOf b c.seat.inside.marks) (sym c.self.view_is) (subst (λ (w : WireView). IsSeatOf c.args.self.now w.marks) (sym c.seat.view_is) c.requires) in
    let same = wire-same c.seat.inside.bus bus (sym (c.in_ok-receipt.ensures.kept.0 ∙ i.0) ∙ actor) in
    subst (λ k. IsNotedAt k (greatest c.act.new.seat.receipts) c.note.new.seat.1.noted) same
    (noted_next c.self.inside.board c.seat.inside.marks c.seat.inside.seat.receipts c.in_ok-receipt.receipt c.seat.inside.bus c.act.new.seat.receipts c.note.new.seat.1.noted c.self.invariant of_board i.1 i.2
    c.in_ok-receipt.ensures.receipt.0 c.note.ensures.noted)

pub returns-in_err-receipt-clause-err : goal.returns-in_err-receipt-clause-err
returns-in_err-receipt-clause-err g c =
    let is : c.from_residual.result ≡ Err c.in_err-receipt.field-0.0 = search rules in
    subst
    (λ (r : Result Receipt HubFault). IfErr r (λ fault. (bus : ℕ) × (c.args.seat.now.seat.actor ≡ Wire bus) × IsRefusal g.L.Charter.certified g.L.Charter.limit (length c.args.seat.now.seat.receipts) (Arrive c.args.word bus) fault))
    (sym is)
    (subst
    (λ (w : WireView). (bus : ℕ) × (w.seat.actor ≡ Wire bus) × IsRefusal g.L.Charter.certified g.L.Charter.limit (length w.seat.receipts) (Arrive c.args.word bus) c.in_err-receipt.field-0.0)
    c.seat.view_is
    (c.seat.inside.bus, c.seat.invariant.0, c.in_err-receipt.ensures.err))
