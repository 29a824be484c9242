use Rattle.std.proofs.Common.{◌≡◌, length, subst, arith}
use Rattle.dc_check.specs.Lent.{tables_of}
use Rattle.dc_hub.specs.Closing.{all_seats, AreOneEach}
use Rattle.dc_hub.specs.Views.{BookView, receipts_in}
use Rattle.dc_hub.proofs.Counts.{as_many}
use Rattle.dc_hub.proofs.book.Book.counted.Goals as goal

pub returns-clause-as_many : goal.returns-clause-as_many
returns-clause-as_many g c =
    let i = c.book.invariant in
    let s = c.args.seats in
    subst
    (λ (b : BookView). AreOneEach (tables_of b.certified) (all_seats s.wires.items s.routers.items s.outputs.items s.clock) → length b.entries ≡ receipts_in (all_seats s.wires.items s.routers.items s.outputs.items s.clock))
    c.book.view_is
    (as_many g.L.Charter.certified c.book.inside.certified g.L.Charter.whole g.L.Ledger.parts c.book.inside.count.total c.merge_clock.new.all.parts c.merge_clock.new.all.amount (length c.book.inside.entries.items)
    s.wires.items s.routers.items s.outputs.items s.clock i.5 i.7 c.known.ensures
    (omega (arith, c.merge_clock.ensures.parts, c.merge_outputs.ensures.parts, c.merge_routers.ensures.parts, c.merge_wires.ensures.parts, c.empty-all.ensures.parts))
    (omega (arith, c.merge_clock.ensures.amount, c.merge_outputs.ensures.amount, c.merge_routers.ensures.amount, c.merge_wires.ensures.amount, c.empty-all.ensures.amount))
    c.audit.ensures.whole i.3)
