use Rattle.std.proofs.Common.{List, subst, sym, ◌∙◌}
use Rattle.dc_check.specs.Lent.{tables_of}
use Rattle.dc_check.specs.declared.certified.Certified.{Certified}
use Rattle.dc_hub.specs.Closing.{all_seats, AreOneEach, AllAgree, IsCloseFault}
use Rattle.dc_hub.specs.Views.{BookView, ClosedView, SeatView}
use Rattle.dc_hub.specs.declared.entry.Entry.{Entry}
use Rattle.dc_hub.proofs.book.Book.close.Goals as goal

abbrev Whole : List SeatView → Certified → List Entry → Type 0
Whole seats c es = AreOneEach (tables_of c) seats × AllAgree es seats

pub returns-in-None-clause-ok : goal.returns-in-None-clause-ok
returns-in-None-clause-ok g c =
    let s = c.args.seats in
    let seats : List SeatView = all_seats s.wires.items s.routers.items s.outputs.items s.clock in
    subst (λ (x : ClosedView). Whole seats x.certified x.entries) (sym c.closed.ensures)
    (subst (λ (b : BookView). Whole seats b.certified b.entries) (c.self.view_is ∙ sym c.counted-book.ensures.same)
    (subst (Whole seats c.self.inside.certified) c.deref.ensures.value c.in-None.ensures))

pub returns-in-Some-clause-err : goal.returns-in-Some-clause-err
returns-in-Some-clause-err g c =
    let s = c.args.seats in
    let seats : List SeatView = all_seats s.wires.items s.routers.items s.outputs.items s.clock in
    subst (λ (b : BookView). IsCloseFault (tables_of b.certified) b.entries seats c.in-Some.fault) c.self.view_is
    (subst (λ (es : List Entry). IsCloseFault (tables_of c.self.inside.certified) es seats c.in-Some.fault) c.deref.ensures.value c.in-Some.ensures)
