use Rattle.std.proofs.Common.{◌≡◌, ◌<◌, ◌≤◌, Some, List, [], length, subst, sym, arith}
use Rattle.dc_check.specs.Lent.{tables_of}
use Rattle.dc_core.specs.Steps.{IsSized, StandsFor}
use Rattle.dc_hub.specs.Entries.{events, IsLegal}
use Rattle.dc_hub.specs.Views.{others}
use Rattle.dc_hub.specs.declared.entry.Entry.{Entry}
use Rattle.dc_hub.proofs.Legal.{legal_none}
use Rattle.dc_hub.proofs.book.Book.new.Goals as goal

pub invariant_of-result : goal.invariant_of-result
invariant_of-result g c =
    let sized : IsSized (tables_of c.args.certified) c.in_ok-state.state = subst (λ t. IsSized t c.in_ok-state.state) c.tables.ensures c.in_ok-state.ensures.sized in
    let stands : StandsFor (tables_of c.args.certified) c.in_ok-state.state [] = subst (λ t. StandsFor t c.in_ok-state.state []) c.tables.ensures c.in_ok-state.ensures.stands in
    subst
    (λ (es : List Entry). IsLegal (tables_of c.args.certified) es × IsSized (tables_of c.args.certified) c.in_ok-state.state × StandsFor (tables_of c.args.certified) c.in_ok-state.state (events es) × (c.args.count.total ≡ length es) × (length es ≤ c.args.limit) × (g.L.Charter.certified ≡ Some c.args.certified) × (g.L.Charter.limit ≡ c.args.limit) × (others g.L.Charter.certified < g.L.Charter.whole) × (c.args.none.parts ≡ 0) × (c.args.none.amount ≡ 0))
    (sym c.new-2.ensures.items)
    (legal_none (tables_of c.args.certified) c.in_ok-state.state stands, sized, stands, c.requires.count, omega arith, c.requires.charter.0, c.requires.charter.1, c.requires.charter.3, c.requires.none.0, c.requires.none.1)
