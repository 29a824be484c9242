use Rattle.std.proofs.Common.{rules, ◌≡◌, ◌<◌, ◌≤◌, ◌++◌, ◌∷◌, Some, [], length, subst, sym, ap, ◌∙◌, length-append, arith}
use Rattle.dc_check.specs.Lent.{tables_of}
use Rattle.dc_core.specs.Standing.{MayFollow, IsFault}
use Rattle.dc_core.specs.Steps.{IsSized, StandsFor}
use Rattle.dc_hub.specs.Entries.{entry, events, IsLegal}
use Rattle.dc_hub.specs.Views.{BookView, IsBookOf, others}
use Rattle.dc_hub.proofs.Faults.{same_fault}
use Rattle.dc_hub.proofs.Legal.{legal_after, stands_after}
use Rattle.dc_hub.proofs.book.Book.act.Goals as goal

pub returns-in-Err-clause-step : goal.returns-in-Err-clause-step
returns-in-Err-clause-step g c = λ f e.
    let said = c.in-Err.ensures.step (events c.self.inside.entries.items) c.self.invariant.2 in
    let room : length c.self.inside.entries.items < c.self.inside.limit = search rules in
    let fault = subst (IsFault (tables_of c.self.inside.certified) (events c.self.inside.entries.items) c.args.event) (same_fault c.in-Err.fault f e) said.1 in
    subst (λ (b : BookView). (length b.entries < b.limit) × (¬ MayFollow (tables_of b.certified) (events b.entries) c.args.event) × IsFault (tables_of b.certified) (events b.entries) c.args.event f)
    c.self.view_is
    (room, said.0, fault)

pub invariant_of-self-2 : goal.invariant_of-self-2
invariant_of-self-2 g c =
    let i = c.self.invariant in
    let said = c.in-Ok.ensures.step (events c.self.inside.entries.items) i.2 in
    let legal = legal_after (tables_of c.self.inside.certified) c.self.inside.entries.items c.args.event c.in-Ok.reply i.0 said.0 said.2 in
    let stands = stands_after (tables_of c.self.inside.certified) c.step.new.state c.self.inside.entries.items c.args.event c.in-Ok.reply said.1 in
    let items : c.push_reserved.new.self.items ≡ c.self.inside.entries.items ++ entry c.args.event c.in-Ok.reply ∷ [] = search rules in
    let count : c.add.new.self.total ≡ length (c.self.inside.entries.items ++ entry c.args.event c.in-Ok.reply ∷ []) = search (rules, length-append) in
    let room : length c.self.inside.entries.items < c.self.inside.limit = search rules in
    let fits : length (c.self.inside.entries.items ++ entry c.args.event c.in-Ok.reply ∷ []) ≤ c.self.inside.limit = omega (arith, room, length-append c.self.inside.entries.items (entry c.args.event c.in-Ok.reply ∷ [])) in
    subst
    (λ es. IsLegal (tables_of c.self.inside.certified) es × IsSized (tables_of c.self.inside.certified) c.step.new.state × StandsFor (tables_of c.self.inside.certified) c.step.new.state (events es) × (c.add.new.self.total ≡ length es)
    × (length es ≤ c.self.inside.limit) × (g.L.Charter.certified ≡ Some c.self.inside.certified) × (g.L.Charter.limit ≡ c.self.inside.limit) × (others g.L.Charter.certified < g.L.Charter.whole) × (c.self.inside.none.parts ≡ 0) × (c.self.inside.none.amount ≡ 0))
    (sym items)
    (legal, c.in-Ok.ensures.sized, stands, count, fits, i.5, i.6, i.7, i.8, i.9)

pub returns-clause-legal : goal.returns-clause-legal
returns-clause-legal g c =
    let i = c.self.invariant in
    let said = c.in-Ok.ensures.step (events c.self.inside.entries.items) i.2 in
    let legal = legal_after (tables_of c.self.inside.certified) c.self.inside.entries.items c.args.event c.in-Ok.reply i.0 said.0 said.2 in
    let items : c.push_reserved.new.self.items ≡ c.self.inside.entries.items ++ entry c.args.event c.in-Ok.reply ∷ [] = search rules in
    subst (IsLegal (tables_of c.self.inside.certified)) (sym items) legal

pub returns-clause-of_hub : goal.returns-clause-of_hub
returns-clause-of_hub g c =
    let i = c.self.invariant in
    let items : c.push_reserved.new.self.items ≡ c.self.inside.entries.items ++ entry c.args.event c.in-Ok.reply ∷ [] = search rules in
    let room : length c.self.inside.entries.items < c.self.inside.limit = search rules in
    let fits : length c.push_reserved.new.self.items ≤ c.self.inside.limit = omega (arith, room, ap length items ∙ length-append c.self.inside.entries.items (entry c.args.event c.in-Ok.reply ∷ [])) in (
      subst (IsBookOf g.L.Charter.certified g.L.Charter.limit) c.self.view_is (record { certified_is = i.5; limit_is = i.6; legal = i.0; fits = i.4 }),
      record { certified_is = i.5; limit_is = i.6; legal = returns-clause-legal g c; fits = fits },
    )
