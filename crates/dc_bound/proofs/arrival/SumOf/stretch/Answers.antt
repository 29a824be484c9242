use Rattle.std.proofs.Common.{◌≤◌, Option, IfSome, length, subst, arith}
use Rattle.std.specs.List.{sum_by}
use Rattle.dc_bound.specs.lemmas.Walks.{shown_to_jump, shown_some}
use Rattle.dc_bound.specs.Terms.{KeepsTerms}
use Rattle.dc_bound.specs.declared.terms.Terms.{Terms}
use Rattle.dc_bound.proofs.Summed.{kept_shown}
use Rattle.dc_bound.proofs.arrival.SumOf.stretch.Goals as goal

pub returns-in_default-clause-shown : goal.returns-in_default-clause-shown
returns-in_default-clause-shown g c =
    shown_to_jump (λ k. sum_by (λ b. g.B.ArrivalBound.cap b k) c.args.self.now.members.now) c.args.ticks c.args.last c.min.result c.at_most_and_jump-most.result.0 c.at_most_and_jump-most.result.1
    c.requires.far c.at_most_and_jump-most.ensures.jump (omega (arith, c.min.ensures, c.unwrap_or.ensures)) c.at_most_and_jump-most.ensures.most

pub returns-in_default-clause-later : goal.returns-in_default-clause-later
returns-in_default-clause-later g c =
    shown_some (λ k. sum_by (λ b. g.B.ArrivalBound.cap b k) c.args.self.now.members.now) c.args.ticks c.args.last c.min.result c.at_most_and_jump-most.result.1 c.requires.some
    c.at_most_and_jump-most.ensures.jump (omega (arith, c.min.ensures, c.unwrap_or.ensures))

pub returns-clause-shown : goal.returns-clause-shown
returns-clause-shown g c =
    let members = c.args.self.now.members.now in
    let cap = g.B.ArrivalBound.cap in
    let terms = c.next-until.new.self in
    let P : Option Terms → Type 0 = λ o. IfSome o (λ t. (length members ≤ 256) × KeepsTerms cap members c.args.ticks t) in
    kept_shown cap members c.args.ticks terms.total terms.counts terms.marks c.next-until.ensures.kept (subst P c.in-Some.is c.requires.kept).0 c.next-until.result c.next-until.ensures.first
