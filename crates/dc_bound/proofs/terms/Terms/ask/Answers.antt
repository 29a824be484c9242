use Rattle.std.proofs.Common.{ℕ, ◌+◌, ◌-◌, ◌*◌, ◌/◌, set, get_or, ap, arith}
use Rattle.std.specs.Option.{unwrap_or}
use Rattle.std.proofs.Math.Nat.{mul-div_left}
use Rattle.std.proofs.lemmas.List.{get_or-set_same}
use Rattle.dc_bound.proofs.Summed.{asked, kept_bounded, term_of}
use Rattle.dc_bound.proofs.terms.Terms.ask.Goals as goal

pub overflow_add-self : goal.overflow_add-self
overflow_add-self g c =
    let cap = g.B.ArrivalBound.cap in
    let old = c.args.self.now in
    let said = c.at_most_and_jump-most in
    let mark : ℕ = unwrap_or said.result.1 1000001 * 256 in
    let kept = asked cap c.args.members.now c.args.ticks old.total old.counts old.marks c.requires.kept c.requires.few g.met.B.ArrivalBound.cap_monotone c.args.i c.index-members-i.result said.result.0
    mark said.result.1 c.requires.index c.index-members-i.is c.requires.inside said.ensures.most said.ensures.jump (mul-div_left (unwrap_or said.result.1 1000001) {n = 256} (omega arith)) in
    omega (arith, c.requires.small, kept_bounded cap c.args.members.now c.args.ticks (old.total - get_or old.counts c.args.i 0 + said.result.0) (set old.counts c.args.i said.result.0) (set old.marks c.args.i mark) kept c.requires.few)

pub returns-clause-kept : goal.returns-clause-kept
returns-clause-kept g c =
    let old = c.args.self.now in
    let said = c.at_most_and_jump-most in
    asked g.B.ArrivalBound.cap c.args.members.now c.args.ticks old.total old.counts old.marks c.requires.kept c.requires.few g.met.B.ArrivalBound.cap_monotone c.args.i c.index-members-i.result said.result.0
    c.mark.result said.result.1 c.requires.index c.index-members-i.is c.requires.inside said.ensures.most said.ensures.jump c.mark.ensures

pub returns-clause-ahead : goal.returns-clause-ahead
returns-clause-ahead g c =
    let said = c.at_most_and_jump-most in
    let x = c.index-members-i.result in
    let later = (term_of (g.B.ArrivalBound.cap x) (λ m n h. g.met.B.ArrivalBound.cap_monotone x m n h) c.args.ticks said.result.0 (c.mark.result / 256) said.result.1 c.requires.inside said.ensures.most said.ensures.jump c.mark.ensures).1 in
    let same = ap (λ n. n / 256) (get_or-set_same c.args.self.now.marks c.args.i c.mark.result 0 (omega (arith, c.requires.index, c.requires.few, c.requires.kept.1))) in
    omega (arith, later, same)
