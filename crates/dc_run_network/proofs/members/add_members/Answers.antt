use Rattle.std.proofs.Common.{◌≡◌, ◌+◌, ℕ, List, length, sym, ◌∙◌, subst, arith}
use Rattle.std.proofs.lemmas.List.{get_or_default}
use Rattle.dc_system_text.specs.System.{ConcentratorRow}
use Rattle.dc_ways.specs.Members.{MemberRows}
use Rattle.dc_run_network.specs.Lines.{no_row}
use Rattle.dc_run_network.specs.Members.{AreMembersTo, Holds, IsHaltAt, IsMemberAt, row_at}
use Rattle.dc_run_network.specs.lemmas.Halting.{halts-here, with-more}
use Rattle.dc_run_network.proofs.members.add_members.Goals as goal

pub loop-concentrator-preserved : goal.loop-concentrator-preserved
loop-concentrator-preserved g c =
    let l = c.loop-concentrator.invariant in
    let n = c.loop-concentrator.concentrator-index in
    let holds : Holds = g.F.Shelf.holds c.args.shelf.now in
    let item = c.concentrator-item.is ∙ get_or_default c.args.concentrators.now c.loop-concentrator.concentrator-index c.concentrator-item.result no_row c.loop-concentrator-test.true in
    let P : ConcentratorRow → Type 0 = λ r. IsMemberAt (g.F.Shelf.holds c.loop-concentrator.shelf) c.args.folder.now r c.in-Ok.member in
    let Q : Holds → Type 0 = λ h. IsMemberAt h c.args.folder.now (row_at c.args.concentrators.now c.loop-concentrator.concentrator-index) c.in-Ok.member in
    let more = with-more holds c.args.folder.now c.args.concentrators.now c.loop-concentrator.members.items n c.in-Ok.member l.each l.are (subst Q l.same (subst P item c.in-Ok.ensures.judged)) in
    let R : List MemberRows → Type 0 = λ z. (length z ≡ c.loop-concentrator.concentrator-index + 1) × AreMembersTo (g.F.Shelf.holds c.args.shelf.now) c.args.folder.now c.args.concentrators.now z (c.loop-concentrator.concentrator-index + 1) in
    let (each, are) = subst R (sym c.in-Ok-push.ensures.items) more in
    record {
      same = c.member_of.ensures.same ∙ l.same;
      keeps = g.F.Shelf.keeps_on c.args.shelf.now c.loop-concentrator.shelf c.member_of.new.shelf l.keeps c.member_of.ensures.keeps;
      each = each;
      are = are;
    }

pub returns-in-Err-push-clause-keeps : goal.returns-in-Err-push-clause-keeps
returns-in-Err-push-clause-keeps g c = g.F.Shelf.keeps_on c.args.shelf.now c.loop-concentrator.shelf c.member_of.new.shelf c.loop-concentrator.invariant.keeps c.member_of.ensures.keeps

pub returns-in-Err-clause-judged : goal.returns-in-Err-clause-judged
returns-in-Err-clause-judged g c =
    let l = c.loop-concentrator.invariant in
    let item = c.concentrator-item.is ∙ get_or_default c.args.concentrators.now c.loop-concentrator.concentrator-index c.concentrator-item.result no_row c.loop-concentrator-test.true in
    let P : ConcentratorRow → Type 0 = λ r. IsHaltAt (g.F.Shelf.holds c.loop-concentrator.shelf) c.args.folder.now r c.member_of.new.page c.in-Err.halt in
    let Q : Holds → Type 0 = λ h. IsHaltAt h c.args.folder.now (row_at c.args.concentrators.now c.loop-concentrator.concentrator-index) c.member_of.new.page c.in-Err.halt in
    halts-here (g.F.Shelf.holds c.args.shelf.now) c.args.folder.now c.args.concentrators.now c.loop-concentrator.members.items c.loop-concentrator.concentrator-index c.member_of.new.page c.in-Err.halt c.loop-concentrator-test.true l.are (subst Q l.same (subst P item c.in-Err.ensures.judged))

pub returns-clause-judged : goal.returns-clause-judged
returns-clause-judged g c =
    let l = c.loop-concentrator.invariant in
    let end : c.loop-concentrator.concentrator-index ≡ length c.args.concentrators.now = omega (arith, c.loop-concentrator-test.false, c.loop-concentrator.auto.concentrator-index-end) in
    let P : ℕ → Type 0 = λ n. AreMembersTo (g.F.Shelf.holds c.args.shelf.now) c.args.folder.now c.args.concentrators.now c.loop-concentrator.members.items n in
    record { each = l.each ∙ end; are = subst P end l.are }
