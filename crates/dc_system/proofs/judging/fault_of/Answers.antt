use Rattle.std.proofs.Common.{subst}
use Rattle.std.specs.Prelude.{MatchOption}
use Rattle.dc_ways.specs.Fitting.{IsGood, IsLinkFault}
use Rattle.dc_ways.specs.Members.{MemberRows, concentrator, link_of}
use Rattle.dc_system.proofs.judging.fault_of.Goals as goal

pub returns : goal.returns
returns c =
    let P : MemberRows → Type 0 = λ m. MatchOption c.link_fault.result (IsGood m c.member-to.result.now (link_of c.args.link.now)) (λ fault. IsLinkFault m c.member-to.result.now (link_of c.args.link.now) fault) in
    let Q : MemberRows → Type 0 = λ m. MatchOption c.link_fault.result (IsGood (concentrator c.args.members.now c.args.link.now.from) m (link_of c.args.link.now)) (λ fault. IsLinkFault (concentrator c.args.members.now c.args.link.now.from) m (link_of c.args.link.now) fault) in
    subst Q c.member-to.ensures (subst P c.member-from.ensures c.link_fault.ensures)
