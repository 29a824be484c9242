use Rattle.std.proofs.Common.{sym, subst}
use Rattle.dc_check.specs.Accepts.{Accepts}
use Rattle.dc_ways.specs.Members.{MemberRows}
use Rattle.dc_run_network.proofs.members.accepted.Goals as goal

pub of_verdict-requires : goal.of_verdict-requires
of_verdict-requires c = sym c.requires

pub returns-clause-is : goal.returns-clause-is
returns-clause-is c = c.in-Ok.ensures.1

pub returns-clause-accepted : goal.returns-clause-accepted
returns-clause-accepted c =
    let P : MemberRows → Type 0 = λ m. Accepts m.written.tables m.claims in
    subst P c.in-Ok.ensures.1 c.judged.ensures.accepted
