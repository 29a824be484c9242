use Rattle.std.proofs.Common.{arith, rules}
use Rattle.std.proofs.lemmas.Grind.{common_steps}
use Rattle.dc_page_text.proofs.Groups.{grouped-great, grouped-long}
use Rattle.dc_page_text.proofs.number.GroupedDisplay.fmt.Goals as goal

pub returns-then-number-lt1000000000000000-clause-writes : goal.returns-then-number-lt1000000000000000-clause-writes
returns-then-number-lt1000000000000000-clause-writes g c =
    let n = c.args.self.now.0 in
    rw (grouped-long n (omega arith)) (first_of (search rules, grind (arith, common_steps)))

pub returns-clause-writes : goal.returns-clause-writes
returns-clause-writes g c =
    let n = c.args.self.now.0 in
    rw (grouped-great n (omega arith)) (first_of (search rules, grind (arith, common_steps)))
