use Rattle.std.proofs.Common.{[]}
use Rattle.dc_oracle.proofs.courses.AuditCourse.new.Goals as goal

pub returns-clause-sized : goal.returns-clause-sized
returns-clause-sized c = record {
  budgets = c.in_ok-new.ensures.sized;
  sources = c.in_ok-new-2.ensures.sized;
  claims = c.in_ok-new-3.ensures.sized;
  budgets_count = c.in_ok-new.ensures.tells.count;
  sources_count = c.in_ok-new-2.ensures.tells.count;
  claims_count = (c.in_ok-new-3.ensures.tells []).count;
}

pub returns-clause-tells : goal.returns-clause-tells
returns-clause-tells c = λ ages. record { budgets = c.in_ok-new.ensures.tells; sources = c.in_ok-new-2.ensures.tells; claims = c.in_ok-new-3.ensures.tells ages }
