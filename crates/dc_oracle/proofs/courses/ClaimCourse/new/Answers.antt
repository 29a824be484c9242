use Rattle.std.proofs.Common.{refl}
use Rattle.dc_oracle.proofs.Claiming.{hold-nil}
use Rattle.dc_oracle.proofs.courses.ClaimCourse.new.Goals as goal

pub returns-clause-tells : goal.returns-clause-tells
returns-clause-tells c = λ ages. record { count = refl; place = hold-nil c.args.tables.now ages; watch = λ e. c.in_ok-watch.ensures.stands }
