use Rattle.std.proofs.Common.{refl}
use Rattle.dc_drift.proofs.Worked.{none, fifty, thousand}
use Rattle.dc_drift.proofs.laws.small_tables_under_drift.Goals as goal

pub returns : goal.returns
returns c = record { none = none; fifty = fifty; thousand = thousand; age_none = refl; age_fifty = refl; age_thousand = refl }
