-- Where the fault of a certificate is.
use Rattle.std.specs.Prelude.{◌≢◌, ℕ, ◌<◌, length}
use Rattle.dc_check.specs.declared.fault.CheckFault.{CheckFault}
use Rattle.dc_check.specs.declared.fault.Condition.TheVariants.{NamesDiffer}
use Rattle.dc_check.specs.declared.fault.CertificateList.{CertificateList}
use Rattle.dc_check.specs.declared.fault.CertificateList.TheVariants.{Inputs, Outputs, Labels}
use Rattle.dc_tables.specs.TableRows.{TableRows}

-- how many inputs, outputs or labels there are
abbrev pub member_count : TableRows → CertificateList → ℕ
member_count t Inputs = length t.buses
member_count t Outputs = length t.outputs
member_count t Labels = length t.labels

-- the fault names an input, output or label that is there; `NamesDiffer` is of a list as a whole
abbrev pub IsPlaced : TableRows → CheckFault → Type 0
IsPlaced t fault = fault.condition ≢ NamesDiffer → fault.index < member_count t fault.list
