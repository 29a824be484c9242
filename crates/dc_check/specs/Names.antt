-- The names of tables, list by list.
use Rattle.std.specs.Prelude.{ℕ, List}
use Rattle.dc_check.specs.declared.fault.CertificateList.{CertificateList}
use Rattle.dc_check.specs.declared.fault.CertificateList.TheVariants.{Inputs, Outputs, Labels}
use Rattle.dc_tables.specs.TableRows.{TableRows}

-- the names of the inputs, of the outputs or of the labels
abbrev pub names_of : TableRows → CertificateList → List (List ℕ)
names_of t Inputs = t.names.buses
names_of t Outputs = t.names.outputs
names_of t Labels = t.names.labels
