-- The jobs of a certificate: its inputs, its outputs and its labels in one row, from 0.
use Rattle.std.specs.Prelude.{◌≡◌, ℕ, ◌+◌, ◌<◌, length}
use Rattle.dc_check.specs.declared.job.Job.{Job}
use Rattle.dc_check.specs.declared.job.Job.TheVariants.{Input, Output, Label}
use Rattle.dc_tables.specs.TableRows.{TableRows}

-- this job of the tables has the number
abbrev pub IsJob : TableRows → ℕ → Job → Type 0
IsJob t number (Input b) = (b < length t.buses) × (number ≡ b)
IsJob t number (Output o) = (o < length t.outputs) × (number ≡ length t.buses + o)
IsJob t number (Label x) = (x < length t.labels) × (number ≡ length t.buses + length t.outputs + x)
