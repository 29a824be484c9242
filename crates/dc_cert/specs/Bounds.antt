-- The numbers of a certificate, without its names.
use Rattle.std.specs.Prelude.{ℕ, List, map, slice_index_or}
use Rattle.dc_cert.specs.declared.certificate.Certificate.{Certificate}
use Rattle.dc_cert.specs.NamedRows.{NamedInput, NamedOutput, NamedRows, named_rows}

-- what is claimed of an input bus: a closing window, a backlog, a delay
pub record InputBound : Type 0 where
  pub window : ℕ
  pub backlog : ℕ
  pub delay : ℕ

-- what is claimed of an output: a closing window, a delay
pub record OutputBound : Type 0 where
  pub window : ℕ
  pub delay : ℕ

-- a certificate's numbers, for each bus, output and label in the order of the tables
pub record CertificateRows : Type 0 where
  pub inputs : List InputBound
  pub outputs : List OutputBound
  pub ages : List ℕ

-- the bound of the input bus with this index
abbrev pub input_bound : CertificateRows → ℕ → InputBound
input_bound c b = slice_index_or c.inputs b (record { window = 0; backlog = 0; delay = 0 })

-- the bound of the output with this index
abbrev pub output_bound : CertificateRows → ℕ → OutputBound
output_bound c o = slice_index_or c.outputs o (record { window = 0; delay = 0 })

-- ---- the numbers of claims

-- those of an input bus: its window in ticks, its backlog in words, its delay in ticks
abbrev pub input_numbers : NamedInput → InputBound
input_numbers claim = record { window = claim.window; backlog = claim.backlog; delay = claim.delay }

-- those of an output: its window and delay, in ticks
abbrev pub output_numbers : NamedOutput → OutputBound
output_numbers claim = record { window = claim.window; delay = claim.delay }

-- those of all claims in their order; of a label the age, in ticks
abbrev pub numbers_of : NamedRows → CertificateRows
numbers_of claims = record { inputs = map input_numbers claims.inputs; outputs = map output_numbers claims.outputs; ages = map (λ l. l.age) claims.labels }

-- the numbers of the program's certificate
abbrev pub certificate_rows : Certificate → CertificateRows
certificate_rows c = numbers_of (named_rows c)
