-- The least certificate that is accepted for tables.
use Rattle.std.specs.Prelude.{ℕ, ◌≤◌, ◌<◌, length, slice_index}
use Rattle.dc_cert.specs.Bounds.{InputBound, OutputBound, CertificateRows, input_bound, output_bound, numbers_of}
use Rattle.dc_cert.specs.NamedRows.{NamedRows}
use Rattle.dc_check.specs.Accepts.{Accepts}
use Rattle.dc_tables.specs.TableRows.{TableRows}

-- each number of an input, of an output is at most that of another
pub record IsInputAtMost (c other : InputBound) : Type 0 where
  pub window : c.window ≤ other.window
  pub backlog : c.backlog ≤ other.backlog
  pub delay : c.delay ≤ other.delay

-- an output's window and delay are at most those of the other
pub record IsOutputAtMost (c other : OutputBound) : Type 0 where
  pub window : c.window ≤ other.window
  pub delay : c.delay ≤ other.delay

-- each number of a certificate is at most that of another
pub record IsAtMost (t : TableRows) (c other : CertificateRows) : Type 0 where
  pub inputs : (b : ℕ) → b < length t.buses → IsInputAtMost (input_bound c b) (input_bound other b)
  pub outputs : (o : ℕ) → o < length t.outputs → IsOutputAtMost (output_bound c o) (output_bound other o)
  pub ages : (x : ℕ) → x < length t.labels → slice_index c.ages x ≤ slice_index other.ages x

-- accepted, and no accepted one has a smaller number anywhere
pub record IsLeastAccepted (t : TableRows) (claims : NamedRows) : Type 0 where
  pub accepted : Accepts t claims
  pub least : (other : NamedRows) → Accepts t other → IsAtMost t (numbers_of claims) (numbers_of other)

-- no certificate is accepted
abbrev pub NoneAccepted : TableRows → Type 0
NoneAccepted t = (claims : NamedRows) → ¬ Accepts t claims
