-- What is said by lines of which the first stands within the limits.
use Rattle.std.proofs.Common.{◌≡◌, ℕ, ◌+◌, List, ◌∷◌, length, false, refl}
use Rattle.dc_cert.specs.Bounds.{CertificateRows}
use Rattle.dc_tables.specs.TableRows.{TableRows}
use Rattle.dc_seen.specs.Said.{at_line, followed, line_said, lines_said, too_long}

pub first_line : (t : TableRows) (c : CertificateRows) (before k : ℕ) (line : List ℕ) (lines : List (List ℕ)) (rest : List ℕ) → too_long before (length line) (length line + 1) ≡ false
    → lines_said t c before k (line ∷ lines) rest ≡ followed (at_line k (line_said t c k line)) (lines_said t c (before + length line + 1) (k + 1) lines rest)
first_line t c before k line lines rest fits = rw fits refl
