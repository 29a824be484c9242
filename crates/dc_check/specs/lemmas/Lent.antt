-- What holds of the tables and the certificate that are lent holds of those that were handed in.
use Rattle.std.proofs.Common.{◌≡◌, subst}
use Rattle.dc_cert.specs.NamedRows.{NamedRows, named_rows}
use Rattle.dc_cert.specs.declared.certificate.Certificate.{Certificate}
use Rattle.dc_tables.specs.TableRows.{TableRows}

pub handed_in : (P : TableRows → NamedRows → Type 0) (t lent_t : TableRows) (c lent_c : Certificate) → lent_t ≡ t → lent_c ≡ c → P lent_t (named_rows lent_c) → P t (named_rows c)
handed_in P t lent_t c lent_c tables certificate h =
    let Q : TableRows → Type 0 = λ t. P t (named_rows lent_c) in
    let R : Certificate → Type 0 = λ c. P t (named_rows c) in
    subst R certificate (subst Q tables h)
