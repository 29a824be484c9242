-- What a holder of an accepted certificate lends.
use Rattle.std.specs.Arc.{arc_value}
use Rattle.dc_cert.specs.declared.certificate.Certificate.{Certificate}
use Rattle.dc_check.specs.declared.certified.Certified.{Certified}
use Rattle.dc_tables.specs.TableRows.{TableRows}

-- the tables that were handed in
abbrev pub tables_of : Certified → TableRows
tables_of c = arc_value c.tables

-- the certificate that was handed in
abbrev pub certificate_of : Certified → Certificate
certificate_of c = c.certificate
