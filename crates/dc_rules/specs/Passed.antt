-- What a document that keeps all rules is looked up by.
use Rattle.std.specs.Prelude.{◌≡◌}
use Rattle.dc_document.specs.Document.{Document}
use Rattle.dc_rules.specs.Rules.{entries_from, bus_names, stream_names, router_names, output_names, label_names}
use Rattle.dc_rules.specs.declared.passed.Passed.{Passed}

-- the entries, the parameters and the names are the document's
pub record ArePassed (d : Document) (p : Passed) : Type 0 where
  pub entries : p.entries.items ≡ entries_from 0 d.labels
  pub parameters : p.parameters ≡ d.parameters
  pub buses : p.names.buses ≡ bus_names d
  pub streams : p.names.streams ≡ stream_names d
  pub routers : p.names.routers ≡ router_names d
  pub outputs : p.names.outputs ≡ output_names d
  pub labels : p.names.labels ≡ label_names d
