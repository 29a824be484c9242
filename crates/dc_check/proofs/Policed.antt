-- Where each bus refuses early words, nothing is asked of the sources.
use Rattle.std.proofs.Common.{List, sym, ◌∙◌}
use Rattle.dc_check.specs.Certified.{ArePoliced}
use Rattle.dc_event.specs.Admissible.{IsRun, KeepsBudgets, IsAdmissible}
use Rattle.dc_event.specs.declared.event.Event.{Event}
use Rattle.dc_tables.specs.TableRows.{TableRows, AreValid, stream_row}

pub policed_admissible : (t : TableRows) → AreValid t → ArePoliced t → (run : List Event) → IsRun t run → KeepsBudgets t run → IsAdmissible t run
policed_admissible t valid policed run numbers budgets = record {
  numbers = numbers;
  sources = record {
    streams_rest = λ s there free. absurd (cc (sym (policed (stream_row t s).bus (valid.streams_on_buses s there)) ∙ free));
    wires_rest = λ b there free. absurd (cc (sym (policed b there) ∙ free));
  };
  budgets = budgets;
}
