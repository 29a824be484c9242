use Rattle.dc_spans.specs.lemmas.Scaling.{stream-scaled, wires-scaled, exact-paced}
use Rattle.dc_spans.proofs.laws.spans_become_windows.Goals as goal

pub returns : goal.returns
returns c = record { of_streams = stream-scaled; of_wires = wires-scaled; of_exact = exact-paced }
