use Rattle.std.proofs.Common.{◌≡◌, drop}
use Rattle.std.specs.List.{list_any}
use Rattle.dc_rows_kept.specs.Tests.{keeps_output}
use Rattle.dc_rows_kept.proofs.outputs.has_label.Given as goal

-- what is left decides
abbrev pub invariant-loop-label : goal.invariant-loop-label
invariant-loop-label l = list_any (keeps_output l.parts l.row) (drop l.label-index l.labels) ≡ list_any (keeps_output l.parts l.row) l.labels
