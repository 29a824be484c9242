use Rattle.std.proofs.Common.{◌≡◌, not, drop}
use Rattle.std.specs.List.{list_any, position_from}
use Rattle.dc_rows_kept.specs.Tests.{keeps_output}
use Rattle.dc_rows_kept.proofs.outputs.place_without.Given as goal

-- what is left decides
abbrev pub invariant-loop-place : goal.invariant-loop-place
invariant-loop-place l =
    position_from (λ row. not (list_any (keeps_output l.parts row) l.labels)) l.place (drop l.place l.rows) ≡ position_from (λ row. not (list_any (keeps_output l.parts row) l.labels)) 0 l.rows
