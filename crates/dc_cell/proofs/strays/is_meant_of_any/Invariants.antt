use Rattle.std.proofs.Common.{◌≡◌, drop}
use Rattle.std.specs.List.{list_any}
use Rattle.dc_cell.specs.Strays.{is_meant}
use Rattle.dc_cell.proofs.strays.is_meant_of_any.Given as goal

-- what is left decides
abbrev pub invariant-loop-column : goal.invariant-loop-column
invariant-loop-column l = list_any (λ column. is_meant column l.key) (drop l.column-index l.columns) ≡ list_any (λ column. is_meant column l.key) l.columns
