use Rattle.std.proofs.Common.{◌≡◌, drop}
use Rattle.std.specs.List.{list_any}
use Rattle.dc_cell.specs.Titles.{is_title}
use Rattle.dc_cell.proofs.strays.is_title_of_any.Given as goal

-- what is left decides
abbrev pub invariant-loop-column : goal.invariant-loop-column
invariant-loop-column l = list_any (λ column. is_title column l.key) (drop l.column-index l.columns) ≡ list_any (λ column. is_title column l.key) l.columns
