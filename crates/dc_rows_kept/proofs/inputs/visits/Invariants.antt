use Rattle.std.proofs.Common.{◌≡◌, drop}
use Rattle.std.specs.List.{list_any}
use Rattle.std.specs.Str.{bytes_eq}
use Rattle.dc_rows_kept.proofs.inputs.visits.Given as goal

-- what is left decides
abbrev pub invariant-loop-name : goal.invariant-loop-name
invariant-loop-name l = list_any (λ name. bytes_eq name l.bus) (drop l.name-index l.names) ≡ list_any (λ name. bytes_eq name l.bus) l.names
