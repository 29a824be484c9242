use Rattle.std.proofs.Common.{◌≡◌, ◌++◌, map, take}
use Rattle.dc_run_margins.specs.Objects.{margin_told}
use Rattle.dc_run_margins.specs.Margins.{fed}
use Rattle.dc_run_margins.proofs.margins.append_lines.Given as goal

abbrev pub invariant-loop-own : goal.invariant-loop-own
invariant-loop-own l = l.page ≡ l.initial.page ++ fed (map (margin_told l.told l.tables) (take l.own-index l.lines))
