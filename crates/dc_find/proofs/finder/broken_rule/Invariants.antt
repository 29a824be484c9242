use Rattle.std.proofs.Common.{ℕ, ◌<◌}
use Rattle.dc_cert.specs.Bounds.{certificate_rows}
use Rattle.dc_check.specs.Accepts.{AcceptsLabel}
use Rattle.dc_find.proofs.finder.broken_rule.Given as goal

abbrev pub invariant-loop-label : goal.invariant-loop-label
invariant-loop-label l = (x : ℕ) → x < l.label → AcceptsLabel l.tables x (certificate_rows l.certificate)
