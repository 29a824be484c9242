use Rattle.std.proofs.Common.{◌≡◌, ◌++◌, ◌∷◌, []}
use Rattle.std.specs.Prelude.{slice_index}
use Rattle.dc_cert.specs.Bounds.{certificate_rows}
use Rattle.dc_device.specs.Lines.{spelled}
use Rattle.dc_run_bench.specs.Marks.{mark_text}
use Rattle.dc_script.specs.Script.{listed}
use Rattle.dc_run_bench.proofs.marks.append_lines.Given as goal

abbrev pub invariant-loop-bus : goal.invariant-loop-bus
invariant-loop-bus l =
    l.page ++ 10 ∷ [] ≡ (l.initial.page ++ 10 ∷ []) ++ spelled (listed (λ bus. mark_text l.tables (certificate_rows l.certificate) bus (slice_index l.marks bus)) l.bus)
