use Rattle.std.proofs.Common.{◌≡◌, ◌++◌, option_map}
use Rattle.dc_cert.specs.Bounds.{certificate_rows}
use Rattle.dc_run_margins.specs.Drift.{drift_line, texts_below}
use Rattle.dc_run_margins.specs.Margins.{fed}
use Rattle.dc_run_margins.proofs.drift.add_part.Given as goal

abbrev pub invariant-loop-place : goal.invariant-loop-place
invariant-loop-place l =
    let ages = option_map (λ c. (certificate_rows c.now).ages) l.shown.accepted in
    l.page ≡ l.initial.page ++ fed (texts_below (drift_line l.shown.json l.shown.written.now l.shown.drift ages l.part) l.place)
