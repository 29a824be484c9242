use Rattle.std.proofs.Common.{◌++◌, option_map}
use Rattle.dc_cert.specs.Bounds.{certificate_rows}
use Rattle.dc_run_margins.specs.Drift.{part_lines}
use Rattle.dc_run_margins.specs.declared.drift.DriftPart.TheVariants.{Wires, Sources, Sent}
use Rattle.dc_run_margins.proofs.Feeding.{fed-both}
use Rattle.dc_run_margins.proofs.drift.add_parts.Goals as goal

pub returns : goal.returns
returns c =
    let shown = c.args.shown.now in
    let lines = part_lines shown.json shown.written.now shown.drift (option_map (λ c. (certificate_rows c.now).ages) shown.accepted) in
    let wires = c.add_part.new.page in
    let sent = c.add_part-3.new.page in
    fed-both c.args.page.now wires sent (lines Wires) (lines Sources ++ lines Sent) c.in_ok-add_part.ensures
    (fed-both wires c.add_part-2.new.page sent (lines Sources) (lines Sent) c.in_ok-add_part-2.ensures c.in_ok-add_part-3.ensures)
