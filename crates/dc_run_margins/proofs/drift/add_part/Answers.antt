use Rattle.std.proofs.Common.{append-nil, option_map, sym}
use Rattle.dc_cert.specs.Bounds.{certificate_rows}
use Rattle.dc_run_margins.specs.Drift.{drift_line, texts_below}
use Rattle.dc_run_margins.proofs.Feeding.{texts-more}
use Rattle.dc_run_margins.proofs.drift.add_part.Goals as goal

pub loop-place-init : goal.loop-place-init
unfolding texts_below
loop-place-init c = sym (append-nil c.args.page.now)

pub loop-place-preserved : goal.loop-place-preserved
loop-place-preserved c =
    let shown = c.args.shown.now in
    texts-more (drift_line shown.json shown.written.now shown.drift (option_map (λ c. (certificate_rows c.now).ages) shown.accepted) c.args.part) c.loop-place.place c.args.page.now c.loop-place.page c.add_line.new.page
    c.loop-place.invariant c.in_ok-add_line.ensures
