use Rattle.std.proofs.Common.{◌≡◌, ◌<◌, ◌+◌, ◌++◌, ◌∙◌, length, length-append, ap, append-nil, arith, sym}
use Rattle.dc_cert.specs.Bounds.{certificate_rows}
use Rattle.dc_run_observe.specs.Lines.{input_line, input_lines, label_line, output_line, output_lines}
use Rattle.dc_run_survey.specs.Lines.{feed_behind, first_lines, parted}
use Rattle.dc_run_survey.proofs.Parting.{count-both, first-count, lines-more}
use Rattle.dc_run_observe.proofs.lines.add_labels.Goals as goal

pub loop-label-init : goal.loop-label-init
unfolding first_lines
loop-label-init c = λ run h.
    let t = c.args.tables.now in
    let rows = certificate_rows c.args.certificate.now in
    c.requires.others run h ∙ ap parted (sym (append-nil (input_lines t rows run ++ output_lines t rows run)))

pub loop-label-preserved : goal.loop-label-preserved
loop-label-preserved c = λ run h.
    let t = c.args.tables.now in
    let rows = certificate_rows c.args.certificate.now in
    let n = c.loop-label.label in
    let before = input_lines t rows run ++ output_lines t rows run in
    let few : length (before ++ first_lines (label_line t rows run) n) ≡ length t.buses + length t.outputs + n = omega (
      arith,
      length-append before (first_lines (label_line t rows run) n),
      count-both (input_line t rows run) (output_line t rows run) (length t.buses) (length t.outputs),
      first-count (label_line t rows run) n,
    ) in
    lines-more (label_line t rows run) before n (length t.buses + length t.outputs + n) c.loop-label.page c.add_feed.new.page c.add_label.new.page few (c.loop-label.invariant run h)
    (c.in_ok-add_feed.ensures ∙ ap (λ k. c.loop-label.page ++ feed_behind (k + n)) c.before_labels-before.ensures) (c.in_ok-add_label.ensures run h)
