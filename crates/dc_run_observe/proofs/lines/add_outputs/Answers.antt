use Rattle.std.proofs.Common.{◌≡◌, ◌<◌, ◌+◌, ◌++◌, ◌∙◌, length, ap, append-nil, sym}
use Rattle.dc_cert.specs.Bounds.{certificate_rows}
use Rattle.dc_run_observe.specs.Lines.{input_line, input_lines, output_line}
use Rattle.dc_run_survey.specs.Lines.{feed_behind, first_lines, parted}
use Rattle.dc_run_survey.proofs.Parting.{count-both, lines-more}
use Rattle.dc_run_observe.proofs.lines.add_outputs.Goals as goal

pub loop-output-init : goal.loop-output-init
unfolding first_lines
loop-output-init c = λ run h. c.requires.inputs run h ∙ ap parted (sym (append-nil (input_lines c.args.tables.now (certificate_rows c.args.certificate.now) run)))

pub loop-output-preserved : goal.loop-output-preserved
loop-output-preserved c = λ run h.
    let t = c.args.tables.now in
    let rows = certificate_rows c.args.certificate.now in
    let n = c.loop-output.output in
    lines-more (output_line t rows run) (input_lines t rows run) n (length t.buses + n) c.loop-output.page c.add_feed.new.page c.add_output.new.page
    (count-both (input_line t rows run) (output_line t rows run) (length t.buses) n) (c.loop-output.invariant run h)
    (c.in_ok-add_feed.ensures ∙ ap (λ k. c.loop-output.page ++ feed_behind (k + n)) c.bus_count-before.ensures) (c.in_ok-add_output.ensures run h)
