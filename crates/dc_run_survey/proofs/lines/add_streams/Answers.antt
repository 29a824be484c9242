use Rattle.std.proofs.Common.{◌<◌, ◌+◌, ◌++◌, ◌∙◌, length, ap, append-nil, arith, rules, sym}
use Rattle.dc_run_survey.specs.Lines.{bus_line, bus_lines, first_lines, parted, stream_line}
use Rattle.dc_run_survey.proofs.Parting.{count-both, lines-more, some-feed}
use Rattle.dc_run_survey.proofs.lines.add_streams.Goals as goal

pub loop-stream-init : goal.loop-stream-init
unfolding first_lines
loop-stream-init c = c.requires.buses ∙ ap parted (sym (append-nil (bus_lines c.args.tables.now c.args.survey.now)))

pub loop-stream-preserved : goal.loop-stream-preserved
loop-stream-preserved c =
    let t = c.args.tables.now in
    let w = c.args.survey.now in
    let n = c.loop-stream.stream in
    let there : n < length t.streams = search rules in
    let some : 0 < length t.buses + n = omega (arith, c.valid.ensures.streams_on_buses n there) in
    lines-more (stream_line t w) (bus_lines t w) n (length t.buses + n) c.loop-stream.page c.add.new.self c.add_stream.new.page
    (count-both (bus_line t w) (stream_line t w) (length t.buses) n) c.loop-stream.invariant
    (c.in_ok-add.ensures ∙ ap (λ l. c.loop-stream.page ++ l) (some-feed (length t.buses + n) some)) c.in_ok-add_stream.ensures
