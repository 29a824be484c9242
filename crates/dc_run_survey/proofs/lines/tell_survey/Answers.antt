use Rattle.std.proofs.Common.{◌≡◌, ◌+◌, ◌<◌, ◌++◌, ◌∙◌, IfOk, length, ap, append_assoc, arith, subst}
use Rattle.dc_run_survey.specs.Lines.{bus_line, bus_lines, fault_behind, fault_lines, parted, stream_line, stream_lines}
use Rattle.dc_run_survey.proofs.Parting.{count-both, fault-more, same-feed}
use Rattle.dc_run_survey.proofs.lines.tell_survey.Goals as goal

pub returns : goal.returns
returns c =
    let t = c.args.tables.now in
    let w = c.args.surveyed.now.survey in
    let fault = c.args.surveyed.now.fault in
    let buses = length t.buses in
    let streams = length t.streams in
    let some : 0 < streams → 0 < buses = λ l. omega (arith, c.valid.ensures.streams_on_buses 0 l) in
    let lines = bus_lines t w ++ stream_lines t w in
    let whole : parted lines ++ fault_behind buses fault ≡ parted (lines ++ fault_lines fault) =
    fault-more lines fault buses (buses + streams) (count-both (bus_line t w) (stream_line t w) buses streams) (same-feed buses streams some) in
    let same = ap (λ l. l ++ fault_behind buses fault) c.in_ok-add_streams.ensures ∙ whole ∙ ap parted (append_assoc (bus_lines t w) (stream_lines t w) (fault_lines fault)) in
    subst (λ text. IfOk c.add_fault.result (λ _. c.add_fault.new.page ≡ text)) same c.add_fault.ensures
