use Rattle.std.proofs.Common.{◌-◌, ◌+◌, sym, ap, ◌∙◌, subst, arith}
use Rattle.std.specs.List.{All}
use Rattle.dc_cert.specs.Bounds.{certificate_rows}
use Rattle.dc_margin.proofs.Placed.{input-placed, output-placed, label-placed}
use Rattle.dc_margin.specs.Lines.{IsLinePlaced, input_lines_of, output_lines_of, label_lines_of}
use Rattle.dc_margin.proofs.lines.job_lines.Goals as goal

pub returns-then-job-buses-clause-placed : goal.returns-then-job-buses-clause-placed
returns-then-job-buses-clause-placed c =
    subst (All (IsLinePlaced c.args.tables.now)) (sym (c.input_lines.ensures ∙ ap (input_lines_of c.args.job) c.input_margins-margins.ensures))
    (input-placed c.args.tables.now (certificate_rows c.args.certificate.now) c.args.job (omega arith))

pub returns-then-job-buses-2-clause-placed : goal.returns-then-job-buses-2-clause-placed
returns-then-job-buses-2-clause-placed c =
    subst (All (IsLinePlaced c.args.tables.now)) (sym (c.output_lines.ensures ∙ ap (output_lines_of (c.args.job - c.bus_count-buses.result)) c.output_margins-margins.ensures))
    (output-placed c.args.tables.now (certificate_rows c.args.certificate.now) (c.args.job - c.bus_count-buses.result) (omega arith))

pub returns-clause-placed : goal.returns-clause-placed
returns-clause-placed c =
    subst (All (IsLinePlaced c.args.tables.now)) (sym (c.label_lines.ensures ∙ ap (label_lines_of (c.args.job - (c.bus_count-buses.result + c.output_count-outputs.result))) c.label_margins-margins.ensures))
    (label-placed c.args.tables.now (certificate_rows c.args.certificate.now) c.valid.ensures (c.args.job - (c.bus_count-buses.result + c.output_count-outputs.result)) (omega arith))
