use Rattle.dc_run_bench.proofs.Marking.{marks-told}
use Rattle.dc_run_bench.proofs.marks.append_marks.Goals as goal

pub returns : goal.returns
returns c =
    marks-told c.args.closed.now c.certified-certified.result.now c.tables-tables.result.now c.certificate.result.now c.marks-marks.result c.as_slice.result.now c.certified-certified.ensures
    c.tables-tables.ensures c.certificate.ensures c.as_slice.ensures c.valid.ensures.few_buses c.marks-marks.ensures c.args.page.now c.append_lines.new.page c.append_lines.result c.append_lines.ensures
