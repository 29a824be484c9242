use Rattle.std.specs.Prelude.{slice_index}
use Rattle.dc_cert.specs.Bounds.{certificate_rows}
use Rattle.dc_run_bench.proofs.Marking.{line-more}
use Rattle.dc_run_bench.specs.Marks.{mark_text}
use Rattle.dc_run_bench.proofs.marks.append_lines.Goals as goal

pub loop-bus-preserved : goal.loop-bus-preserved
loop-bus-preserved c =
    line-more (λ bus. mark_text c.args.tables.now (certificate_rows c.args.certificate.now) bus (slice_index c.args.marks.now bus)) c.loop-bus.bus c.args.page.now c.loop-bus.page c.append_mark.new.page
    c.loop-bus.invariant c.in_ok-append_mark.ensures
