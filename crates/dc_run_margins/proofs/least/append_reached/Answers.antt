use Rattle.dc_cert.specs.Bounds.{certificate_rows}
use Rattle.dc_run_margins.proofs.Feeding.{fed-both}
use Rattle.dc_run_margins.specs.Margins.{lines_behind, lines_of_first}
use Rattle.dc_run_margins.proofs.least.append_reached.Goals as goal

pub returns : goal.returns
returns c =
    let t = c.args.tables.now in
    let jobs = c.args.reached.now.jobs in
    let rows = certificate_rows c.args.reached.now.certificate in
    let told = c.args.told in
    fed-both c.args.page.now c.append_first.new.page c.append_behind.new.page (lines_of_first told jobs t rows) (lines_behind told jobs t rows) c.in_ok-append_first.ensures c.in_ok-append_behind.ensures
