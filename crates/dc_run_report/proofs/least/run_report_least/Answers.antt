use Rattle.dc_run_report.proofs.least.run_report_least.Goals as goal

pub returns : goal.returns
returns g c =
    let told = c.run_report_least_of.ensures in
    record {
      reports = told.reports;
      reported = told.reported;
      asks = told.asks;
      left = told.left;
      quiet = told.quiet;
    }
