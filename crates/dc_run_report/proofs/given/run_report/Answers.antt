use Rattle.dc_run_report.proofs.given.run_report.Goals as goal

pub returns : goal.returns
returns g c =
    let told = c.run_report_of.ensures in
    record {
      reports = told.reports;
      reported = told.reported;
      asks_tables = told.asks_tables;
      asks_certificate = told.asks_certificate;
      order = told.order;
      left = told.left;
      quiet = told.quiet;
    }
