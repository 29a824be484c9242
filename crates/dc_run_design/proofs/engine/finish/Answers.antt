use Rattle.dc_run_design.proofs.engine.finish.Goals as goal

pub returns-clause-finishes : goal.returns-clause-finishes
returns-clause-finishes g c =
    let said = c.say_page-ended.ensures in
    let report = c.report.ensures in
    record {
      ended = c.say_page-ended.result;
      mid = g.K.Sink.state c.say_page-ended.new.sink;
      ends = said.bytes;
      same = said.same;
      other = said.failure;
      more = said.count;
      rise = report.rise;
      is = report.exit;
      reports = report.reports;
    }
