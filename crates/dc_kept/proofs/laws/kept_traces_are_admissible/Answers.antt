use Rattle.dc_kept.proofs.Tracing.{kept-sources}
use Rattle.dc_kept.proofs.laws.kept_traces_are_admissible.Goals as goal

pub returns : goal.returns
returns c = λ us timings are from fits capture order all there keeps. record {
  numbers = c.traces_are_numbered.ensures from capture there;
  sources = kept-sources c.args.tables.now c.valid.ensures c.spans_become_windows.ensures c.traces_bring_the_capture.ensures us timings are from fits capture order all keeps;
  budgets = c.traces_keep_budgets.ensures from capture;
}
