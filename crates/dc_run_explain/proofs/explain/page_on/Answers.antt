use Rattle.dc_run_explain.proofs.Paging.{page_said}
use Rattle.dc_run_explain.proofs.explain.page_on.Goals as goal

pub returns : goal.returns
returns c = page_said _
