use Rattle.std.proofs.Common.{◌++◌, ap, ◌∙◌}
use Rattle.dc_run_report.proofs.Paging.{line_held}
use Rattle.dc_run_report.proofs.sought.keep_front.Goals as goal

pub returns : goal.returns
returns c = line_held _ _ c.keep.new.self c.add.new.self c.in_ok-keep.ensures (c.in_ok-add.ensures ∙ ap (λ l. c.keep.new.self ++ l) (c.as_slice.ensures.value ∙ c.line_of-line.ensures))
