use Rattle.std.proofs.Common.{◌∙◌}
use Rattle.dc_cell.specs.Titles.{is_title}
use Rattle.dc_cell.proofs.Columns.{any_of_inputs}
use Rattle.dc_cell.proofs.strays.is_input_title.Goals as goal

pub returns : goal.returns
returns c = c.is_title_of_any.ensures ∙ any_of_inputs (λ column. is_title column c.args.key.now)
