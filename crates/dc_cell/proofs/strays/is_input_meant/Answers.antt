use Rattle.std.proofs.Common.{◌∙◌}
use Rattle.dc_cell.specs.Strays.{is_meant}
use Rattle.dc_cell.proofs.Columns.{any_of_inputs}
use Rattle.dc_cell.proofs.strays.is_input_meant.Goals as goal

pub returns : goal.returns
returns c = c.is_meant_of_any.ensures ∙ any_of_inputs (λ column. is_meant column c.args.key.now)
