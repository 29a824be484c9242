use Rattle.std.proofs.Common.{sym, ◌∙◌}
use Rattle.std.proofs.lemmas.Iterator.Adapters.{position_from-zero}
use Rattle.dc_cell.specs.Digits.{is_mark}
use Rattle.dc_cell.proofs.digits.mark_at.Goals as goal

pub returns-clause-value : goal.returns-clause-value
returns-clause-value c = c.place_of.ensures.value ∙ sym (position_from-zero is_mark c.args.text.now)
