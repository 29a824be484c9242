use Rattle.std.proofs.Common.{sym, ap, ◌∙◌}
use Rattle.std.proofs.lemmas.Iterator.Adapters.{position_from-zero}
use Rattle.dc_sheet.specs.Texts.{is_line_end, line_until}
use Rattle.dc_sheet.proofs.text.first_line.Goals as goal

pub returns-in-Some : goal.returns-in-Some
returns-in-Some c =
    let end = sym c.in-Some.is ∙ c.line_end.ensures.value ∙ sym (position_from-zero is_line_end c.args.text.now) in
    ap (line_until c.args.text.now) end

pub returns-in-None : goal.returns-in-None
returns-in-None c =
    let end = sym c.in-None.is ∙ c.line_end.ensures.value ∙ sym (position_from-zero is_line_end c.args.text.now) in
    ap (line_until c.args.text.now) end
