use Rattle.std.proofs.Common.{ap, ◌∙◌}
use Rattle.dc_word.specs.Word.{reversed}
use Rattle.dc_word.proofs.Fields.{reversed-mod}
use Rattle.dc_word.proofs.word.Word.label_number.Goals as goal

pub returns : goal.returns
returns c =
    c.reversed_bits.ensures ∙ reversed-mod c.self.inside.0 ∙ ap reversed c.self.view_is
