use Rattle.dc_page_text.proofs.Texts.{escaped-harmless}
use Rattle.dc_page_text.proofs.laws.no_text_breaks_out.Goals as goal

pub returns : goal.returns
returns c = escaped-harmless
