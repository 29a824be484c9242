use Rattle.dc_document.proofs.Ascii.{name-is_utf8, utf8-is_ok}
use Rattle.dc_document.proofs.name.Name.as_str.Goals as goal

pub unwrap-requires : goal.unwrap-requires
unwrap-requires c = utf8-is_ok c.text.result.now _ _ c.from_utf8.result c.from_utf8.ensures.cases (name-is_utf8 c.text.result.now c.text.ensures.spelled)
