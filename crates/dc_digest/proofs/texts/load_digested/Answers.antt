use Rattle.dc_answer.specs.lemmas.Loading.{read_text, refused_loads}
use Rattle.dc_digest.specs.Behind.{LoadsDigested}
use Rattle.dc_digest.proofs.texts.load_digested.Goals as goal

pub returns-in-Err-clause-tables : goal.returns-in-Err-clause-tables
returns-in-Err-clause-tables g c = refused_loads _ _ c.in-Err.ensures.text

pub returns-in-Ok-clause-tables : goal.returns-in-Ok-clause-tables
returns-in-Ok-clause-tables g c = read_text _ _ _ (λ text. LoadsDigested text c.build_digested.result) c.as_slice.ensures.value c.in-Ok.ensures.text c.build_digested.ensures.tables
