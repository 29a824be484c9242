use Rattle.dc_toml.specs.Reading.{tables_of}
use Rattle.dc_answer.specs.Inputs.{LoadsWritten}
use Rattle.dc_answer.specs.lemmas.Loading.{read_text, refused_written}
use Rattle.dc_answer.proofs.inputs.load_written.Goals as goal

pub returns-in-Err-clause-tables : goal.returns-in-Err-clause-tables
returns-in-Err-clause-tables g c = refused_written _ _ c.in-Err.ensures.text

pub returns-in-Ok-clause-tables : goal.returns-in-Ok-clause-tables
returns-in-Ok-clause-tables g c = read_text _ _ _ (λ text. LoadsWritten (tables_of text) c.build_written.result) c.as_slice.ensures.value c.in-Ok.ensures.text c.build_written.ensures.tables
