use Rattle.dc_example.specs.Example.{example_text}
use Rattle.dc_toml.specs.Reading.{tables_of}
use Rattle.dc_example.proofs.Reading.{reads}
use Rattle.dc_example.proofs.Told.{small}
use Rattle.dc_example.proofs.the_example_is_small.Goals as goal

pub returns : goal.returns
returns c = small (tables_of example_text) reads
