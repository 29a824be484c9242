use Rattle.dc_build.proofs.Telling.{written_tells}
use Rattle.dc_build.proofs.read.read_written.Goals as goal

pub returns : goal.returns
returns c = written_tells _ _ c.build.result c.in_ok-parts.ensures c.build.ensures.verdict c.build.ensures.parts c.build.ensures.rows
