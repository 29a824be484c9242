use Rattle.dc_run.proofs.DecodeExits.{inside_ends}
use Rattle.dc_run.proofs.decode.end_inside.Goals as goal

pub returns-in_default-clause-bytes : goal.returns-in_default-clause-bytes
returns-in_default-clause-bytes g c = inside_ends _ _ _ _ _ _ c.in_default.len_at_least c.requires.seen (rw c.code_of.ensures.text at c.end_at.ensures.bytes)
