use Rattle.dc_cert.proofs.ReadingLemmas.{name_found}
use Rattle.dc_cert.proofs.keys.spelled.Goals as goal

pub returns-in-Some : goal.returns-in-Some
returns-in-Some c = name_found c.args.place _ _ c.in-Some.name c.as_bytes.ensures.value c.in-Some.ensures
