use Rattle.std.specs.Prelude.{Some}
use Rattle.dc_hub_tests.proofs.runs.answers.Given as goal

abbrev pub ghosts-answers_by-L-Ledger : goal.ghosts-answers_by-L-Ledger
ghosts-answers_by-L-Ledger g a = record { name = a.blank.name; parts = a.blank.parts }

abbrev pub ghosts-answers_by-L-Charter : goal.ghosts-answers_by-L-Charter
ghosts-answers_by-L-Charter g a = record { certified = Some a.certified; limit = a.limit; whole = a.blank.parts }
