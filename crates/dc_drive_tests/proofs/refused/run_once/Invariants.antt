use Rattle.std.specs.Prelude.{Some}
use Rattle.dc_drive_tests.proofs.refused.run_once.Given as goal

abbrev pub ghosts-open_once-L-Ledger : goal.ghosts-open_once-L-Ledger
ghosts-open_once-L-Ledger g a = record { name = a.blank.name; parts = a.blank.parts }

abbrev pub ghosts-open_once-L-Charter : goal.ghosts-open_once-L-Charter
ghosts-open_once-L-Charter g a = record { certified = Some a.certified; limit = 1000; whole = a.blank.parts }
