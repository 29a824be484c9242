use Rattle.std.specs.Prelude.{Some}
use Rattle.dc_drive_tests.proofs.drives.runs.Given as goal

abbrev pub ghosts-drives-L-Ledger : goal.ghosts-drives-L-Ledger
ghosts-drives-L-Ledger g a = record { name = a.blank.name; parts = a.blank.parts }

abbrev pub ghosts-drives-L-Charter : goal.ghosts-drives-L-Charter
ghosts-drives-L-Charter g a = record { certified = Some a.certified; limit = a.trial.limit; whole = a.blank.parts }
