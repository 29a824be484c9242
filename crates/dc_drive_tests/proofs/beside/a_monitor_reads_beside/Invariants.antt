use Rattle.std.specs.Prelude.{Some}
use Rattle.dc_drive_tests.proofs.beside.a_monitor_reads_beside.Given as goal

abbrev pub ghosts-watches-L-Ledger : goal.ghosts-watches-L-Ledger
ghosts-watches-L-Ledger g a = record { name = a.blank.name; parts = a.blank.parts }

abbrev pub ghosts-watches-L-Charter : goal.ghosts-watches-L-Charter
ghosts-watches-L-Charter g a = record { certified = Some a.certified; limit = 1000000; whole = a.blank.parts }
