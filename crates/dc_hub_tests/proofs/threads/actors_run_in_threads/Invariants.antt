use Rattle.std.specs.Prelude.{Some}
use Rattle.dc_hub_tests.proofs.threads.actors_run_in_threads.Given as goal

abbrev pub ghosts-run_all-L-Ledger : goal.ghosts-run_all-L-Ledger
ghosts-run_all-L-Ledger g a = record { name = a.blank.name; parts = a.blank.parts }

abbrev pub ghosts-run_all-L-Charter : goal.ghosts-run_all-L-Charter
ghosts-run_all-L-Charter g a = record { certified = Some a.certified; limit = 1000000; whole = a.blank.parts }
