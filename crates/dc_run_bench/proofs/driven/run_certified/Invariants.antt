use Rattle.std.specs.Prelude.{Some}
use Rattle.dc_hub.specs.declared.limits.TheConstants.{LONGEST_TRACE}
use Rattle.dc_run_bench.proofs.driven.run_certified.Given as goal

abbrev pub ghosts-run_hub-L-Ledger : goal.ghosts-run_hub-L-Ledger
ghosts-run_hub-L-Ledger g a = record { name = a.blank.name; parts = a.blank.parts }

abbrev pub ghosts-run_hub-L-Charter : goal.ghosts-run_hub-L-Charter
ghosts-run_hub-L-Charter g a = record { certified = Some a.certified; limit = LONGEST_TRACE; whole = a.blank.parts }
