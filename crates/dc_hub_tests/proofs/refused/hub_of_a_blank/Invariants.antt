use Rattle.std.specs.Prelude.{Some}
use Rattle.dc_hub_tests.proofs.refused.hub_of_a_blank.Given as goal

abbrev pub ghosts-hub_once-L-Ledger : goal.ghosts-hub_once-L-Ledger
ghosts-hub_once-L-Ledger g a = record { name = a.blank.name; parts = a.blank.parts }

abbrev pub ghosts-hub_once-L-Charter : goal.ghosts-hub_once-L-Charter
ghosts-hub_once-L-Charter g a = record { certified = Some a.certified; limit = 16; whole = a.blank.parts }
