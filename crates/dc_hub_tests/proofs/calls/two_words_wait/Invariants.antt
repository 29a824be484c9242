use Rattle.std.specs.Prelude.{Some}
use Rattle.dc_hub_tests.proofs.calls.two_words_wait.Given as goal

abbrev pub ghosts-two_words-L-Ledger : goal.ghosts-two_words-L-Ledger
ghosts-two_words-L-Ledger g a = record { name = a.blank.name; parts = a.blank.parts }

abbrev pub ghosts-two_words-L-Charter : goal.ghosts-two_words-L-Charter
ghosts-two_words-L-Charter g a = record { certified = Some a.certified; limit = 16; whole = a.blank.parts }
