use Rattle.std.proofs.Common.{◌≡◌, [], take}
use Rattle.std.specs.Prelude.{filter}
use Rattle.dc_word.specs.Format.{is_usable}
use Rattle.dc_route.specs.Choosing.{fresh_words, first_word}
use Rattle.dc_route.proofs.choice.choose.Given as goal

abbrev pub invariant-loop-source : goal.invariant-loop-source
invariant-loop-source l = record {
  first_is : l.first ≡ first_word (fresh_words l.tables l.latched l.latest l.tick l.row.stale (take l.source-index l.source-items));
  none_usable : filter (is_usable l.row.format) (fresh_words l.tables l.latched l.latest l.tick l.row.stale (take l.source-index l.source-items)) ≡ [];
}
