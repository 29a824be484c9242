use Rattle.std.proofs.Common.{◌≡◌, ◌+◌, ◌*◌, map, drop}
use Rattle.dc_event.specs.TraceText.{fields_of}
use Rattle.dc_seen.specs.Kinds.{are_words}
use Rattle.dc_seen.proofs.kind.are_words.Given as goal

abbrev pub invariant-loop-word : goal.invariant-loop-word
invariant-loop-word l =
    record {
      at : l.place ≡ 2 + 2 * l.word-index;
      rest : are_words (fields_of l.line) l.place (map (λ w. w.now) (drop l.word-index l.words)) ≡ are_words (fields_of l.line) 2 (map (λ w. w.now) l.words);
    }
