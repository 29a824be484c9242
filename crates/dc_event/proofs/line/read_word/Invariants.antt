use Rattle.std.proofs.Common.{◌+◌, ◌≤◌, ◌*◌, ◌^◌, drop}
use Rattle.dc_event.specs.WordText.{number_behind}
use Rattle.dc_event.proofs.HexValues.{Reads}
use Rattle.dc_event.proofs.line.read_word.Given as goal

abbrev pub invariant-loop-c : goal.invariant-loop-c
invariant-loop-c l =
    record {
      fits : l.n + 2 ^ 32 ≤ 2 ^ 32 * 2 ^ (4 * l.c-index);
      reads : Reads l.n l.c-index (drop l.c-index l.text) (number_behind 0 l.text);
    }
