use Rattle.std.proofs.Common.{◌≡◌, ◌*◌, ◌^◌, ◌<◌, take}
use Rattle.dc_event.specs.Names.{AreLetters, key_of}
use Rattle.dc_event.proofs.names.key_of_name.Given as goal

abbrev pub invariant-loop-letter : goal.invariant-loop-letter
invariant-loop-letter l =
    record {
      small : l.key < 2 ^ (8 * l.letter-index);
      letters : AreLetters (take l.letter-index l.name);
      is : l.key ≡ key_of (take l.letter-index l.name);
    }
