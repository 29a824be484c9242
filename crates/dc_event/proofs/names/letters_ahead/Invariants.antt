use Rattle.std.proofs.Common.{◌≡◌, ◌*◌, ◌^◌, ◌<◌, ◌≤◌, take}
use Rattle.dc_event.specs.Names.{AreLetters, key_of}
use Rattle.dc_event.proofs.names.letters_ahead.Given as goal

abbrev pub invariant-loop-i : goal.invariant-loop-i
invariant-loop-i l =
    record {
      small : l.i ≤ 8 → l.key < 2 ^ (8 * l.i);
      letters : AreLetters (take l.i l.text);
      is : l.i ≤ 8 → l.key ≡ key_of (take l.i l.text);
    }
