use Rattle.std.proofs.Common.{◌≡◌, ◌+◌, ◌≤◌, length, drop}
use Rattle.dc_event.specs.TraceText.{fields_of}
use Rattle.dc_seen.proofs.fields.count_fields.Given as goal

abbrev pub invariant-loop-c : goal.invariant-loop-c
invariant-loop-c l =
    record {
      few : l.count ≤ l.c-index + 1;
      counted : l.count + length (fields_of (drop l.c-index l.line)) ≡ length (fields_of l.line) + 1;
    }
