use Rattle.std.proofs.Common.{◌≡◌, take, drop}
use Rattle.dc_event.specs.TraceText.{fields_of}
use Rattle.dc_seen.proofs.Splitting.{onto_first}
use Rattle.dc_seen.proofs.fields.first_space.Given as goal

abbrev pub invariant-loop-i : goal.invariant-loop-i
invariant-loop-i l = fields_of l.text ≡ onto_first (take l.i l.text) (fields_of (drop l.i l.text))
