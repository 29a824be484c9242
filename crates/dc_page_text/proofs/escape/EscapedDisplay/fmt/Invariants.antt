use Rattle.std.specs.Fmt.{HasWritten, IsPlainFormatter}
use Rattle.dc_page_text.specs.Text.{escaped}
use Rattle.dc_page_text.proofs.escape.EscapedDisplay.fmt.Given as goal

abbrev pub invariant-loop-letter : goal.invariant-loop-letter
invariant-loop-letter g l = IsPlainFormatter l.fn.f → HasWritten g.W.Write.write_str_gives l.fn.f (escaped l.yielded) l.f
