use Rattle.std.proofs.Common.{arith, refl, sym, ◌∙◌, ap}
use Rattle.dc_event.specs.TraceText.{number_named}
use Rattle.dc_capture.proofs.Naming.{named_there}
use Rattle.dc_capture.proofs.buses.guess_of.Goals as goal

pub returns : goal.returns
returns c = λ names is. (
  omega arith,
  ap (number_named names) c.bytes_of.ensures ∙ sym is,
  named_there names c.args.name.now c.args.bus is,
)

pub returns-then-name-gt-NAME_LIMIT : goal.returns-then-name-gt-NAME_LIMIT
returns-then-name-gt-NAME_LIMIT c = λ names is. (omega arith, refl, tt)
