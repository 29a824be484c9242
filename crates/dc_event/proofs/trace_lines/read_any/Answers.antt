use Rattle.std.proofs.Common.{◌≡◌, [], arith}
use Rattle.std.proofs.lemmas.Bool.Decides.{nat_tests}
use Rattle.std.proofs.lemmas.List.{nil_from_length}
use Rattle.dc_event.proofs.TraceSteps.{held_read}
use Rattle.dc_event.proofs.trace_lines.read_any.Goals as goal

pub returns-in-Some : goal.returns-in-Some
returns-in-Some c =
    let none : c.args.line.now.items ≡ [] = nil_from_length _ (grind (arith, nat_tests)) in
    held_read c.args.tables.now c.args.reader.now c.pass.new.self c.args.line.now.items c.in-Some.held.now c.read_line-read.result
    none c.in-Some.ensures c.pass.ensures.bytes c.pass.ensures.room c.read_line-read.ensures
