use Rattle.std.proofs.Common.{◌≡◌, [], arith}
use Rattle.std.proofs.lemmas.Bool.Decides.{nat_tests}
use Rattle.std.proofs.lemmas.List.{nil_from_length}
use Rattle.dc_event.proofs.TraceSteps.{event_read}
use Rattle.dc_event.proofs.trace_lines.read_next.Goals as goal

pub returns-in-Some : goal.returns-in-Some
returns-in-Some c =
    let none : c.args.line.now.items ≡ [] = nil_from_length _ (grind (arith, nat_tests)) in
    event_read c.args.names.now c.args.reader.now c.pass.new.self c.args.line.now.items c.in-Some.event c.in-Some.count
    none c.in-Some.ensures c.pass.ensures.bytes c.pass.ensures.room
