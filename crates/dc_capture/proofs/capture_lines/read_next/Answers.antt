use Rattle.std.proofs.Common.{◌≡◌, [], arith}
use Rattle.std.proofs.lemmas.Bool.Decides.{nat_tests}
use Rattle.std.proofs.lemmas.List.{nil_from_length}
use Rattle.dc_capture.proofs.CaptureSteps.{word_read}
use Rattle.dc_capture.proofs.capture_lines.read_next.Goals as goal

pub returns-in-Some-clause-reads : goal.returns-in-Some-clause-reads
returns-in-Some-clause-reads c =
    let none : c.args.line.now.items ≡ [] = nil_from_length _ (grind (arith, nat_tests)) in
    word_read c.args.buses.now c.args.latest c.args.reader.now c.pass.new.self c.args.line.now.items c.in-Some.word c.in-Some.count
    none c.in-Some.ensures.holds c.pass.ensures.bytes c.pass.ensures.room
