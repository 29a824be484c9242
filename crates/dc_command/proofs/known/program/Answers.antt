use Rattle.std.proofs.lemmas.Result.{IfOk-weaker}
use Rattle.dc_command.specs.Program.{IsProgram}
use Rattle.dc_command.proofs.known.program.Goals as goal

pub returns : goal.returns
returns c =
    let decode = c.in_ok-decode.ensures in
    let p1 = c.with_command-program.ensures _ _ c.bare.ensures decode.1 in
    let p2 = c.with_command-program-2.ensures _ _ p1 c.check.ensures in
    let p3 = c.with_command-program-3.ensures _ _ p2 c.find.ensures in
    let p4 = c.with_command-program-4.ensures _ _ p3 c.survey.ensures in
    let p5 = c.with_command-program-5.ensures _ _ p4 c.trace.ensures in
    let p6 = c.with_command-program-6.ensures _ _ p5 c.replay.ensures in
    let p7 = c.with_command-program-7.ensures _ _ p6 c.audit.ensures in
    let p8 = c.with_command-program-8.ensures _ _ p7 c.observe.ensures in
    let p9 = c.with_command-program-9.ensures _ _ p8 c.bench.ensures in
    let p10 = c.with_command-program-10.ensures _ _ p9 c.network.ensures in
    let p11 = c.with_command-program-11.ensures _ _ p10 c.report.ensures in
    let p12 = c.with_command-program-12.ensures _ _ p11 c.margins.ensures in
    let p13 = c.with_command-program-13.ensures _ _ p12 c.design.ensures in
    let p14 = c.with_command-program-14.ensures _ _ p13 c.layout.ensures in
    IfOk-weaker _ _ IsProgram (λ _ is. (decode.0, is)) (c.with_command.ensures _ _ p14 c.explain.ensures)
