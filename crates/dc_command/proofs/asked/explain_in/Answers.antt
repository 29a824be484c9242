use Rattle.std.proofs.Common.{codes, refl, true, false}
use Rattle.clap.specs.Words.{found_of}
use Rattle.dc_command.proofs.Reading.{all_given, code_given, flag_given}
use Rattle.dc_command.proofs.asked.explain_in.Goals as goal

pub returns-in_ok-code-in-Some : goal.returns-in_ok-code-in-Some
returns-in_ok-code-in-Some c =
    let found = found_of c.args.matches.now in
    let set = flag_given found (codes "all") false c.if-all.ensures.none c.if-all.ensures.value c.if-all.ensures.other in
    (refl, code_given found (codes "CODE") (codes "all") _ _ c.in-Some.ensures set c.in_ok-code-in-Some.ensures)

pub returns-then-all-2 : goal.returns-then-all-2
returns-then-all-2 c =
    let found = found_of c.args.matches.now in
    let set = flag_given found (codes "all") true c.if-all-2.ensures.none c.if-all-2.ensures.value c.if-all-2.ensures.other in
    (refl, all_given found (codes "CODE") (codes "all") c.in-None.ensures set)
