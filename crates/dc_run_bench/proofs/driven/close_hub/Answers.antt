use Rattle.std.proofs.Common.{◌≤◌, IfSome, length, sym, subst}
use Rattle.dc_answer.specs.Judging.{Keeps}
use Rattle.dc_run_bench.proofs.Roles.{closed_driven, unclosed}
use Rattle.dc_run_bench.specs.Bench.{AnswersRun}
use Rattle.dc_hub.specs.Closing.{all_seats}
use Rattle.dc_run_bench.proofs.driven.close_hub.Goals as goal

pub judge_book-requires-clause-fits : goal.judge_book-requires-clause-fits
judge_book-requires-clause-fits g c = subst (λ n. length c.in-Ok.closed.entries ≤ n) c.requires.limit c.in-Ok.ensures.same.1

pub judge_book-requires-clause-driven : goal.judge_book-requires-clause-driven
judge_book-requires-clause-driven g c =
    closed_driven g.L.Charter.certified c.in-Ok.closed c.args.ticks (all_seats c.args.seats.wires.items c.args.seats.routers.items c.args.seats.outputs.items c.args.seats.clock)
    c.in-Ok.ensures.same.0 c.requires.roles c.in-Ok.ensures.ok.0 c.in-Ok.ensures.ok.1

pub returns-in-Ok-clause-answer : goal.returns-in-Ok-clause-answer
returns-in-Ok-clause-answer g c = subst (λ o. IfSome o (λ x. Keeps (AnswersRun x c.args.ticks c.args.marks) c.judge_book.new.page c.judge_book.result)) (sym c.in-Ok.ensures.same.0) c.judge_book.ensures.answer

pub refuse_hub-requires : goal.refuse_hub-requires
refuse_hub-requires g c =
    unclosed g.L.Charter.certified g.L.Charter.limit c.args.ticks c.in-Err.ensures.err.0 (all_seats c.args.seats.wires.items c.args.seats.routers.items c.args.seats.outputs.items c.args.seats.clock) _
    c.requires.limit c.in-Err.ensures.err.1 c.in-Err.ensures.err.3
