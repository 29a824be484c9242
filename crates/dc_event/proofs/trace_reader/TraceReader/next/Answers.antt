use Rattle.std.proofs.Common.{◌+◌, ap, sym, ◌∙◌}
use Rattle.dc_event.specs.Reading.{Reading}
use Rattle.dc_event.proofs.TraceNext.{same_failures}
use Rattle.dc_event.proofs.trace_reader.TraceReader.next.Goals as goal

pub returns-in-Some-clause-count : goal.returns-in-Some-clause-count
returns-in-Some-clause-count g c =
    c.loop-reported.invariant.count
    ∙ ap (λ n. c.args.self.now.failed + n)
    (sym (same_failures c.args.self.now.lines.stopped c.loop-reported.self-inside.lines.stopped c.advance.new.self.stopped c.in-Some.reported
    c.in-Some.ensures.more c.in-Some.ensures.line (λ stop is. ap (λ (r : Reading). r.stopped) (rw is at c.in-Some.ensures.again).1 ∙ sym is)))
