use Rattle.std.proofs.Common.{get_or, sym, ap, ◌∙◌}
use Rattle.dc_tables.specs.declared.rows.Stream.{Stream}
use Rattle.dc_ways.specs.Members.{link_of}
use Rattle.dc_ways.specs.lemmas.Steps.{over-elsewhere}
use Rattle.dc_ways.proofs.longest.way_over.Goals as goal

pub returns-then-stream-link : goal.returns-then-stream-link
returns-then-stream-link c =
    sym (over-elsewhere c.args.from.now c.args.to.now (link_of c.args.link.now) (λ y. get_or c.args.ways.now y 0) c.args.stream (λ same. c.if-stream-link.true (ap (λ (s : Stream). s.bus) c.stream.ensures ∙ same)))
