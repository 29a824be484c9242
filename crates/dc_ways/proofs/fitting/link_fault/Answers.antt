use Rattle.std.proofs.Common.{length, ap, ◌∙◌, subst, arith}
use Rattle.dc_build.specs.Written.{WrittenRows}
use Rattle.dc_document.specs.Document.{Document}
use Rattle.dc_tables.specs.TableRows.{TableRows}
use Rattle.dc_ways.specs.Fitting.{HasEnds, SpeedsMeet}
use Rattle.dc_ways.specs.Members.{link_of, member_of}
use Rattle.dc_ways.specs.lemmas.Finding.{streams-more, all-fit}
use Rattle.dc_ways.proofs.fitting.link_fault.Goals as goal

pub loop-stream-preserved : goal.loop-stream-preserved
loop-stream-preserved c = streams-more (member_of c.args.from.now) (member_of c.args.to.now) (link_of c.args.link.now) c.loop-stream.stream c.loop-stream.invariant c.in_default.ensures

pub returns : goal.returns
returns c =
    let F : TableRows → Type 0 = λ t. HasEnds t c.tables-2.result.now (link_of c.args.link.now) in
    let T : TableRows → Type 0 = λ t. HasEnds c.args.from.now.written.tables t (link_of c.args.link.now) in
    let ends = subst T c.tables-2.ensures (subst F c.tables.ensures (c.has_ends.ensures.0 c.if-not-has_ends.false)) in
    let P : Document → Type 0 = λ d. SpeedsMeet d c.parts-2.result.now (link_of c.args.link.now) in
    let Q : Document → Type 0 = λ d. SpeedsMeet c.args.from.now.written.parts d (link_of c.args.link.now) in
    let one = c.parts.ensures ∙ ap (λ (w : WrittenRows). w.parts) c.written.ensures in
    let other = c.parts-2.ensures ∙ ap (λ (w : WrittenRows). w.parts) c.written-2.ensures in
    let streams = ap (λ (t : TableRows). length t.streams) c.tables-3.ensures in
    record {
      speeds = subst Q other (subst P one (c.speeds_meet.ensures.0 c.if-not-speeds_meet.false));
      fits = all-fit (member_of c.args.from.now) (member_of c.args.to.now) (link_of c.args.link.now) ends.0 ends.1
          (λ r there. c.loop-stream.invariant r (omega (arith, there, c.loop-stream-test.false, c.stream_count-stream-end.ensures, streams)));
    }
