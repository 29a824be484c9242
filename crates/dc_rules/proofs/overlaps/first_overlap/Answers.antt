use Rattle.std.proofs.Common.{take, ◌∙◌, sym, subst, List}
use Rattle.dc_document.specs.declared.parts.StreamPart.{StreamPart}
use Rattle.dc_rules.specs.Rules.{overlap}
use Rattle.dc_rules.proofs.Doubled.{doubled_at, doubled_step, take_more}
use Rattle.dc_rules.proofs.Meeting.{known_overlaps, known_more, KnowsAll}
use Rattle.dc_rules.proofs.overlaps.first_overlap.Goals as goal

pub returns-then-overlap : goal.returns-then-overlap
returns-then-overlap c =
    let past = take c.loop-i.i c.args.streams.now in
    let s = c.index-streams-i.result in
    doubled_at overlap c.args.streams.now c.loop-i.i s c.loop-i-test.true c.index-streams-i.is
    (sym (known_overlaps s past c.loop-i.known.labels.keys c.loop-i.known.exact.keys c.loop-i.invariant.0) ∙ sym c.overlap.ensures ∙ c.if-overlap.true)
    ∙ c.loop-i.invariant.1

pub loop-i-preserved : goal.loop-i-preserved
loop-i-preserved c =
    let past = take c.loop-i.i c.args.streams.now in
    let s = c.index-streams-i.result in
    let none = sym (known_overlaps s past c.loop-i.known.labels.keys c.loop-i.known.exact.keys c.loop-i.invariant.0) ∙ sym c.overlap.ensures ∙ c.if-overlap.false in
    let P : List StreamPart → Type 0 = λ l. KnowsAll l c.add.new.self.labels.keys c.add.new.self.exact.keys in (
      subst P (sym (take_more c.args.streams.now c.loop-i.i s c.loop-i-test.true c.index-streams-i.is)) (rw (c.in_ok-add.ensures.labels, c.in_ok-add.ensures.exact) (known_more past c.loop-i.known.labels.keys c.loop-i.known.exact.keys s c.loop-i.invariant.0)),
      doubled_step overlap c.args.streams.now c.loop-i.i s c.loop-i-test.true c.index-streams-i.is none ∙ c.loop-i.invariant.1,
    )
