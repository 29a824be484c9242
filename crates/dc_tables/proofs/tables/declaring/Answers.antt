use Rattle.dc_tables.proofs.Placed.{found_there, none_past, none_there, only_position}
use Rattle.std.proofs.Common.{◌∙◌, ap, arith, sym}
use Rattle.std.specs.Bool.{then_some}
use Rattle.dc_tables.specs.Declares.{declares}
use Rattle.dc_tables.proofs.tables.declaring.Goals.{else-at-streams-via-then-at-streams+else-declares, else-at-streams-via-else-at-streams}
use Rattle.dc_tables.proofs.tables.declaring.Goals as goal

pub returns-then-streams-eq1-clause-first : goal.returns-then-streams-eq1-clause-first
returns-then-streams-eq1-clause-first c =
    c.then_some.ensures
    ∙ ap (λ told. then_some told 0) c.declares.ensures
    ∙ only_position (declares c.args.bus c.args.word) c.index-streams-0.result c.args.streams.now c.if-streams-eq1.true c.index-streams-0.is

pub returns-then-declares-clause-first : goal.returns-then-declares-clause-first
returns-then-declares-clause-first c =
    found_there c.args.places.now.places c.args.streams.now c.args.bus c.args.word c.of_word-at.result c.requires.placed c.requires.own c.of_word-at.ensures.label c.of_word-at.ensures.place
    c.index-streams-at.result c.if-at-streams.true c.index-streams-at.is (sym c.if-declares.ensures)

pub returns-clause-first : goal.returns-clause-first
returns-clause-first c =
    elim c.else-at-streams.branch [
      | else-at-streams-via-then-at-streams+else-declares w ↦
          none_there c.args.places.now.places c.args.streams.now c.args.bus c.args.word c.of_word-at.result c.requires.placed c.requires.own c.of_word-at.ensures.label c.of_word-at.ensures.place
          w.index-streams-at.result w.if-at-streams.true w.index-streams-at.is (sym w.if-declares.ensures)
      | else-at-streams-via-else-at-streams w ↦
          none_past c.args.places.now.places c.args.streams.now c.args.bus c.args.word c.of_word-at.result c.requires.placed c.requires.own c.of_word-at.ensures.label c.of_word-at.ensures.place
          (omega (arith, w.if-at-streams.false))
    ]
