use Rattle.std.proofs.Common.{◌≡◌, sym, ap, ◌<◌, length, map, ◌∙◌, arith}
use Rattle.std.proofs.lemmas.List.{length-map}
use Rattle.dc_check.proofs.Naming.{names_agree, names_counted, names_differ, other_name, row_read, same_all, same_more}
use Rattle.dc_check.specs.Names.{names_of}
use Rattle.dc_check.specs.Placed.{member_count}
use Rattle.dc_document.specs.Names.{text_of}
use Rattle.dc_check.proofs.names.are_named.Goals as goal

pub returns-then-ne : goal.returns-then-ne
returns-then-ne g c =
    let t = c.args.tables.now in
    let name = g.T.Row.name in
    let key = c.name_of-name.result.now in
    let there : c.loop-number.number < length (names_of t c.args.list) = omega (arith, names_counted t c.args.list c.named.ensures) in
    let differ = names_differ c.ne.result _ _ _ _ c.if-ne.true c.ne.ensures (c.text.ensures.text ∙ ap text_of c.name.ensures) c.text-in-loop-number.ensures.text in
    sym (other_name (member_count t c.args.list) (map (λ row. text_of (name row)) c.args.rows.now) (names_of t c.args.list) c.loop-number.number _ key there
    (row_read name c.args.rows.now c.loop-number.number c.index-rows-number.result (omega arith) c.index-rows-number.is) c.name_of-name.ensures differ)

pub loop-number-preserved : goal.loop-number-preserved
loop-number-preserved g c =
    let t = c.args.tables.now in
    let name = g.T.Row.name in
    let key = c.name_of-name.result.now in
    let there : c.loop-number.number < length (names_of t c.args.list) = omega (arith, names_counted t c.args.list c.named.ensures) in
    let agree = names_agree c.ne.result _ _ _ _ c.if-ne.false c.ne.ensures (c.text.ensures.text ∙ ap text_of c.name.ensures) c.text-in-loop-number.ensures.text in
    same_more (map (λ row. text_of (name row)) c.args.rows.now) (names_of t c.args.list) c.loop-number.number _ key there
    (row_read name c.args.rows.now c.loop-number.number c.index-rows-number.result (omega arith) c.index-rows-number.is) c.name_of-name.ensures agree c.loop-number.invariant

pub returns : goal.returns
returns g c =
    let t = c.args.tables.now in
    let name = g.T.Row.name in
    let count = member_count t c.args.list in
    let sized : length (map (λ row. text_of (name row)) c.args.rows.now) ≡ count = length-map c.args.rows.now (λ row. text_of (name row)) ∙ omega arith in
    sym (same_all count (map (λ row. text_of (name row)) c.args.rows.now) (names_of t c.args.list) sized (names_counted t c.args.list c.named.ensures) (λ k l. c.loop-number.invariant k (omega arith)))
