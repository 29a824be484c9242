use Rattle.std.proofs.Common.{List, drop, subst, sym, length, ◌+◌, ◌∷◌, [], ◌++◌}
use Rattle.dc_rules.specs.declared.keys.PlacedEntry.{PlacedEntry}
use Rattle.dc_tables.specs.declared.rows.Output.{Output}
use Rattle.dc_build.proofs.Split.{AreSplit, split_more, later_entries}
use Rattle.dc_build.specs.RowsOf.{IsOutputRow}
use Rattle.dc_build.proofs.assemble.output_rows.Goals as goal

pub loop-output-preserved : goal.loop-output-preserved
loop-output-preserved c =
    let all = c.args.entries.now in
    let n = c.loop-output.output in
    let f = c.loop-output.first in
    let part = c.index-parts-output.result in
    let own = c.entries_at-own.result.now in
    let P : List PlacedEntry → Type 0 = λ l. IsOutputRow c.args.tick_us l n part c.in_ok-output_row.field-0 in
    let Q : List PlacedEntry → Type 0 = λ l. AreSplit c.args.tick_us all c.args.parts.now (n + 1) (c.loop-output.rows.items ++ (c.in_ok-output_row.field-0 ∷ [])) l in
    let R : List Output → Type 0 = λ l. AreSplit c.args.tick_us all c.args.parts.now (n + 1) l (drop (f + length own) all) in
    let next = split_more c.args.tick_us all c.args.parts.now n c.loop-output.rows.items (drop f all) part c.in_ok-output_row.field-0 c.loop-output-test.true c.index-parts-output.is c.loop-output.invariant.0
    (subst P c.entries_at-own.ensures.own c.in_ok-output_row.ensures) in
    (subst R (sym c.in_ok-push.ensures.items) (subst Q (sym (later_entries n f all own c.entries_at-own.ensures.own)) next), c.entries_at-own.ensures.inside)
