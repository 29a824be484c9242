use Rattle.std.proofs.Common.{ℕ, ◌<◌, length, arith, ap, ◌∙◌, sym, List, subst}
use Rattle.dc_bound.specs.Frame.{Offsets}
use Rattle.dc_tables.specs.contracts.tables.Tables.{the_view}
use Rattle.dc_tables.specs.TableRows.{TableRows, output_cap, offsets}
use Rattle.dc_tables.specs.declared.rows.Output.{Output}
use Rattle.dc_tables.proofs.BoundsMade.{output_read, offsets_read, offsets_fit, offsets_count, output_is}
use Rattle.dc_tables.proofs.tables.Tables.output_bound.Goals as goal

pub new-requires-clause-framed : goal.new-requires-clause-framed
new-requires-clause-framed c =
    let there : c.args.output < length (the_view c.self.inside).outputs = omega (arith, ap (λ (t : TableRows). length t.outputs) c.self.view_is, c.requires) in
    let row = output_read (the_view c.self.inside) c.args.output c.index-row.result.now there c.index-row.ensures in
    let own = offsets_read (the_view c.self.inside) c.args.output c.self.inside.offsets.items c.index-own.result.now c.self.invariant.1 there c.index-own.ensures in
    let P : List ℕ → Type 0 = λ l. Offsets c.index-row.result.now.frame l in
    let Q : Output → Type 0 = λ r. Offsets r.frame (offsets (the_view c.self.inside) c.args.output) in
    subst P (sym (c.as_slice.ensures ∙ own)) (subst Q (sym row) (offsets_fit (the_view c.self.inside) c.self.invariant.2.valid c.args.output there))

pub new-requires-clause-short : goal.new-requires-clause-short
new-requires-clause-short c =
    let there : c.args.output < length (the_view c.self.inside).outputs = omega (arith, ap (λ (t : TableRows). length t.outputs) c.self.view_is, c.requires) in
    let row = output_read (the_view c.self.inside) c.args.output c.index-row.result.now there c.index-row.ensures in
    omega (arith, ap (λ (r : Output). r.frame) row, c.self.invariant.2.valid.frames_short c.args.output there)

pub new-requires-clause-few : goal.new-requires-clause-few
new-requires-clause-few c =
    let there : c.args.output < length (the_view c.self.inside).outputs = omega (arith, ap (λ (t : TableRows). length t.outputs) c.self.view_is, c.requires) in
    let own = offsets_read (the_view c.self.inside) c.args.output c.self.inside.offsets.items c.index-own.result.now c.self.invariant.1 there c.index-own.ensures in
    omega (arith, ap (λ (l : List ℕ). length l) (c.as_slice.ensures ∙ own), offsets_count (the_view c.self.inside) c.self.invariant.2.valid c.args.output there, c.self.invariant.2.valid.few_entries c.args.output there)

pub returns : goal.returns
returns c = λ d.
    let there : c.args.output < length (the_view c.self.inside).outputs = omega (arith, ap (λ (t : TableRows). length t.outputs) c.self.view_is, c.requires) in
    let row = output_read (the_view c.self.inside) c.args.output c.index-row.result.now there c.index-row.ensures in
    let own = offsets_read (the_view c.self.inside) c.args.output c.self.inside.offsets.items c.index-own.result.now c.self.invariant.1 there c.index-own.ensures in
    c.new.ensures.cap d
    ∙ output_is (the_view c.self.inside) c.args.output d _ c.index-row.result.now (c.as_slice.ensures ∙ own) row
    ∙ ap (λ (t : TableRows). output_cap t c.args.output d) c.self.view_is
