use Rattle.std.proofs.Common.{ℕ, ◌++◌, length, ap, ◌∙◌}
use Rattle.std.proofs.lemmas.List.{get_or_default}
use Rattle.dc_system_text.specs.System.{ConcentratorRow}
use Rattle.dc_tables.specs.TableRows.{TableRows}
use Rattle.dc_ways.specs.Members.{ways_in}
use Rattle.dc_run_network.specs.Lines.{accepted_text, fed, label_lines, name_of_row, no_row}
use Rattle.dc_run_network.specs.lemmas.Feeds.{ways-more}
use Rattle.dc_run_network.proofs.ways.tell_ways.Goals as goal

pub loop-i-preserved : goal.loop-i-preserved
loop-i-preserved c =
    let page = c.loop-i.page in
    let i = c.loop-i.i in
    let w : ℕ → ℕ = ways_in c.args.rows.now c.loop-i.i in
    let t = c.tables_at.result.now in
    let named = c.name-name.ensures ∙ ap (λ (c : ConcentratorRow). c.name) (c.index-concentrators-i.is ∙ get_or_default c.args.concentrators.now c.loop-i.i c.index-concentrators-i.result no_row c.loop-i-test.true) in
    ways-more c.args.concentrators.now c.args.members.now c.args.rows.now c.loop-i.i (accepted_text (length c.args.concentrators.now) c.args.links) c.loop-i.page c.add_labels.new.page c.loop-i.invariant
    (c.in_ok-add_labels.ensures
    ∙ ap (λ n. page ++ fed (label_lines n c.tables_at.result.now w (length c.tables_at.result.now.labels))) named
    ∙ ap (λ (t : TableRows). page ++ fed (label_lines (name_of_row c.args.concentrators.now c.loop-i.i) t w (length t.labels))) c.tables_at.ensures)
