use Rattle.std.proofs.Common.{◌∷◌, ◌++◌, ap, ◌∙◌}
use Rattle.dc_document.specs.Names.{text_of}
use Rattle.dc_event.specs.ReplyText.{name_at}
use Rattle.dc_ways.specs.Members.{ways_in}
use Rattle.dc_run_network.specs.Lines.{way_text}
use Rattle.dc_run_network.specs.lemmas.Feeds.{label-more}
use Rattle.dc_run_network.proofs.ways.add_labels.Goals as goal

pub loop-label-preserved : goal.loop-label-preserved
loop-label-preserved c =
    let page = c.loop-label.page in
    let name = text_of c.args.name in
    let label = name_at c.args.tables.now.names.labels c.loop-label.label in
    label-more c.args.name c.args.tables.now (ways_in c.args.rows.now c.args.i) c.loop-label.label c.args.page.now c.loop-label.page c.add_way.new.page c.loop-label.invariant
    (c.in_ok-add_way.ensures
    ∙ ap (λ t. page ++ 10 ∷ way_text t c.text-in-loop-label.result.now c.way_at-us.result) c.text.ensures.text
    ∙ ap (λ t. page ++ 10 ∷ way_text name t c.way_at-us.result) (c.text-in-loop-label.ensures.text ∙ ap text_of c.label_name.ensures)
    ∙ ap (λ us. page ++ 10 ∷ way_text name label us) c.way_at-us.ensures)
