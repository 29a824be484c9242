use Rattle.std.proofs.Common.{◌+◌, List, drop, length, sym, ap, ◌∙◌, subst}
use Rattle.std.proofs.lemmas.List.{length_push}
use Rattle.toml.specs.View.{items_view}
use Rattle.dc_system_text.specs.System.{AreShort, each_at, link_at}
use Rattle.dc_system_text.specs.declared.parts.LinkText.{LinkText}
use Rattle.dc_system_text.specs.lemmas.Fronts.{front-more, short-more, with_front}
use Rattle.dc_system_text.proofs.read.links.Goals as goal

pub loop-index-preserved : goal.loop-index-preserved
loop-index-preserved c =
    let i = c.loop-index.invariant in
    let items = c.in-Ok-push.ensures.items in
    let P : List LinkText → Type 0 = λ z. AreShort z in
    record {
      said = ap (λ z. with_front z (each_at link_at (c.loop-index.index + 1) (items_view (drop (c.loop-index.index + 1) c.args.values.now)))) items
          ∙ front-more link_at c.loop-index.all.items c.loop-index.index c.args.values.now c.index-values-index.result c.in-Ok.one c.loop-index-test.true c.index-values-index.is (sym c.link_of.ensures.link ∙ c.in-Ok.is)
          ∙ i.said;
      each = ap (λ (z : List LinkText). length z) items ∙ length_push c.loop-index.all.items c.in-Ok.one ∙ ap (λ k. k + 1) i.each;
      short = subst P (sym items) (short-more c.loop-index.all.items c.in-Ok.one i.short c.in-Ok.ensures.short);
    }
