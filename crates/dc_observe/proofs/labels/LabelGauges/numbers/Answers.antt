use Rattle.std.proofs.Common.{◌≡◌, ◌<◌, ◌-◌, ◌∙◌, max, length, get_or, sym, ap, subst, arith}
use Rattle.std.proofs.lemmas.List.{get_or_read}
use Rattle.dc_observe.specs.Carried.{or_zero}
use Rattle.dc_observe.specs.Labels.{IsLabelGauge, no_emissions}
use Rattle.dc_observe.specs.declared.labels.LabelGauge.{LabelGauge}
use Rattle.dc_observe.proofs.Sending.{numbers-is}
use Rattle.dc_observe.proofs.labels.LabelGauges.numbers.Goals as goal

pub returns : goal.returns
returns c = λ run h holds.
    let sized : c.args.label < length c.args.self.now.gauges.items = omega (arith, c.requires.there, c.requires.sized) in
    let read : c.index-gauge.result.now ≡ get_or c.args.self.now.gauges.items c.args.label no_emissions = get_or_read c.args.self.now.gauges.items c.args.label c.index-gauge.result.now sized c.index-gauge.ensures no_emissions in
    let P : LabelGauge → Type 0 = λ g. IsLabelGauge c.args.tables.now c.args.label run g in
    let since : c.saturating_sub-since.result ≡ c.tick.result - or_zero c.index-gauge.result.now.last = c.saturating_sub-since.ensures ∙ ap (λ n. c.tick.result - n) c.or_zero.ensures in
    numbers-is c.args.tables.now c.args.label c.tick.result c.max.result run c.index-gauge.result.now (subst P (sym read) (h c.args.label c.requires.there)) (c.tick.ensures ∙ holds.clock)
    (c.max.ensures ∙ ap (max c.index-gauge.result.now.greatest) since)
