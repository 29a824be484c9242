use Rattle.std.proofs.Common.{◌≡◌, ◌<◌, ◌∙◌, ℕ, Option, length, get_or, set, sym, ap, subst, arith}
use Rattle.std.specs.Prelude.{IfSome}
use Rattle.std.specs.Vec.{with_item}
use Rattle.std.proofs.lemmas.List.{get_or_read}
use Rattle.dc_observe.specs.Labels.{gauged, no_emissions}
use Rattle.dc_observe.proofs.Sending.{all-quiet, one-sent}
use Rattle.dc_observe.proofs.labels.LabelGauges.see.Goals as goal

pub returns-in_default-clause-gauged : goal.returns-in_default-clause-gauged
returns-in_default-clause-gauged c = λ run e h short emits clock holds follows. all-quiet c.args.tables.now c.args.self.now run e (sym emits ∙ c.in_default.is) h

pub returns-clause-gauged : goal.returns-clause-gauged
returns-clause-gauged c = λ run e h short emits clock holds follows.
    let P : Option ℕ → Type 0 = λ o. IfSome o (λ x. x < length c.args.tables.now.labels) in
    let there : c.in-Some.label < length c.args.tables.now.labels = subst P c.in-Some.is c.requires.there in
    let sized : c.in-Some.label < length c.args.self.now.gauges.items = omega (arith, there, c.requires.sized) in
    let read : c.index.result.now ≡ get_or c.args.self.now.gauges.items c.in-Some.label no_emissions = get_or_read c.args.self.now.gauges.items c.in-Some.label c.index.result.now sized c.index.ensures no_emissions in
    let value : c.gauged.result ≡ gauged c.age_of-age.result c.args.tick (get_or c.args.self.now.gauges.items c.in-Some.label no_emissions) = c.gauged.ensures ∙ ap (gauged c.age_of-age.result c.args.tick) read in
    one-sent c.args.tables.now c.args.self.now (record { gauges = with_item c.args.self.now.gauges c.in-Some.label c.gauged.result }) run e c.in-Some.label c.args.tick c.age_of-age.result
    (sym emits ∙ c.in-Some.is) (c.age_of-age.ensures run e clock holds follows) clock short sized there (ap (set c.args.self.now.gauges.items c.in-Some.label) value) h
