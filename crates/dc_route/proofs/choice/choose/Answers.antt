use Rattle.std.proofs.Common.{◌∙◌, not, refl, sym, ap}
use Rattle.dc_word.specs.Word.{copied_word, fallback_word}
use Rattle.dc_word.specs.Format.{is_usable}
use Rattle.dc_tables.specs.declared.rows.OutputLabel.{OutputLabel}
use Rattle.dc_route.specs.Choosing.{fresh_words, word_now}
use Rattle.dc_route.proofs.Choices.{words-more, step-none, step-first, step-keep, chosen-early_at, chosen-end_at}
use Rattle.dc_route.proofs.choice.choose.Goals as goal
use Rattle.dc_route.proofs.choice.choose.Goals.{in-Some+else-usable+then-is_none, in-Some+else-usable+else-is_none, in_default}

pub loop-source-init : goal.loop-source-init
unfolding fresh_words
loop-source-init c = record { first_is = refl; none_usable = refl }

pub returns-then-usable : goal.returns-then-usable
returns-then-usable c =
    let items = c.as_slice-source-items.ensures in
    let v = c.loop-source.invariant in
    let is = sym c.fresh_word.ensures ∙ c.in-Some.is in
    let good = sym c.usable.ensures ∙ c.if-usable.true in
    c.copy_as.ensures.value ∙ chosen-early_at c.args.tables.now c.args.latched.now c.args.latest.now c.args.tick c.args.label c.loop-source.source-index c.in-Some.word c.label-row.result.now c.as_slice-source-items.result.now
    c.label-row.ensures items c.loop-source-test.true v.none_usable is good

pub loop-source-preserved : goal.loop-source-preserved
loop-source-preserved c =
    let t = c.args.tables.now in
    let v = c.loop-source.invariant in
    let p = is_usable c.label-row.result.now.format in
    let more = words-more c.args.tables.now c.args.latched.now c.args.latest.now c.args.tick c.label-row.result.now.stale c.as_slice-source-items.result.now c.loop-source.source-index c.loop-source-test.true in
    elim c.match-fresh_word.branch [
      | in-Some+else-usable+then-is_none w ↦
          let r = step-first (is_usable c.label-row.result.now.format) _ _ _ c.loop-source.first more v.first_is v.none_usable w.in-Some.word (sym c.fresh_word.ensures ∙ w.in-Some.is) (sym w.usable.ensures ∙ w.if-usable.false) (w.is_none.ensures ∙ ap (λ b. not b) w.if-is_none.true) in
          record { first_is = w.first-is ∙ r.0; none_usable = r.1 }
      | in-Some+else-usable+else-is_none w ↦
          let r = step-keep (is_usable c.label-row.result.now.format) _ _ _ c.loop-source.first more v.first_is v.none_usable w.in-Some.word (sym c.fresh_word.ensures ∙ w.in-Some.is) (sym w.usable.ensures ∙ w.if-usable.false) (w.is_none.ensures ∙ ap (λ b. not b) w.if-is_none.false) in
          record { first_is = w.first-is ∙ r.0; none_usable = r.1 }
      | in_default w ↦
          let r = step-none (is_usable c.label-row.result.now.format) _ _ _ c.loop-source.first more v.first_is v.none_usable (sym c.fresh_word.ensures ∙ w.in_default.is) in
          record { first_is = w.first-is ∙ r.0; none_usable = r.1 }
    ]

pub returns-in-Some-first : goal.returns-in-Some-first
returns-in-Some-first c =
    let v = c.loop-source.invariant in
    let e = chosen-end_at c.args.tables.now c.args.latched.now c.args.latest.now c.args.tick c.args.label c.loop-source.source-index c.loop-source.first c.label-row.result.now c.as_slice-source-items.result.now
    c.label-row.ensures c.as_slice-source-items.ensures c.loop-source-test.false v.none_usable v.first_is in
    c.copy_as-in-Some-first.ensures.value ∙ ap (λ (r : OutputLabel). copied_word r.label r.sdi c.in-Some-first.word) c.label-row.ensures ∙ sym (e ∙ ap (word_now c.args.tables.now c.args.label) c.in-Some-first.is)

pub returns-in-None : goal.returns-in-None
returns-in-None c =
    let v = c.loop-source.invariant in
    let e = chosen-end_at c.args.tables.now c.args.latched.now c.args.latest.now c.args.tick c.args.label c.loop-source.source-index c.loop-source.first c.label-row.result.now c.as_slice-source-items.result.now
    c.label-row.ensures c.as_slice-source-items.ensures c.loop-source-test.false v.none_usable v.first_is in
    c.fallback.ensures.value ∙ ap (λ (r : OutputLabel). fallback_word r.label r.sdi) c.label-row.ensures ∙ sym (e ∙ ap (word_now c.args.tables.now c.args.label) c.in-None.is)
