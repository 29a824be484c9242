use Rattle.std.proofs.Common.{sym, ap, ◌∙◌}
use Rattle.dc_word.specs.Format.{is_usable}
use Rattle.dc_tables.specs.TableRows.{label_row}
use Rattle.dc_tables.specs.declared.rows.OutputLabel.{OutputLabel}
use Rattle.dc_oracle.proofs.Judging.{any-reported}
use Rattle.dc_oracle.proofs.sent_word.uses_any.Goals as goal

pub returns : goal.returns
returns c = λ now f clock is.
    any-reported c.args.tables.now c.args.label now c.args.choice.now c.any_good.result is
    (sym (c.usable.ensures ∙ ap (λ (r : OutputLabel). is_usable r.format c.word_for.result) c.label.ensures ∙ ap (is_usable (label_row c.args.tables.now c.args.label).format) c.word_for.ensures) ∙ c.if-usable.false)
    (c.any_good.ensures now f clock)
