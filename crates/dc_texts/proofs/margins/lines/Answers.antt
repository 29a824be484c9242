use Rattle.std.proofs.Common.{◌≡◌, Some, ap, rules, true}
use Rattle.dc_answer.specs.Exits.{is_answered}
use Rattle.dc_run_margins.specs.Margins.{AnswersMargins}
use Rattle.dc_texts.proofs.Printed.{written_from}
use Rattle.dc_texts.specs.Margins.{without_options}
use Rattle.dc_texts.proofs.margins.lines.Goals as goal

pub returns : goal.returns
returns c =
    let whole : is_answered c.run_margins_told-exit.result ≡ true = search rules in
    written_from (AnswersMargins without_options c.args.tables.now c.args.certificate.now) c.into_text.result.items _ _ _ _ _ _ c.run_margins_told-exit.result c.new-sink.ensures.text c.into_text.ensures whole
    (c.run_margins_told-exit.ensures.reports c.args.tables.now c.args.certificate.now (ap (λ b. Some b.now) c.new-rows.ensures.bytes) (ap (λ b. Some b.now) c.new-claims.ensures.bytes))
