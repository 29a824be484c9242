use Rattle.std.proofs.Common.{◌∙◌}
use Rattle.dc_cert.specs.NamedRows.{named_rows}
use Rattle.dc_run.proofs.Finding.{text_kept}
use Rattle.dc_run.proofs.find.keep_certificate.Goals as goal

pub returns-in-Ok-clause-kept : goal.returns-in-Ok-clause-kept
returns-in-Ok-clause-kept c = text_kept (named_rows c.args.certificate.now) _ _ c.keep_line.result (c.as_bytes.ensures.value ∙ c.in-Ok.ensures.text) c.keep_line.ensures.kept
