use Rattle.std.proofs.Common.{sym, ◌∙◌}
use Rattle.dc_cert.specs.NamedRows.{named_rows}
use Rattle.dc_margin.proofs.Row.{accepted-by_lines}
use Rattle.dc_margin.proofs.verdict.verdict_fault.Goals as goal

pub returns : goal.returns
returns c = record {
  exact = accepted-by_lines c.args.tables.now c.valid.ensures (named_rows c.args.certificate.now) c.requires.named c.args.lines.now c.requires.lines (sym c.is_any_negative.ensures ∙ c.if-is_any_negative.false);
  place = tt;
}
