use Rattle.std.proofs.Common.{◌≡◌, ◌∙◌, None, sym, subst}
use Rattle.dc_cert.specs.NamedRows.{named_rows}
use Rattle.dc_check.specs.Accepts.{Accepts}
use Rattle.dc_check.specs.Verdict.{verdict_of}
use Rattle.dc_tables.specs.TableRows.{TableRows}
use Rattle.dc_ways.proofs.member.Member.of_verdict.Goals as goal

pub new-requires : goal.new-requires
new-requires c =
    let P : TableRows → Type 0 = λ t. verdict_of t (named_rows c.args.certificate) ≡ None → Accepts t (named_rows c.args.certificate) in
    subst P c.tables.ensures (c.no_fault_is_acceptance.ensures (named_rows c.args.certificate)).0 (sym c.requires ∙ c.in-None.is)
