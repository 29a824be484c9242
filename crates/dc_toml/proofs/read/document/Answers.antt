use Rattle.std.proofs.Common.{true≢false, sym, ap, ◌∙◌, Err}
use Rattle.toml.specs.Errors.{IsMemory}
use Rattle.toml.specs.View.{table_view}
use Rattle.dc_document.specs.declared.fault.TableRule.TheVariants.{NotToml}
use Rattle.dc_toml.specs.Faults.{fault_at}
use Rattle.dc_toml.proofs.Steps.{document_good, document_bad}
use Rattle.dc_toml.proofs.read.document.Goals as goal

pub returns-in-Ok : goal.returns-in-Ok
returns-in-Ok c = document_good c.args.text.now (table_view c.in-Ok.table) c.if-text-gt-TEXT_LIMIT.false c.in-Ok.ensures.ok.0 c.in-Ok.ensures.ok.1

pub returns-else-is_memory : goal.returns-else-is_memory
returns-else-is_memory c =
    let kept : ¬ (IsMemory c.in-Err.error) = λ memory. true≢false (sym (c.is_memory.ensures.1 memory) ∙ c.if-is_memory.false) in
    document_bad c.args.text.now (c.in-Err.ensures.refused kept)
    ∙ ap Err (sym (c.fault-refused.ensures ∙ ap (λ p. fault_at p NotToml) c.new.ensures))
