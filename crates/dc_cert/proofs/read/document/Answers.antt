use Rattle.std.proofs.Common.{true≢false, sym, ap, ◌∙◌, Err}
use Rattle.serde_json.specs.Errors.{IsMemory}
use Rattle.serde_json.specs.View.{view}
use Rattle.dc_cert.proofs.ReadingLemmas.{document_good, document_bad}
use Rattle.dc_cert.proofs.read.document.Goals as goal

pub returns-in-Ok : goal.returns-in-Ok
returns-in-Ok c = document_good c.args.text.now (view c.in-Ok.value) c.if-text-gt-TEXT_LIMIT.false c.in-Ok.ensures.ok.0 c.in-Ok.ensures.ok.1

pub returns-else-is_memory : goal.returns-else-is_memory
returns-else-is_memory c =
    let kept : ¬ (IsMemory c.in-Err.error) = λ memory. true≢false (sym (c.is_memory.ensures.1 memory) ∙ c.if-is_memory.false) in
    document_bad c.args.text.now (c.in-Err.ensures.err kept) ∙ ap Err (sym c.at-refused.ensures)
