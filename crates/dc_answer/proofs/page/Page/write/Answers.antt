use Rattle.std.proofs.Common.{sym}
use Rattle.std.proofs.lemmas.Result.{err_from_is_err_and}
use Rattle.dc_answer.specs.lemmas.Pages.{page_cut, page_line, page_written}
use Rattle.dc_answer.proofs.page.Page.write.Goals as goal

pub returns-in_err-line_of-clause-bytes : goal.returns-in_err-line_of-clause-bytes
returns-in_err-line_of-clause-bytes g c =
    let p = err_from_is_err_and c.from_residual.result c.from_residual.ensures.1 in
    page_cut _ _ _ _ _ _ p.0 (page_line _ _ _ _ _ (sym c.self.view_is) c.as_slice.ensures.value c.as_slice-2.ensures.value) p.1 c.in_err-line_of.ensures.bytes.0

pub returns-clause-bytes : goal.returns-clause-bytes
returns-clause-bytes g c =
    page_written _ _ _ _ _ _ _ _ (page_line _ _ _ _ _ (sym c.self.view_is) c.as_slice.ensures.value c.as_slice-2.ensures.value) c.in_ok-line_of.ensures.bytes c.flush.ensures.bytes
