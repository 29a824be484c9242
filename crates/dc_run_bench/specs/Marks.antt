-- The lines of a bench that tell how full each receive queue was.
use Rattle.std.specs.Prelude.{ℕ, Bool, true, false, List, [], ◌++◌, length, codes, decimal}
use Rattle.dc_cert.specs.Bounds.{CertificateRows, certificate_rows, input_bound}
use Rattle.dc_check.specs.Lent.{tables_of, certificate_of}
use Rattle.dc_event.specs.ReplyText.{name_at}
use Rattle.dc_event.specs.declared.event.Actor.TheVariants.{Wire}
use Rattle.dc_hub.specs.Closing.{receipts_of}
use Rattle.dc_hub.specs.Views.{ClosedView, greatest}
use Rattle.dc_script.specs.Script.{listed}
use Rattle.dc_tables.specs.TableRows.{TableRows}

-- as `mark A 1 of 2`: a bus, its mark, and the backlog that a certificate has for it
abbrev pub mark_text : TableRows → CertificateRows → (bus mark : ℕ) → List ℕ
mark_text t c bus mark = codes "mark " ++ name_at t.names.buses bus ++ codes " " ++ decimal mark ++ codes " of " ++ decimal (input_bound c bus).backlog

-- the mark of a bus: the greatest backlog that its wire was answered, 0 where none
abbrev pub mark_of : ClosedView → ℕ → ℕ
mark_of book bus = greatest (receipts_of (Wire bus) book.entries)

-- the line of each bus of a closed book, in the order of its tables
abbrev pub mark_lines : ClosedView → List (List ℕ)
mark_lines book = listed (λ bus. mark_text (tables_of book.certified) (certificate_rows (certificate_of book.certified)) bus (mark_of book bus)) (length (tables_of book.certified).buses)

-- what stands behind the four lines of a bench: these where they are asked for
abbrev pub lines_behind : Bool → ClosedView → List (List ℕ)
lines_behind true book = mark_lines book
lines_behind false book = []
