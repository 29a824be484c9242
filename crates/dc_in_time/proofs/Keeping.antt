-- From ticks to microseconds.
use Rattle.std.proofs.Common.{ℕ, sym, subst}
use Rattle.dc_build.specs.RowsOf.{AreRows}
use Rattle.dc_cert.specs.Bounds.{numbers_of}
use Rattle.dc_cert.specs.NamedRows.{NamedRows}
use Rattle.dc_check.specs.Certified.{KeepsItsClaims}
use Rattle.dc_document.specs.Document.{Document}
use Rattle.dc_rules.specs.Obeys.{Obeys}
use Rattle.dc_in_time.specs.Documents.{intervals_of}
use Rattle.dc_in_time.specs.InTime.{KeepsItsClaimsInTime, AreAdmissible, AcceptedKeepTime, DocumentsRound, DocumentsKeepTime}
use Rattle.dc_spans.specs.Spans.{KeepsPace, exact_clock}
use Rattle.dc_tables.specs.TableRows.{TableRows}
use Rattle.dc_time.specs.Admissible.{IsAdmissibleInTime}
use Rattle.dc_time.specs.Claims.{ClaimsHoldInTime}
use Rattle.dc_time.specs.Laws.{SourcesKeepTicks, ClaimsKeepTime}
use Rattle.dc_time.specs.Timed.{events}

pub are_admissible : (t : TableRows) → SourcesKeepTicks t → AreAdmissible t
are_admissible t keep us clock paced fits run is = record { numbers = is.numbers; sources = keep us clock paced fits run is.timing.placed is.sources; budgets = is.budgets }

pub in_time : (t : TableRows) → SourcesKeepTicks t → ClaimsKeepTime t → (claims : NamedRows) → KeepsItsClaims t claims → KeepsItsClaimsInTime t claims
in_time t keep hold claims keeps us clock paced fits run is =
    hold us clock paced fits (numbers_of claims).ages run is.timing is.numbers (keeps (events run) (are_admissible t keep us clock paced fits run is))

pub by_documents : (d : Document) (t : TableRows) → Obeys d → AreRows d t → AcceptedKeepTime t → DocumentsRound t → ((start : ℕ) → KeepsPace (exact_clock start t.tick_us)) → DocumentsKeepTime d t
by_documents d t obeys rows keep round paced claims accepted start run is =
    let P : ℕ → Type 0 = λ tick. IsAdmissibleInTime t (intervals_of d t) (exact_clock start tick) run in
    let Q : ℕ → Type 0 = λ tick. ClaimsHoldInTime t (intervals_of d t) (numbers_of claims).ages (exact_clock start tick) run in
    subst Q rows.tick (keep claims accepted (intervals_of d t) (exact_clock start t.tick_us) (paced start) (round d obeys rows start) run (subst P (sym rows.tick) is))
