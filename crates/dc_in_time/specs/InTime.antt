-- What an accepted certificate means in microseconds: the certification theorem in time.
use Rattle.std.specs.Prelude.{ℕ, List}
use Rattle.dc_document.specs.Document.{Document}
use Rattle.dc_build.specs.RowsOf.{AreRows}
use Rattle.dc_rules.specs.Obeys.{Obeys}
use Rattle.dc_cert.specs.Bounds.{numbers_of}
use Rattle.dc_cert.specs.NamedRows.{NamedRows}
use Rattle.dc_check.specs.Accepts.{Accepts}
use Rattle.dc_event.specs.Admissible.{IsAdmissible}
use Rattle.dc_event.specs.declared.event.Event.{Event}
use Rattle.dc_in_time.specs.Documents.{intervals_of}
use Rattle.dc_spans.specs.Spans.{Clock, KeepsPace, exact_clock}
use Rattle.dc_tables.specs.TableRows.{TableRows}
use Rattle.dc_time.specs.Admissible.{IsAdmissibleInTime}
use Rattle.dc_time.specs.Claims.{ClaimsHoldInTime}
use Rattle.dc_time.specs.Intervals.{Intervals, FitsClock}
use Rattle.dc_time.specs.Timed.{events}

-- For each clock and all intervals that fit the tables, in every timed run that is admissible by them the certificate's claims hold in
-- microseconds, at each event
abbrev pub KeepsItsClaimsInTime : TableRows → NamedRows → Type 0
KeepsItsClaimsInTime t claims = (us : Intervals) (clock : Clock) → KeepsPace clock → FitsClock t us clock → (run : List (ℕ × Event)) → IsAdmissibleInTime t us clock run
    → ClaimsHoldInTime t us (numbers_of claims).ages clock run

-- what is admissible in microseconds is admissible in ticks
abbrev pub AreAdmissible : TableRows → Type 0
AreAdmissible t = (us : Intervals) (clock : Clock) → KeepsPace clock → FitsClock t us clock → (run : List (ℕ × Event)) → IsAdmissibleInTime t us clock run → IsAdmissible t (events run)

-- each certificate that is accepted for the tables keeps its claims in microseconds
abbrev pub AcceptedKeepTime : TableRows → Type 0
AcceptedKeepTime t = (claims : NamedRows) → Accepts t claims → KeepsItsClaimsInTime t claims

-- the tables of a document fit its intervals, by a clock whose ticks are of its length
abbrev pub DocumentsRound : TableRows → Type 0
DocumentsRound t = (d : Document) → Obeys d → AreRows d t → (start : ℕ) → FitsClock t (intervals_of d t) (exact_clock start t.tick_us)

-- Each certificate that is accepted for a document's tables keeps its claims in the document's own microseconds, by a clock whose ticks are
-- of its length
abbrev pub DocumentsKeepTime : Document → TableRows → Type 0
DocumentsKeepTime d t = (claims : NamedRows) → Accepts t claims → (start : ℕ) (run : List (ℕ × Event)) → IsAdmissibleInTime t (intervals_of d t) (exact_clock start d.tick_us) run
    → ClaimsHoldInTime t (intervals_of d t) (numbers_of claims).ages (exact_clock start d.tick_us) run
