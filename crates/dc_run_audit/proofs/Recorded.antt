-- What has been followed of a trace so far.
use Rattle.std.proofs.Common.{◌≡◌, ◌++◌, ◌+◌, ◌^◌, ℕ, ◌<◌, ◌≤◌, Bool, true, false, nat_lt, List, [], ◌∷◌, length, length-append, append-nil, refl, sym, ap, ◌∙◌, subst, arith, Option, Some, None, IfSome, Ok, Err}
use Rattle.std.specs.Prelude.{not}
use Rattle.std.proofs.lemmas.Bool.Decides.{nat_tests}
use Rattle.dc_answer.specs.declared.inputs.Unloaded.TheVariants.{Refused}
use Rattle.dc_answer.specs.lemmas.Endings.{by_text}
use Rattle.dc_tables.specs.Named.{HaveNames}
use Rattle.dc_tables.specs.TableRows.{TableRows}
use Rattle.dc_event.specs.Admissible.{IsNumbered, IsRun}
use Rattle.dc_event.specs.Reading.{IsOver, Stays, TellsEvent, event_in_front, no_more}
use Rattle.dc_event.specs.TraceText.{Trace, trace_of}
use Rattle.dc_event.specs.declared.event.Event.{Event}
use Rattle.dc_event.specs.declared.trace.LineRule.TheVariants.{LineTooLong}
use Rattle.dc_event.specs.declared.trace.TraceFault.{TraceFault}
use Rattle.dc_oracle.specs.Courses.{IsAuditCourse, TellsAudit}
use Rattle.dc_oracle.specs.declared.courses.AuditCourse.{AuditCourse}
use Rattle.dc_run.specs.Limits.{trace_limit}
use Rattle.dc_run.specs.lemmas.Numbers.{numbered_within, trace_numbered}
use Rattle.dc_run.specs.lemmas.Traces.{behind, behind_next, next, over, stayed}
use Rattle.dc_run_audit.specs.Audit.{AreFound, Finds}
use Rattle.dc_run_audit.specs.Recorded.{run_of, run_reported}
use Rattle.dc_run_audit.specs.declared.findings.Findings.{Findings}
use Rattle.dc_run_audit.specs.declared.follow.TheConstants.{MOST_EVENTS}

-- the trace is a run that the course tells, and what is left
pub record Followed (t : TableRows) (limit : ℕ) (ages : List ℕ) (from : Option (List ℕ)) (left : Option Trace) (c : AuditCourse) : Type 0 where
  pub ahead : (text : List ℕ) → from ≡ Some text → (run : List Event) × (rest : Trace) × (left ≡ Some rest) × (trace_of t limit text ≡ behind run rest) × TellsAudit t ages c run

-- ---- how many events

pub limit_small : (long : Bool) → trace_limit long ≤ 2 ^ 40
limit_small true = omega arith
limit_small false = omega arith

-- a course that tells a run has taken its events
pub course_count : (t : TableRows) (ages : List ℕ) (c : AuditCourse) → IsAuditCourse t c → (run : List Event) → TellsAudit t ages c run → c.events ≡ length run
course_count t ages c sized run tells = sym sized.budgets_count ∙ tells.budgets.count

short : (n : ℕ) → n ≤ MOST_EVENTS → nat_lt MOST_EVENTS n ≡ false
short n h = grind (arith, nat_tests)

many : (n : ℕ) → MOST_EVENTS < n → nat_lt MOST_EVENTS n ≡ true
many n h = grind (arith, nat_tests)

-- not too many
reported_short : (long : Bool) (trace : Trace) (run : List Event) (fault : Option TraceFault) → (long ≡ false → length run ≤ MOST_EVENTS) → trace ≡ behind run (no_more fault)
    → run_reported long trace ≡ run_reported true (behind run (no_more fault))
reported_short true trace run fault few is = ap (run_reported true) is
reported_short false trace run fault few is =
    let n : length (run ++ []) ≤ MOST_EVENTS = omega (arith, few refl, length-append run []) in
    ap (run_reported false) is ∙ rw (short (length (run ++ [])) n) refl

-- too many, where a long run is not asked for
reported_many : (long : Bool) (trace : Trace) (run : List Event) (e : Event) (more : Trace) → long ≡ false → MOST_EVENTS ≤ length run → trace ≡ behind run (event_in_front e more)
    → run_reported long trace ≡ Err (record { rule = LineTooLong; line = MOST_EVENTS + 1 })
reported_many true trace run e more usual all is = absurd cc
reported_many false trace run e more usual all is =
    let n : MOST_EVENTS < length (run ++ e ∷ more.events) = omega (arith, all, length-append run (e ∷ more.events)) in
    ap (run_reported false) is ∙ rw (many (length (run ++ e ∷ more.events)) n) refl

module _ (t : TableRows) (long : Bool) (ages : List ℕ) (from : Option (List ℕ)) where
  abbrev So : Option Trace → AuditCourse → Type 0
  So left c = Followed t (trace_limit long) ages from left c

  -- nothing was read
  pub followed_first : (limit : ℕ) (left : Option Trace) (c : AuditCourse) → limit ≡ trace_limit long → TellsAudit t ages c [] → ((text : List ℕ) → from ≡ Some text → left ≡ Some (trace_of t limit text)) → So left c
  followed_first limit left c at tells whole = record { ahead = λ text is. ([], trace_of t (trace_limit long) text, whole text is ∙ ap (λ n. Some (trace_of t n text)) at, refl, tells) }

  -- the source gave more
  pub followed_pulled : (left later last : Option Trace) (c : AuditCourse) → So left c → Stays left later → Stays later last → So last c
  followed_pulled left later last c s kept pulled = record {
    ahead = λ text is. (let (run, rest, at, whole, tells) = s.ahead text is in (run, rest, stayed later last rest (stayed left later rest at kept) pulled, whole, tells));
  }

  -- the next event was followed
  pub followed_next : (left later : Option Trace) (c c' : AuditCourse) (e : Event) → HaveNames t → So left c → TellsEvent left later e
      → ((run : List Event) → TellsAudit t ages c run → IsNumbered t e → TellsAudit t ages c' (run ++ e ∷ [])) → So later c'
  followed_next left later c c' e names s reported steps = record {
    ahead = λ text is. (
        let (run, rest, at, whole, tells) = s.ahead text is in
        let (more, later_is, first) = next left later rest e at reported in
        let all : trace_of t (trace_limit long) text ≡ behind (run ++ e ∷ []) more = behind_next run e (trace_of t (trace_limit long) text) rest more whole first in
        let events : (trace_of t (trace_limit long) text).events ≡ run ++ e ∷ more.events = ap (λ (r : Trace). r.events) (whole ∙ ap (behind run) first) in
        (run ++ e ∷ [], more, later_is, all, steps run tells (numbered_within t run e more.events (subst (IsRun t) events (trace_numbered t names (trace_limit long) text)))));
  }

  -- ---- exits

  -- the trace ended
  pub followed_found : (left : Option Trace) (c : AuditCourse) (f : Findings) → So left c → IsOver left None → (long ≡ false → c.events ≤ MOST_EVENTS) → ((run : List Event) → TellsAudit t ages c run → c.events ≡ length run)
      → f.budgets ≡ c.budgets.broken → f.sources ≡ c.sources.broken → f.claims ≡ c.claims.broken → IfSome from (λ text. Finds t ages (run_of long t text) (Ok f))
  followed_found left c f s ended few count b o k = by_text from (λ text. Finds t ages (run_of long t text) (Ok f)) (λ text is.
      let (run, rest, at, whole, tells) = s.ahead text is in
      let all : trace_of t (trace_limit long) text ≡ behind run (no_more None) = whole ∙ ap (behind run) (over left rest None at ended) in (
        run ++ [],
        reported_short long (trace_of t (trace_limit long) text) run None (λ usual. omega (arith, few usual, count run tells)) all,
        subst (λ r. AreFound t ages r f) (sym (append-nil run)) (record { budgets = rw b tells.budgets.place; sources = rw o tells.sources.place; claims = rw k tells.claims.place }),
      ))

  -- it has a fault
  pub followed_fault : (left : Option Trace) (c : AuditCourse) (fault : TraceFault) → So left c → IsOver left (Some fault) → (long ≡ false → c.events ≤ MOST_EVENTS) → ((run : List Event) → TellsAudit t ages c run → c.events ≡ length run)
      → IfSome from (λ text. Finds t ages (run_of long t text) (Err (Refused fault)))
  followed_fault left c fault s ended few count = by_text from (λ text. Finds t ages (run_of long t text) (Err (Refused fault))) (λ text is.
      let (run, rest, at, whole, tells) = s.ahead text is in
      let all : trace_of t (trace_limit long) text ≡ behind run (no_more (Some fault)) = whole ∙ ap (behind run) (over left rest (Some fault) at ended) in
      reported_short long (trace_of t (trace_limit long) text) run (Some fault) (λ usual. omega (arith, few usual, count run tells)) all)

  -- it has one event too many
  pub followed_many : (left later : Option Trace) (c : AuditCourse) (e : Event) → So left c → TellsEvent left later e → long ≡ false → c.events ≡ MOST_EVENTS → ((run : List Event) → TellsAudit t ages c run → c.events ≡ length run)
      → IfSome from (λ text. Finds t ages (run_of long t text) (Err (Refused (record { rule = LineTooLong; line = MOST_EVENTS + 1 }))))
  followed_many left later c e s reported usual all count = by_text from (λ text. Finds t ages (run_of long t text) (Err (Refused (record { rule = LineTooLong; line = MOST_EVENTS + 1 })))) (λ text is.
      let (run, rest, at, whole, tells) = s.ahead text is in
      let (more, later_is, first) = next left later rest e at reported in
      reported_many long (trace_of t (trace_limit long) text) run e more usual (omega (arith, all, count run tells)) (whole ∙ ap (behind run) first))
