-- How a trace is reported.
use Rattle.std.proofs.Common.{◌≡◌, ℕ, ◌+◌, ◌≤◌, Bool, true, false, List, [], ◌∷◌, refl, sym, ◌∙◌, ap, subst, inl, inr, Option, Some, None, IfSome, Result, Ok, Err}
use Rattle.dc_answer.specs.Answer.{Answer, Any, Ends, EndsSome, Raises, Reported, ReportsBy, WholeOrNone, nothing, sink_failures_of}
use Rattle.dc_answer.specs.Exits.{exit_of, is_answered, is_whole}
use Rattle.dc_answer.specs.Inputs.{Loads, tables_end}
use Rattle.dc_answer.specs.declared.answer.Failure.{Failure}
use Rattle.dc_answer.specs.declared.answer.Failure.TheVariants.{Memory}
use Rattle.dc_answer.specs.declared.exit.Exit.{Exit}
use Rattle.dc_answer.specs.declared.exit.Outcome.{Outcome}
use Rattle.dc_answer.specs.declared.inputs.Unloaded.TheVariants.{Refused}
use Rattle.dc_answer.specs.lemmas.Endings.{none_ends}
use Rattle.dc_answer.specs.lemmas.Reporting.{answered_whole, any_reported}
use Rattle.dc_document.specs.declared.fault.BuildError.TheVariants.{Refused as RefusedTables}
use Rattle.dc_document.specs.declared.fault.TableFault.{TableFault}
use Rattle.dc_run_trace.specs.Answer.{AnswersTrace, ReportsTrace, WritesCapture, WritesTrace, recorded, trace_answer}
use Rattle.dc_tables.specs.TableRows.{TableRows}
use Rattle.dc_toml.specs.Reading.{tables_of}

whole_or_none : (Is : Answer → Type 0) (whole : Bool) (answer : Answer) → Is answer → WholeOrNone Is whole answer
whole_or_none Is true answer h = h
whole_or_none Is false answer h = inl h

-- the tables were read
pub read_traces : (r s : Option (List ℕ)) (begin : Option ℕ) (t : TableRows) (old new : Option (List ℕ)) (result : Result Outcome Failure) → IfSome r (λ rows. Loads (tables_of rows) (Ok t))
    → IfSome s (λ text. WritesCapture t begin text old new result) → IfSome r (λ rows. IfSome s (λ text. WritesTrace begin rows text old new result))
read_traces None s begin t old new result loads writes = tt
read_traces (Some rows) None begin t old new result loads writes = tt
read_traces (Some rows) (Some text) begin t old new result loads writes =
    let answer = trace_answer t begin (recorded t begin text) in
    (answer, whole_or_none (AnswersTrace begin rows text) (is_whole result) answer (Ok t, loads, refl), writes)

-- the tables' text has a fault
pub refused_traces : (r s : Option (List ℕ)) (begin : Option ℕ) (fault : TableFault) (old new : Option (List ℕ)) (waiting : List ℕ) (result : Result Outcome Failure) → IfSome r (λ rows. Loads (tables_of rows) (Err (Refused fault)))
    → waiting ≡ [] → Ends old waiting new (tables_end fault) result → IfSome r (λ rows. IfSome s (λ text. WritesTrace begin rows text old new result))
refused_traces None s begin fault old new waiting result loads empty ends = tt
refused_traces (Some rows) None begin fault old new waiting result loads empty ends = tt
refused_traces (Some rows) (Some text) begin fault old new waiting result loads empty ends =
    (tables_end fault, whole_or_none (AnswersTrace begin rows text) (is_whole result) (tables_end fault) (Err (RefusedTables fault), loads, refl), subst (λ w. Ends old w new (tables_end fault) result) empty ends)

-- the tables' text was not read
pub failed_traces : (r s : Option (List ℕ)) (begin : Option ℕ) (failure : Failure) (old : Option (List ℕ)) → IfSome r (λ rows. IfSome s (λ text. WritesTrace begin rows text old old (Err failure)))
failed_traces None s begin failure old = tt
failed_traces (Some rows) None begin failure old = tt
failed_traces (Some rows) (Some text) begin failure old = (nothing, inr refl, none_ends old failure)

pub trace_reports : (r s : Option (List ℕ)) (begin : Option ℕ) (old mid new : Option (List ℕ)) (ended : Result Outcome Failure) (source source' sink sink' sink'' : ℕ) (exit : Exit)
    → IfSome r (λ rows. IfSome s (λ text. WritesTrace begin rows text old mid ended)) → (ended ≡ Err Memory → mid ≡ old) → Raises source source' ended
    → sink' ≡ sink + sink_failures_of ended → sink' ≤ sink'' → exit ≡ exit_of ended
    → ReportsBy ended mid new sink' sink'' exit
    → IfSome r (λ rows. IfSome s (λ text. ReportsTrace begin rows text old new source source' sink sink'' exit))
trace_reports None s begin old mid new ended source source' sink sink' sink'' exit writes quiet raises more rise is reports = tt
trace_reports (Some rows) None begin old mid new ended source source' sink sink' sink'' exit writes quiet raises more rise is reports = tt
trace_reports (Some rows) (Some text) begin old mid new ended source source' sink sink' sink'' exit (answer, answers, ends) quiet raises more rise is reports =
    let Is = AnswersTrace begin rows text in
    let whole : is_whole ended ≡ is_answered exit = sym (answered_whole ended) ∙ ap is_answered (sym is) in
    any_reported (WholeOrNone Is (is_answered exit)) old mid new ended source source' sink sink' sink'' exit (answer, subst (λ whole. WholeOrNone Is whole answer) whole answers, ends)
    (λ refused. (quiet refused, subst (λ whole. WholeOrNone Is whole nothing) (sym (ap is_whole refused) ∙ whole) (inr refl)))
    raises more rise is reports

pub trace_reported : (old mid new : Option (List ℕ)) (ended : Result Outcome Failure) (source source' sink sink' sink'' : ℕ) (exit : Exit) → EndsSome old mid ended → (ended ≡ Err Memory → mid ≡ old)
    → Raises source source' ended → sink' ≡ sink + sink_failures_of ended → sink' ≤ sink'' → exit ≡ exit_of ended
    → ReportsBy ended mid new sink' sink'' exit
    → Reported Any old new source source' sink sink'' exit
trace_reported old mid new ended source source' sink sink' sink'' exit (answer, ends) quiet raises more rise is reports =
    any_reported Any old mid new ended source source' sink sink' sink'' exit (answer, tt, ends) (λ refused. (quiet refused, tt)) raises more rise is reports

-- the first fault of the tables' text was written
pub refused_some : (old new : Option (List ℕ)) (waiting : List ℕ) (answer : Answer) (result : Result Outcome Failure) → waiting ≡ [] → Ends old waiting new answer result → EndsSome old new result
refused_some old new waiting answer result empty ends = (answer, subst (λ w. Ends old w new answer result) empty ends)
