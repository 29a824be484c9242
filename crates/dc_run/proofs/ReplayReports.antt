-- How a replay is reported.
use Rattle.std.proofs.Common.{◌≡◌, ℕ, ◌+◌, ◌-◌, ◌<◌, ◌≤◌, Bool, true, false, List, [], refl, sym, ◌∙◌, ap, subst, inl, inr, Option, Some, None, IfOk, IfSome, Result, Ok, Err}
use Rattle.dc_tables.specs.TableRows.{TableRows}
use Rattle.dc_document.specs.declared.fault.BuildError.TheVariants.{Refused as RefusedTables}
use Rattle.dc_document.specs.declared.fault.TableFault.{TableFault}
use Rattle.dc_toml.specs.Reading.{tables_of}
use Rattle.dc_answer.specs.Answer.{Answer, Any, Ends, EndsSome, Raises, ReportsBy, Reported, nothing, sink_failures_of}
use Rattle.dc_answer.specs.Inputs.{Loads, tables_end}
use Rattle.dc_answer.specs.Exits.{exit_of, is_answered, is_whole}
use Rattle.dc_answer.specs.declared.exit.Exit.{Exit}
use Rattle.dc_answer.specs.declared.exit.Outcome.{Outcome}
use Rattle.dc_answer.specs.lemmas.Endings.{none_ends}
use Rattle.dc_answer.specs.lemmas.Reporting.{answered_whole, any_reported}
use Rattle.dc_run.specs.Replay.{AnswersTexts, IsPrompt, ReplayAnswers, ReportsReplay, ShowsTrace, WritesReplay, WritesTrace}
use Rattle.dc_answer.specs.declared.answer.Failure.{Failure}
use Rattle.dc_answer.specs.declared.answer.Failure.TheVariants.{Memory}
use Rattle.dc_answer.specs.declared.inputs.Unloaded.TheVariants.{Refused}

replay_either : (limit : ℕ) (all : Bool) (tables text : List ℕ) (whole : Bool) (answer : Answer) → AnswersTexts limit all tables text whole answer → ReplayAnswers limit all tables text whole answer
replay_either limit all tables text true answer h = h
replay_either limit all tables text false answer h = inl h

-- the tables were read
pub read_replays : (r s : Option (List ℕ)) (limit : ℕ) (all : Bool) (t : TableRows) (old new : Option (List ℕ)) (result : Result Outcome Failure) → IfSome r (λ rows. Loads (tables_of rows) (Ok t))
    → IfSome s (λ text. WritesTrace t limit all text old new result) → IfSome r (λ rows. IfSome s (λ text. WritesReplay limit all rows text old new result))
read_replays None s limit all t old new result loads writes = tt
read_replays (Some rows) None limit all t old new result loads writes = tt
read_replays (Some rows) (Some text) limit all t old new result loads (answer, replays, ends) =
    (answer, replay_either limit all rows text (is_whole result) answer (Ok t, loads, replays), ends)

pub read_prompt : (r s : Option (List ℕ)) (limit : ℕ) (all : Bool) (t : TableRows) (old seen : Option (List ℕ)) → IfSome r (λ rows. Loads (tables_of rows) (Ok t)) → IfSome s (λ text. ShowsTrace t limit all text old seen)
    → IfSome r (λ rows. IfSome s (λ text. IsPrompt limit all rows text old seen))
read_prompt None s limit all t old seen loads shows = tt
read_prompt (Some rows) None limit all t old seen loads shows = tt
read_prompt (Some rows) (Some text) limit all t old seen loads shows = (t, loads, shows)

-- the tables' text has a fault
pub refused_replays : (r s : Option (List ℕ)) (limit : ℕ) (all : Bool) (fault : TableFault) (old new : Option (List ℕ)) (waiting : List ℕ) (result : Result Outcome Failure) → IfSome r (λ rows. Loads (tables_of rows) (Err (Refused fault)))
    → waiting ≡ [] → Ends old waiting new (tables_end fault) result → IfSome r (λ rows. IfSome s (λ text. WritesReplay limit all rows text old new result))
refused_replays None s limit all fault old new waiting result loads empty ends = tt
refused_replays (Some rows) None limit all fault old new waiting result loads empty ends = tt
refused_replays (Some rows) (Some text) limit all fault old new waiting result loads empty ends =
    (tables_end fault, replay_either limit all rows text (is_whole result) (tables_end fault) (Err (RefusedTables fault), loads, refl), subst (λ w. Ends old w new (tables_end fault) result) empty ends)

-- the tables' text was not read
pub failed_replays : (r s : Option (List ℕ)) (limit : ℕ) (all : Bool) (failure : Failure) (old : Option (List ℕ)) → IfSome r (λ rows. IfSome s (λ text. WritesReplay limit all rows text old old (Err failure)))
failed_replays None s limit all failure old = tt
failed_replays (Some rows) None limit all failure old = tt
failed_replays (Some rows) (Some text) limit all failure old = (nothing, inr refl, none_ends old failure)

pub replay_reports : (r s : Option (List ℕ)) (limit : ℕ) (all : Bool) (old mid new : Option (List ℕ)) (ended : Result Outcome Failure) (source source' sink sink' sink'' : ℕ) (exit : Exit)
    → IfSome r (λ rows. IfSome s (λ text. WritesReplay limit all rows text old mid ended)) → (ended ≡ Err Memory → mid ≡ old) → Raises source source' ended
    → sink' ≡ sink + sink_failures_of ended → sink' ≤ sink'' → exit ≡ exit_of ended
    → ReportsBy ended mid new sink' sink'' exit
    → IfSome r (λ rows. IfSome s (λ text. ReportsReplay limit all rows text old new source source' sink sink'' exit))
replay_reports None s limit all old mid new ended source source' sink sink' sink'' exit writes quiet raises more rise is reports = tt
replay_reports (Some rows) None limit all old mid new ended source source' sink sink' sink'' exit writes quiet raises more rise is reports = tt
replay_reports (Some rows) (Some text) limit all old mid new ended source source' sink sink' sink'' exit (answer, answers, ends) quiet raises more rise is reports =
    let whole : is_whole ended ≡ is_answered exit = sym (answered_whole ended) ∙ ap is_answered (sym is) in
    any_reported (ReplayAnswers limit all rows text (is_answered exit)) old mid new ended source source' sink sink' sink'' exit (answer, subst (λ whole. ReplayAnswers limit all rows text whole answer) whole answers, ends)
    (λ refused. (quiet refused, subst (λ whole. ReplayAnswers limit all rows text whole nothing) (sym (ap is_whole refused) ∙ whole) (inr refl)))
    raises more rise is reports

pub replay_reported : (old mid new : Option (List ℕ)) (ended : Result Outcome Failure) (source source' sink sink' sink'' : ℕ) (exit : Exit) → EndsSome old mid ended → (ended ≡ Err Memory → mid ≡ old)
    → Raises source source' ended → sink' ≡ sink + sink_failures_of ended → sink' ≤ sink'' → exit ≡ exit_of ended
    → ReportsBy ended mid new sink' sink'' exit
    → Reported Any old new source source' sink sink'' exit
replay_reported old mid new ended source source' sink sink' sink'' exit (answer, ends) quiet raises more rise is reports =
    any_reported Any old mid new ended source source' sink sink' sink'' exit (answer, tt, ends) (λ refused. (quiet refused, tt)) raises more rise is reports

-- the first fault of the tables' text was written
pub refused_some : (old new : Option (List ℕ)) (waiting : List ℕ) (answer : Answer) (result : Result Outcome Failure) → waiting ≡ [] → Ends old waiting new answer result → EndsSome old new result
refused_some old new waiting answer result empty ends = (answer, subst (λ w. Ends old w new answer result) empty ends)
