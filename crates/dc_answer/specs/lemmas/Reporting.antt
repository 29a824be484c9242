-- How an engine is reported, by how it ended.
use Rattle.std.proofs.Common.{◌≡◌, ◌≢◌, ℕ, ◌+◌, ◌-◌, ◌<◌, ◌≤◌, List, [], refl, sym, ◌∙◌, ap, subst, arith, Option, IfErr, IfOk, Result, Ok, Err, inl, inr}
use Rattle.dc_answer.specs.Answer.{Answer, Ends, IsCounted, Raises, Reports, ReportsBy, Reported, failed_by, nothing, sink_failures_of}
use Rattle.dc_answer.specs.Exits.{exit_of, is_answered, is_whole}
use Rattle.dc_answer.specs.declared.answer.Failure.{Failure}
use Rattle.dc_answer.specs.declared.answer.Failure.TheVariants.{Source, Sink, Memory}
use Rattle.dc_answer.specs.declared.exit.Exit.{Exit}
use Rattle.dc_answer.specs.declared.exit.Exit.TheVariants.{Failed}
use Rattle.dc_answer.specs.declared.exit.Outcome.{Outcome}
use Rattle.dc_answer.specs.declared.exit.Outcome.TheVariants.{Done as WasDone, Refused as WasRefused, Unreadable as WasUnreadable}
use Rattle.dc_answer.specs.lemmas.Endings.{none_ends, not_failed}

counted : (ended : Result Outcome Failure) (source source' sink sink' sink'' : ℕ) → Raises source source' ended → sink' ≡ sink + sink_failures_of ended → sink' ≤ sink''
    → exit_of ended ≡ Failed → IsCounted (failed_by ended) source source' sink sink''
counted (Ok outcome) source source' sink sink' sink'' raises more rise is = absurd (not_failed outcome is)
counted (Err Source) source source' sink sink' sink'' raises more rise is = raises
counted (Err Sink) source source' sink sink' sink'' raises more rise is = omega arith
counted (Err Memory) source source' sink sink' sink'' raises more rise is = raises

no_lines : (ended : Result Outcome Failure) (answer : Answer) → (ended ≡ Err Memory → answer.lines ≡ []) → failed_by ended ≡ Memory → answer.lines ≡ []
no_lines (Ok outcome) answer none is = absurd (cc)
no_lines (Err failure) answer none is = none (ap (λ f. let r : Result Outcome Failure = Err f in r) is)

pub reported_of : (Is : Answer → Type 0) (old mid new : Option (List ℕ)) (ended : Result Outcome Failure) (answer : Answer) (source source' sink sink' sink'' : ℕ) (exit : Exit) → Is answer
    → (ended ≡ Err Memory → answer.lines ≡ []) → Ends old [] mid answer ended → Raises source source' ended → sink' ≡ sink + sink_failures_of ended
    → sink' ≤ sink'' → exit ≡ exit_of ended
    → ReportsBy ended mid new sink' sink'' exit
    → Reported Is old new source source' sink sink'' exit
reported_of Is old mid new ended answer source source' sink sink' sink'' exit is none ends raises more rise same reports = record {
  answer = answer;
  failure = failed_by ended;
  is = is;
  reports = reports old answer sink more ends;
  counted = λ h. counted ended source source' sink sink' sink'' raises more rise (sym same ∙ h);
  memory = λ _ h. no_lines ended answer none h;
}

-- how an engine is reported that answered so, and where memory was refused left its sink as it was
pub any_reported : (Is : Answer → Type 0) (old mid new : Option (List ℕ)) (ended : Result Outcome Failure) (source source' sink sink' sink'' : ℕ) (exit : Exit) → (answer : Answer) × Is answer × Ends old [] mid answer ended
    → (ended ≡ Err Memory → (mid ≡ old) × Is nothing) → Raises source source' ended → sink' ≡ sink + sink_failures_of ended
    → sink' ≤ sink'' → exit ≡ exit_of ended
    → ReportsBy ended mid new sink' sink'' exit
    → Reported Is old new source source' sink sink'' exit
any_reported Is old mid new (Ok x) source source' sink sink' sink'' exit (answer, is, ends) quiet raises more rise same reports =
    reported_of Is old mid new (Ok x) answer source source' sink sink' sink'' exit is (λ e. absurd (cc)) ends raises more rise same reports
any_reported Is old mid new (Err Source) source source' sink sink' sink'' exit (answer, is, ends) quiet raises more rise same reports =
    reported_of Is old mid new (Err Source) answer source source' sink sink' sink'' exit is (λ e. absurd (cc)) ends raises more rise same reports
any_reported Is old mid new (Err Sink) source source' sink sink' sink'' exit (answer, is, ends) quiet raises more rise same reports =
    reported_of Is old mid new (Err Sink) answer source source' sink sink' sink'' exit is (λ e. absurd (cc)) ends raises more rise same reports
any_reported Is old mid new (Err Memory) source source' sink sink' sink'' exit some quiet raises more rise same reports =
    let (untouched, is) = quiet refl in
    reported_of Is old mid new (Err Memory) nothing source source' sink sink' sink'' exit is (λ _. refl) (subst (λ m. Ends old [] m nothing (Err Memory)) (sym untouched) (none_ends old Memory)) raises more rise same reports

-- the answer of a command is whole where its engine got to its end
pub answered_whole : (ended : Result Outcome Failure) → is_answered (exit_of ended) ≡ is_whole ended
answered_whole (Ok WasDone) = refl
answered_whole (Ok WasRefused) = refl
answered_whole (Ok WasUnreadable) = refl
answered_whole (Err failure) = refl

-- ---- an engine that judges before it writes

source_not_sink : Source ≢ Sink
source_not_sink e = cc

memory_not_sink : Memory ≢ Sink
memory_not_sink e = cc

-- failures of both sources
pub both_raised : (a a' b b' : ℕ) (result : Result Outcome Failure) → a' ≡ a + 0 → Raises b b' result → Raises (a + b) (a' + b') result
both_raised a a' b b' (Ok outcome) e h = omega arith
both_raised a a' b b' (Err Source) e h = omega arith
both_raised a a' b b' (Err Sink) e h = omega arith
both_raised a a' b b' (Err Memory) e h = omega arith

-- what failed was counted, also where the answer was not written
pub raised : (a a' : ℕ) (judged ended : Result Outcome Failure) → Raises a a' judged → IfOk ended (λ outcome. judged ≡ Ok outcome) → IfErr ended (λ e. e ≢ Sink → judged ≡ Err e) → Raises a a' ended
raised a a' judged (Ok outcome) h same other = rw same at h
raised a a' judged (Err Source) h same other = rw (other source_not_sink) at h
raised a a' judged (Err Memory) h same other = rw (other memory_not_sink) at h
raised a a' (Ok outcome) (Err Sink) h same other = omega (arith, h)
raised a a' (Err Source) (Err Sink) h same other = omega (arith, h)
raised a a' (Err Sink) (Err Sink) h same other = h
raised a a' (Err Memory) (Err Sink) h same other = omega (arith, h)
