-- What was judged before it is written: from one text to the next, and how it is reported.
use Rattle.std.proofs.Common.{◌≡◌, ◌≢◌, ℕ, ◌+◌, ◌≤◌, ◌++◌, List, [], ◌∷◌, refl, sym, ◌∙◌, ap, subst, Option, IfErr, IfOk, Result, Ok, Err, inl, inr}
use Rattle.dc_answer.specs.Answer.{Answer, Any, Ends, Raises, Reported, ReportsBy, WholeOrNone, judged_answer, nothing, one_line, sink_failures_of}
use Rattle.dc_answer.specs.Exits.{exit_of, is_answered, is_whole}
use Rattle.dc_answer.specs.Judging.{Keeps, Says}
use Rattle.dc_answer.specs.declared.answer.Failure.{Failure}
use Rattle.dc_answer.specs.declared.answer.Failure.TheVariants.{Source, Sink, Memory}
use Rattle.dc_answer.specs.declared.exit.Exit.{Exit}
use Rattle.dc_answer.specs.declared.exit.Outcome.{Outcome}
use Rattle.dc_answer.specs.lemmas.Reporting.{answered_whole, raised, reported_of}

-- an answer of one line
pub one_said : (Is : Answer → Type 0) (text line : List ℕ) (outcome : Outcome) → text ≡ line → Is (one_line line outcome) → Says Is text outcome
one_said Is text line outcome same is = (one_line line outcome, is, ap (λ l. l ++ 10 ∷ []) same, refl)

-- what a page keeps of one answer it keeps of another
pub kept_as : {E : Type 0} (Is Such : Answer → Type 0) (text : List ℕ) (result : Result Outcome E) → ((answer : Answer) → Is answer → Such answer) → Keeps Is text result → Keeps Such text result
kept_as Is Such text (Ok outcome) f (answer, is, same, ends) = (answer, f answer is, same, ends)
kept_as Is Such text (Err e) f h = tt

-- whatever it keeps is some answer
pub some_kept : {E : Type 0} (text : List ℕ) (result : Result Outcome E) → Keeps Any text result
some_kept text (Ok outcome) = (one_line text outcome, tt, refl, refl)
some_kept text (Err e) = tt

-- the answer, where there is one
abbrev chosen : (Is : Answer → Type 0) (text : List ℕ) (judged : Result Outcome Failure) → Keeps Is text judged → Answer
chosen Is text (Ok outcome) (answer, is, same, ends) = answer
chosen Is text (Err failure) h = nothing

module _ (Is : Answer → Type 0) (text : List ℕ) (old mid new : Option (List ℕ)) where
  -- it was written
  written : (judged ended : Result Outcome Failure) (h : Keeps Is text judged) → Ends old [] mid (judged_answer text judged) ended → IfOk ended (λ outcome. judged ≡ Ok outcome)
      → IfErr ended (λ e. e ≢ Sink → judged ≡ Err e) → Ends old [] mid (chosen Is text judged h) ended
  written (Ok outcome) (Ok ended) (answer, is, same, ends) (appends, was) kept other =
      rw (sym same) (appends, was ∙ ends)
  written (Ok outcome) (Err Source) h ends kept other = let no : Ok outcome ≡ Err Source = other (λ e. cc) in absurd (cc)
  written (Ok outcome) (Err Memory) h ends kept other = let no : Ok outcome ≡ Err Memory = other (λ e. cc) in absurd (cc)
  written (Ok outcome) (Err Sink) (answer, is, same, e) ends kept other = rw (sym same) ends
  written (Err failure) (Ok ended) h ends kept other = absurd (cc)
  written (Err failure) (Err f) h ends kept other = ends

  none_left : (judged : Result Outcome Failure) (h : Keeps Is text judged) (ended : Result Outcome Failure) → IfErr ended (λ e. e ≢ Sink → judged ≡ Err e) → ended ≡ Err Memory → (chosen Is text judged h).lines ≡ []
  none_left (Err failure) h ended other is = refl
  none_left (Ok outcome) h ended other is = let no : Ok outcome ≡ Err Memory = (rw is at other) (λ e. cc) in absurd (cc)

  answered : (judged ended : Result Outcome Failure) (h : Keeps Is text judged) → IfOk ended (λ outcome. judged ≡ Ok outcome) → WholeOrNone Is (is_whole ended) (chosen Is text judged h)
  answered (Ok outcome) (Ok ended) (answer, is, same, ends) kept = is
  answered (Ok outcome) (Err f) (answer, is, same, ends) kept = inl is
  answered (Err failure) (Ok ended) h kept = absurd (cc)
  answered (Err failure) (Err f) h kept = inr refl

  -- what was judged was written, and what failed was reported
  pub texts_reported : (judged ended : Result Outcome Failure) (a a' sink sink' sink'' : ℕ) (exit : Exit) → Keeps Is text judged → Raises a a' judged
      → Ends old [] mid (judged_answer text judged) ended → IfOk ended (λ outcome. judged ≡ Ok outcome) → IfErr ended (λ e. e ≢ Sink → judged ≡ Err e)
      → sink' ≡ sink + sink_failures_of ended → sink' ≤ sink'' → exit ≡ exit_of ended → ReportsBy ended mid new sink' sink'' exit
      → Reported (WholeOrNone Is (is_answered exit)) old new a a' sink sink'' exit
  texts_reported judged ended a a' sink sink' sink'' exit h raises ends kept other more rise is reports =
      let answer : Answer = chosen Is text judged h in
      let whole : is_whole ended ≡ is_answered exit = sym (answered_whole ended) ∙ ap is_answered (sym is) in
      let so : WholeOrNone Is (is_answered exit) answer = subst (λ b. WholeOrNone Is b answer) whole (answered judged ended h kept) in
      reported_of (WholeOrNone Is (is_answered exit)) old mid new ended answer a a' sink sink' sink'' exit so (none_left judged h ended other) (written judged ended h ends kept other)
      (raised a a' judged ended raises kept other) more rise is reports

-- whatever the sources give: what is reported is some answer
pub reported_any : (Is : Answer → Type 0) (old new : Option (List ℕ)) (a a' sink sink' : ℕ) (exit : Exit) → Reported Is old new a a' sink sink' exit → Reported Any old new a a' sink sink' exit
reported_any Is old new a a' sink sink' exit r = record { answer = r.answer; failure = r.failure; is = tt; reports = r.reports; counted = r.counted; memory = r.memory }
