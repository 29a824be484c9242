-- What the yes of `check` says of two files.
use Rattle.std.proofs.Common.{◌≡◌, ◌⊎◌, ℕ, Bool, true, false, List, refl, sym, ◌∙◌, ap, subst, Option, Some, None, Result, Ok, Err, inl, inr}
use Rattle.std.specs.Io.KnownBytes.{Appends}
use Rattle.dc_answer.specs.Answer.{Answer}
use Rattle.dc_answer.specs.Exits.{exit_with}
use Rattle.dc_answer.specs.Threads.{ReportsThreads}
use Rattle.dc_answer.specs.declared.exit.Exit.{Exit}
use Rattle.dc_answer.specs.declared.exit.Exit.TheVariants.{Done, Refused as WasRefused, Unreadable, Failed}
use Rattle.dc_build.specs.Reported.{AreTablesOf, TellsTables}
use Rattle.dc_cert.specs.NamedRows.{NamedRows}
use Rattle.dc_cert.specs.Reading.{Reading, certificate_of}
use Rattle.dc_check.specs.Verdict.{verdict_of}
use Rattle.dc_check.specs.lemmas.Exact.{verdict-accepts}
use Rattle.dc_check.specs.declared.fault.CheckFault.{CheckFault}
use Rattle.dc_device.specs.Lines.{spelled}
use Rattle.dc_device.specs.States.{SinkState, SourceState}
use Rattle.dc_document.specs.declared.fault.BuildError.{BuildError}
use Rattle.dc_document.specs.declared.fault.BuildError.TheVariants.{Refused, Memory as NoMemory}
use Rattle.dc_run.specs.Check.{AnswersCheck, AnswersTables, AreCertified, ReportsCheck, answer_claims, answer_verdict}
use Rattle.sha2.specs.Sha256.{sha256}
use Rattle.dc_digest.specs.Behind.{behind, digest_lines, with_lines}
use Rattle.dc_digest.specs.Digests.{AnswersDigests, AnswersRead, ReportsDigests}
use Rattle.dc_digest.specs.lemmas.Behind.{behind_outcome, read_behind}
use Rattle.dc_tables.specs.TableRows.{TableRows}
use Rattle.dc_toml.specs.Reading.{tables_of}
use Rattle.dc_command.specs.declared.asked.Order.{Order}
use Rattle.dc_command.specs.declared.asked.Order.TheVariants.{Decode, Check, Find, Layout, Report, ReportObserved, Margins, Survey, Trace, Replay, Audit, Observe, Bench, Design, Explain, Network, ReportNetwork}
use Rattle.dc_program.specs.Carries.{Carries}
use Rattle.dc_program.specs.Headline.{Decides, DecidesFiles}
use Rattle.dc_program.specs.World.{WorldState}

-- one that was not accepted has no verdict without a fault
not_none : (t : TableRows) (claims : NamedRows) (fault : CheckFault) → verdict_of t claims ≡ Some fault → verdict_of t claims ≡ None → ⊥
not_none t claims fault some none = let no : Some fault ≡ None = sym some ∙ none in absurd (cc)

module _ (tables certificate : List ℕ) (sink sink' : SinkState) (exit : Exit) (certified : exit ≡ Done → AreCertified tables certificate) where
  abbrev Written : Answer → Type 0
  Written answer = Appends sink.contents sink'.contents (spelled answer.lines) × (exit ≡ exit_with answer.outcome)

  by_verdict : (t : TableRows) → AreTablesOf (tables_of tables) t → (claims : NamedRows) → certificate_of certificate ≡ Ok claims → (v : Option CheckFault) → verdict_of t claims ≡ v
      → Written (answer_verdict t v) → Decides false tables certificate sink sink' exit
  by_verdict t read claims said None is (written, ends) =
      record { yes = λ done. record { certified = certified done; rows = t; read = read; written = written }; no = λ not. absurd (not ends) }
  by_verdict t read claims said (Some fault) is (written, ends) =
      record { yes = λ done. absurd (cc); no = λ not whole. inr (t, read, inr (claims, said, λ accepted. not_none t claims fault is ((verdict-accepts t claims).1 accepted))) }

  by_claims : (t : TableRows) → AreTablesOf (tables_of tables) t → (reading : Reading NamedRows) → certificate_of certificate ≡ reading → Written (answer_claims t reading)
      → Decides false tables certificate sink sink' exit
  by_claims t read (Ok claims) said written = by_verdict t read claims said (verdict_of t claims) refl written
  by_claims t read (Err fault) said (written, ends) =
      record { yes = λ done. absurd (cc); no = λ not whole. inr (t, read, inl (fault, said)) }

  by_tables : (read : Result TableRows BuildError) → TellsTables (tables_of tables) read → (answer : Answer) → AnswersTables certificate answer read → Written answer
      → Decides false tables certificate sink sink' exit
  by_tables (Ok t) tells answer is written = by_claims t tells (certificate_of certificate) refl (subst Written is written)
  by_tables (Err (Refused fault)) tells answer is written =
      let (w, ends) = subst Written is written in
      record { yes = λ done. absurd (cc); no = λ not whole. inl (fault, tells) }
  by_tables (Err (NoMemory e)) tells answer is written = absurd is

  by_answer : (answer : Answer) → AnswersCheck tables certificate answer → Written answer → Decides false tables certificate sink sink' exit
  by_answer answer (read, tells, is) written = by_tables read tells answer is written

  -- ---- the same with digests behind the answer

  told_verdict : (t : TableRows) → AreTablesOf (tables_of tables) t → (claims : NamedRows) → certificate_of certificate ≡ Ok claims → (v : Option CheckFault) → verdict_of t claims ≡ v
      → Written (with_lines (digest_lines (sha256 tables) (sha256 certificate)) (answer_verdict t v)) → Decides true tables certificate sink sink' exit
  told_verdict t read claims said None is (written, ends) =
      record { yes = λ done. record { certified = certified done; rows = t; read = read; written = written }; no = λ not. absurd (not ends) }
  told_verdict t read claims said (Some fault) is (written, ends) =
      record { yes = λ done. absurd (cc); no = λ not whole. inr (t, read, inr (claims, said, λ accepted. not_none t claims fault is ((verdict-accepts t claims).1 accepted))) }

  told_claims : (t : TableRows) → AreTablesOf (tables_of tables) t → (reading : Reading NamedRows) → certificate_of certificate ≡ reading
      → Written (behind (sha256 tables) certificate (answer_claims t reading)) → Decides true tables certificate sink sink' exit
  told_claims t read (Ok claims) said written =
      told_verdict t read claims said (verdict_of t claims) refl (subst Written (read_behind (sha256 tables) certificate (answer_claims t (Ok claims)) claims said) written)
  told_claims t read (Err fault) said (written, ends) =
      let unread : exit ≡ Unreadable = ends ∙ ap exit_with (behind_outcome (sha256 tables) certificate (answer_claims t (Err fault))) in
      record { yes = λ done. absurd (cc); no = λ not whole. inr (t, read, inl (fault, said)) }

  told_tables : (read : Result TableRows BuildError) → TellsTables (tables_of tables) read → (answer : Answer) → AnswersRead tables certificate answer read → Written answer
      → Decides true tables certificate sink sink' exit
  told_tables (Ok t) tells answer is written = told_claims t tells (certificate_of certificate) refl (subst Written is written)
  told_tables (Err (Refused fault)) tells answer is written =
      let (w, ends) = subst Written is written in
      record { yes = λ done. absurd (cc); no = λ not whole. inl (fault, tells) }
  told_tables (Err (NoMemory e)) tells answer is written = absurd is

  told_answer : (answer : Answer) → AnswersDigests tables certificate answer → Written answer → Decides true tables certificate sink sink' exit
  told_answer answer (read, tells, is) written = told_tables read tells answer is written

-- nothing is said of two texts where something failed
pub failed_decides : (digest : Bool) (tables certificate : List ℕ) (sink sink' : SinkState) (exit : Exit) → exit ≡ Failed → Decides digest tables certificate sink sink' exit
failed_decides digest tables certificate sink sink' exit is = record { yes = λ done. absurd (cc); no = λ not whole. absurd (whole is) }

-- what was reported decides
pub reported_decides : (tables certificate : List ℕ) (sink sink' : SinkState) (exit : Exit) (sources sources' : ℕ)
    → ReportsCheck tables certificate sink.contents sink'.contents sources sources' sink.failed sink'.failed exit
    ⊎ ReportsThreads sink.contents sink'.contents sources sources' sink.failed sink'.failed exit → Decides false tables certificate sink sink' exit
reported_decides tables certificate sink sink' exit sources sources' (inr r) = failed_decides false tables certificate sink sink' exit r.failed
reported_decides tables certificate sink sink' Failed sources sources' (inl r) = failed_decides false tables certificate sink sink' Failed refl
reported_decides tables certificate sink sink' Done sources sources' (inl r) =
    by_answer tables certificate sink sink' Done r.certified r.reported.answer r.reported.is (r.reported.reports.done (λ e. cc))
reported_decides tables certificate sink sink' WasRefused sources sources' (inl r) =
    by_answer tables certificate sink sink' WasRefused r.certified r.reported.answer r.reported.is (r.reported.reports.done (λ e. cc))
reported_decides tables certificate sink sink' Unreadable sources sources' (inl r) =
    by_answer tables certificate sink sink' Unreadable r.certified r.reported.answer r.reported.is (r.reported.reports.done (λ e. cc))

-- what was reported with digests decides
pub told_decides : (tables certificate : List ℕ) (sink sink' : SinkState) (exit : Exit) (sources sources' : ℕ)
    → ReportsDigests tables certificate sink.contents sink'.contents sources sources' sink.failed sink'.failed exit
    ⊎ ReportsThreads sink.contents sink'.contents sources sources' sink.failed sink'.failed exit → Decides true tables certificate sink sink' exit
told_decides tables certificate sink sink' exit sources sources' (inr r) = failed_decides true tables certificate sink sink' exit r.failed
told_decides tables certificate sink sink' Failed sources sources' (inl r) = failed_decides true tables certificate sink sink' Failed refl
told_decides tables certificate sink sink' Done sources sources' (inl r) =
    told_answer tables certificate sink sink' Done r.certified r.reported.answer r.reported.is (r.reported.reports.done (λ e. cc))
told_decides tables certificate sink sink' WasRefused sources sources' (inl r) =
    told_answer tables certificate sink sink' WasRefused r.certified r.reported.answer r.reported.is (r.reported.reports.done (λ e. cc))
told_decides tables certificate sink sink' Unreadable sources sources' (inl r) =
    told_answer tables certificate sink sink' Unreadable r.certified r.reported.answer r.reported.is (r.reported.reports.done (λ e. cc))

-- what was carried out decides
pub carried_decides : (order : Order) (w w' : WorldState) (input input' : SourceState) (sink sink' : SinkState) (exit : Exit) → Carries order w w' input input' sink sink' exit
    → DecidesFiles order w sink sink' exit
carried_decides (Check tables certificate None false) w w' input input' sink sink' exit (inl ran) =
    λ rows claims e f. reported_decides rows claims sink sink' exit 0 ran.failed (inl (ran.reports rows claims e f))
carried_decides (Check tables certificate None true) w w' input input' sink sink' exit (inl ran) =
    λ rows claims e f. told_decides rows claims sink sink' exit 0 ran.failed (inl (ran.reports rows claims e f))
carried_decides (Check tables certificate (Some count) false) w w' input input' sink sink' exit (inl ran) =
    λ rows claims e f. reported_decides rows claims sink sink' exit 0 ran.failed (ran.reports rows claims e f)
carried_decides (Check tables certificate (Some count) true) w w' input input' sink sink' exit (inl ran) =
    λ rows claims e f. told_decides rows claims sink sink' exit 0 ran.failed (ran.reports rows claims e f)
carried_decides (Check tables certificate workers digest) w w' input input' sink sink' exit (inr (inl stops)) =
    λ rows claims e f. failed_decides digest rows claims sink sink' exit stops.tells.failed
carried_decides (Check tables certificate workers digest) w w' input input' sink sink' exit (inr (inr makes)) = absurd makes
carried_decides (Decode format) w w' input input' sink sink' exit h = tt
carried_decides (Find tables) w w' input input' sink sink' exit h = tt
carried_decides (Layout tables) w w' input input' sink sink' exit h = tt
carried_decides (Report tables certificate drift) w w' input input' sink sink' exit h = tt
carried_decides (ReportObserved tables certificate observed drift) w w' input input' sink sink' exit h = tt
carried_decides (Margins tables certificate microseconds drift json) w w' input input' sink sink' exit h = tt
carried_decides (Survey tables) w w' input input' sink sink' exit h = tt
carried_decides (Trace tables from) w w' input input' sink sink' exit h = tt
carried_decides (Replay tables all long) w w' input input' sink sink' exit h = tt
carried_decides (Audit tables certificate long) w w' input input' sink sink' exit h = tt
carried_decides (Observe tables certificate) w w' input input' sink sink' exit h = tt
carried_decides (Bench tables certificate ticks marks) w w' input input' sink sink' exit h = tt
carried_decides (Design inputs outputs tick headroom police certificate) w w' input input' sink sink' exit h = tt
carried_decides (Explain code) w w' input input' sink sink' exit h = tt
carried_decides (Network system workers) w w' input input' sink sink' exit h = tt
carried_decides (ReportNetwork system) w w' input input' sink sink' exit h = tt
