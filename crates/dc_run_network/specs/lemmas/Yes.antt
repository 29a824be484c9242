-- What a yes says.
use Rattle.std.proofs.Common.{◌≡◌, ℕ, List, [], ◌∷◌, ◌++◌, Option, Some, None, IfSome, IfErr, Result, Ok, Err, refl, sym, ◌∙◌, subst, inl, inr}
use Rattle.std.specs.Io.KnownBytes.{Appends}
use Rattle.std.proofs.lemmas.Bool.{cases_eq}
use Rattle.dc_answer.specs.Exits.{exit_with}
use Rattle.dc_answer.specs.declared.exit.Exit.{Exit}
use Rattle.dc_answer.specs.declared.exit.Exit.TheVariants.{Done, Unreadable, Failed}
use Rattle.dc_answer.specs.declared.exit.Outcome.{Outcome}
use Rattle.dc_answer.specs.declared.exit.Outcome.TheVariants.{Done as WasDone, Refused as WasRefused, Unreadable as WasUnreadable}
use Rattle.dc_answer.specs.declared.judge.Unjudged.{Unjudged}
use Rattle.dc_answer.specs.declared.judge.Unjudged.TheVariants.{Device, Memory as NoRoom, Threads}
use Rattle.dc_device.specs.States.{SinkState}
use Rattle.dc_system.specs.declared.judging.NetworkFault.{NetworkFault}
use Rattle.dc_system.specs.declared.judging.NetworkFault.TheVariants.{Ring, Link, Memory}
use Rattle.dc_system_text.specs.Faults.{Said}
use Rattle.dc_system_text.specs.System.{SystemRows, system_of}
use Rattle.dc_ways.specs.Members.{MemberRows}
use Rattle.dc_run_network.specs.Answer.{AnswersHalted, AnswersMembers, AnswersOrdered, AnswersRead, AnswersRows, IsAccepted, JudgesNetwork, OnlyIf, ReportsNetwork, Saying, SaysNetwork, Tells, end_of, fault_exit, line_of}
use Rattle.dc_run_network.specs.Members.{AreMembers, Holds}

no-failed : Done ≡ Failed → ⊥
no-failed e = cc

no-unreadable : Done ≡ Unreadable → ⊥
no-unreadable e = cc

-- only what was done ends so
done-alone : (outcome : Outcome) → Done ≡ exit_with outcome → outcome ≡ WasDone
done-alone WasDone e = refl
done-alone WasRefused e = absurd cc
done-alone WasUnreadable e = absurd cc

not-fault : (fault : NetworkFault) → Done ≡ fault_exit fault → ⊥
not-fault (Ring i) e = cc
not-fault (Link k fault) e = cc
not-fault (Memory e') e = cc

module _ (Says : Saying) (holds : Holds) (folder : List ℕ) (page : List ℕ) where
  -- what was found of a system that is accepted
  abbrev Finds : SystemRows → Type 0
  Finds s = (members : List MemberRows) × AreMembers holds folder s.concentrators members × IsAccepted Says s members page

  by-members : (s : SystemRows) (members : List MemberRows) → AreMembers holds folder s.concentrators members → AnswersMembers Says s members page Done → Finds s
  by-members s members are (inl (e, accepted)) = (members, are, accepted)
  by-members s members are (inr refused) = absurd (not-fault refused.fault refused.ends)

  by-halted : (s : SystemRows) → AnswersHalted holds folder s page Done → ⊥
  by-halted s (inl (outcome, e, halts)) = halts.told.said (done-alone outcome e)
  by-halted s (inr (e, halts)) = no-failed e

  by-ordered : (s : SystemRows) → AnswersOrdered Says holds folder s page Done → Finds s
  by-ordered s (inl halted) = absurd (by-halted s halted)
  by-ordered s (inr (members, are, answers)) = by-members s members are answers

  by-rows : (s : SystemRows) → AnswersRows Says holds folder s page Done → Finds s
  by-rows s (inl (i, ring, told, e)) = absurd (no-unreadable e)
  by-rows s (inr (none, ordered)) = by-ordered s ordered

  by-read : (said : Said SystemRows) → AnswersRead Says holds folder said page Done → (s : SystemRows) × (said ≡ Ok s) × Finds s
  by-read (Ok s) answers = (s, refl, by-rows s answers)
  by-read (Err fault) (told, e) = absurd (no-unreadable e)

  -- the page of what is accepted, and what was written
  abbrev Writes : List ℕ → (List ℕ → Type 0) → Type 0
  Writes text W = (s : SystemRows) × (system_of text ≡ Ok s) × Finds s × W page

  by-judged : (text : List ℕ) (judged : Result Exit Unjudged) (W : List ℕ → Type 0) → JudgesNetwork Says holds folder text page judged → Done ≡ end_of judged → W (line_of judged page) → Writes text W
  by-judged text (Ok exit) W judges e w =
      let (s, read, finds) = by-read (system_of text) (subst (λ x. AnswersRead Says holds folder (system_of text) page x) (sym e) judges) in (s, read, finds, w)
  by-judged text (Err why) W judges e w = absurd (no-failed e)

pub yes-says : (Says : Saying) (Starts : Type 0) (holds : Holds) (folder text : List ℕ) (sink sink' : SinkState) (exit : Exit) → ReportsNetwork Says Starts holds folder text sink sink' exit → exit ≡ Done → SaysNetwork Says holds folder text sink sink'
yes-says Says Starts holds folder text sink sink' exit r done =
    elim (cases_eq sink'.failed sink.failed) [
      | inl same ↦
          let whole = r.tells.whole same in
          let W : List ℕ → Type 0 = λ line. Appends sink.contents sink'.contents (line ++ 10 ∷ []) in
          let (s, read, (members, are, accepted), written) = by-judged Says holds folder r.page text r.judged W r.is (sym done ∙ whole.1) whole.0 in
          record { system = s; read = read; members = members; are = are; page = r.page; accepted = accepted; written = written }
      | inr other ↦ absurd (no-failed (sym done ∙ (r.tells.cut other).1))
    ]

pub yes-if-known : (Says : Saying) (Starts : Type 0) (known : Option (List ℕ)) (holds : Holds) (folder : List ℕ) (sink sink' : SinkState) (exit : Exit) → IfSome known (λ text. ReportsNetwork Says Starts holds folder text sink sink' exit) → exit ≡ Done
    → IfSome known (λ text. SaysNetwork Says holds folder text sink sink')
yes-if-known Says Starts None holds folder sink sink' exit r done = tt
yes-if-known Says Starts (Some text) holds folder sink sink' exit r done = yes-says Says Starts holds folder text sink sink' exit r done

-- that no thread could be started
only-if : (Starts : Type 0) (judged : Result Exit Unjudged) → IfErr judged (λ why. why ≡ Threads → Starts) → OnlyIf Starts judged
only-if Starts (Ok exit) h = tt
only-if Starts (Err Device) h = tt
only-if Starts (Err NoRoom) h = tt
only-if Starts (Err Threads) h = h refl

-- what is reported, where the text is known
pub reports-if-known : (Says : Saying) (Starts : Type 0) (known : Option (List ℕ)) (holds : Holds) (folder given page : List ℕ) (judged : Result Exit Unjudged) (sink sink' : SinkState) (exit : Exit) → given ≡ folder
    → IfSome known (λ text. JudgesNetwork Says holds given text page judged) → IfErr judged (λ why. why ≡ Threads → Starts)
    → Tells (line_of judged page) (end_of judged) sink sink' exit → IfSome known (λ text. ReportsNetwork Says Starts holds folder text sink sink' exit)
reports-if-known Says Starts None holds folder given page judged sink sink' exit same is threads tells = tt
reports-if-known Says Starts (Some text) holds folder given page judged sink sink' exit same is threads tells =
    record { judged = judged; page = page; is = subst (λ f. JudgesNetwork Says holds f text page judged) same is; threads = only-if Starts judged threads; tells = tells }
