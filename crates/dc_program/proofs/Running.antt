-- How an order was carried out, by what its files and its engine say.
use Rattle.std.proofs.Common.{◌≡◌, ◌≢◌, ◌⊎◌, ℕ, ◌+◌, List, [], ◌∷◌, refl, sym, ◌∙◌, ap, subst, arith, Option, Some, None, IfSome, inl, inr}
use Rattle.dc_answer.specs.declared.exit.Exit.{Exit}
use Rattle.dc_command.specs.declared.asked.Order.{Order}
use Rattle.dc_device.specs.States.{SinkState, SourceState}
use Rattle.dc_answer.specs.Answer.{Any, Reported}
use Rattle.dc_answer.specs.Judging.{Leaves}
use Rattle.dc_answer.specs.declared.exit.Exit.TheVariants.{Done, Failed}
use Rattle.dc_run_design.specs.Design.{ReportsDesign}
use Rattle.dc_run_network.specs.Answer.{ReportsNetwork, Saying}
use Rattle.dc_run_network.specs.Paths.{folder_of}
use Rattle.dc_program.specs.Carries.{Carries, Judges, Makes, Saves}
use Rattle.dc_program.specs.Opening.{AreNotOpened, AreOpened, AreOpenedFor, TellsFailure, failure_of}
use Rattle.dc_program.specs.Orders.{ReportsAny, ReportsOrder, crew_of, files_of}
use Rattle.dc_program.specs.World.{IsKept, WorldState, new_source}
use Rattle.dc_program.specs.declared.world.Crew.{Crew}
use Rattle.dc_program.specs.declared.world.NotOpened.{NotOpened}

-- ---- files that were just opened

pub of_one : (P : ℕ → Type 0) (s : SourceState) (text : Option (List ℕ)) → s ≡ new_source text → P s.failed → P 0
of_one P s text same h = subst (λ (x : SourceState). P x.failed) same h

pub of_two : (P : ℕ → Type 0) (s t : SourceState) (text more : Option (List ℕ)) → s ≡ new_source text → t ≡ new_source more → P (s.failed + t.failed) → P 0
of_two P s t text more same too h = subst (λ (x : SourceState). P (x.failed + 0)) same (subst (λ (y : SourceState). P (s.failed + y.failed)) too h)

pub one_text : (P : List ℕ → ℕ → Type 0) (s : SourceState) (text : Option (List ℕ)) → s ≡ new_source text → ((rows : List ℕ) → s.remaining ≡ Some rows → P rows s.failed)
    → (rows : List ℕ) → text ≡ Some rows → P rows 0
one_text P s text same h = subst (λ (x : SourceState). (rows : List ℕ) → x.remaining ≡ Some rows → P rows x.failed) same h

pub two_texts : (P : List ℕ → List ℕ → ℕ → Type 0) (s t : SourceState) (text more : Option (List ℕ)) → s ≡ new_source text → t ≡ new_source more
    → ((rows claims : List ℕ) → s.remaining ≡ Some rows → t.remaining ≡ Some claims → P rows claims (s.failed + t.failed))
    → (rows claims : List ℕ) → text ≡ Some rows → more ≡ Some claims → P rows claims 0
two_texts P s t text more same too h =
    subst (λ (x : SourceState). (rows claims : List ℕ) → x.remaining ≡ Some rows → more ≡ Some claims → P rows claims (x.failed + 0)) same
    (subst (λ (y : SourceState). (rows claims : List ℕ) → s.remaining ≡ Some rows → y.remaining ≡ Some claims → P rows claims (s.failed + y.failed)) too h)

pub of_three : (P : ℕ → Type 0) (s t u : SourceState) (text more last : Option (List ℕ)) → s ≡ new_source text → t ≡ new_source more → u ≡ new_source last → P (s.failed + (t.failed + u.failed)) → P 0
of_three P s t u text more last one two three h =
    subst (λ (x : SourceState). P (x.failed + (0 + 0))) one (subst (λ (y : SourceState). P (s.failed + (y.failed + 0))) two (subst (λ (z : SourceState). P (s.failed + (t.failed + z.failed))) three h))

pub three_texts : (P : List ℕ → List ℕ → List ℕ → ℕ → Type 0) (s t u : SourceState) (text more last : Option (List ℕ)) → s ≡ new_source text → t ≡ new_source more → u ≡ new_source last
    → ((rows claims lines : List ℕ) → s.remaining ≡ Some rows → t.remaining ≡ Some claims → u.remaining ≡ Some lines → P rows claims lines (s.failed + (t.failed + u.failed)))
    → (rows claims lines : List ℕ) → text ≡ Some rows → more ≡ Some claims → last ≡ Some lines → P rows claims lines 0
three_texts P s t u text more last one two three h =
    subst (λ (x : SourceState). (rows claims lines : List ℕ) → x.remaining ≡ Some rows → more ≡ Some claims → last ≡ Some lines → P rows claims lines (x.failed + (0 + 0))) one
    (subst (λ (y : SourceState). (rows claims lines : List ℕ) → s.remaining ≡ Some rows → y.remaining ≡ Some claims → last ≡ Some lines → P rows claims lines (s.failed + (y.failed + 0))) two
    (subst (λ (z : SourceState). (rows claims lines : List ℕ) → s.remaining ≡ Some rows → t.remaining ≡ Some claims → z.remaining ≡ Some lines → P rows claims lines (s.failed + (t.failed + z.failed))) three h))

-- ---- standard input beside them

pub one_input : (P : List ℕ → Type 0) (more : Option (List ℕ)) → IfSome more P → (text : List ℕ) → more ≡ Some text → P text
one_input P None h text e = absurd (cc)
one_input P (Some given) h text e = let same : given ≡ text = cc in subst P same h

pub text_and_input : (P : List ℕ → List ℕ → ℕ → Type 0) (s : SourceState) (text more : Option (List ℕ)) → s ≡ new_source text
    → IfSome s.remaining (λ rows. IfSome more (λ trace. P rows trace s.failed)) → (rows trace : List ℕ) → text ≡ Some rows → more ≡ Some trace → P rows trace 0
text_and_input P s text more same h rows trace e f =
    let here = subst (λ (x : SourceState). IfSome x.remaining (λ rows. IfSome more (λ trace. P rows trace x.failed))) same h in
    one_input (λ trace. P rows trace 0) more (one_input (λ rows. IfSome more (λ trace. P rows trace 0)) text here rows e) trace f

pub text_then_input : (P : List ℕ → List ℕ → ℕ → Type 0) (s : SourceState) (text more : Option (List ℕ)) (a : ℕ) → s ≡ new_source text
    → ((rows capture : List ℕ) → s.remaining ≡ Some rows → more ≡ Some capture → P rows capture (s.failed + a))
    → (rows capture : List ℕ) → text ≡ Some rows → more ≡ Some capture → P rows capture (0 + a)
text_then_input P s text more a same h =
    subst (λ (x : SourceState). (rows capture : List ℕ) → x.remaining ≡ Some rows → more ≡ Some capture → P rows capture (x.failed + a)) same h

-- calls that failed, of two files and then of standard input
parted : (P : ℕ → ℕ → Type 0) (a b c d e : ℕ) → P (0 + (0 + a)) (b + (c + d)) → e ≡ b + c → P (0 + a) (e + d)
parted P a b c d e h is = let m : 0 + (0 + a) ≡ 0 + a = omega arith in let n : b + (c + d) ≡ e + d = omega (arith, is) in subst (P (0 + a)) n (subst (λ x. P x (b + (c + d))) m h)

pub texts_and_input : (P : List ℕ → List ℕ → List ℕ → ℕ → ℕ → Type 0) (s t : SourceState) (text more input : Option (List ℕ)) (a b c d : ℕ) → s ≡ new_source text → t ≡ new_source more
    → ((rows claims trace : List ℕ) → s.remaining ≡ Some rows → t.remaining ≡ Some claims → input ≡ Some trace → P rows claims trace (s.failed + (t.failed + a)) (b + (c + d)))
    → (rows claims trace : List ℕ) → text ≡ Some rows → more ≡ Some claims → input ≡ Some trace → P rows claims trace (0 + a) ((b + c) + d)
texts_and_input P s t text more input a b c d same too h rows claims trace e f k =
    let one = subst (λ (y : SourceState). y.remaining ≡ Some claims → P rows claims trace (s.failed + (y.failed + a)) (b + (c + d))) too (λ f. h rows claims trace (ap (λ (x : SourceState). x.remaining) same ∙ e) f k) f in
    parted (P rows claims trace) a b c d (b + c) (subst (λ (x : SourceState). P rows claims trace (x.failed + (0 + a)) (b + (c + d))) same one) refl

pub of_two_and_input : (P : ℕ → ℕ → Type 0) (s t : SourceState) (text more : Option (List ℕ)) (a b c d : ℕ) → s ≡ new_source text → t ≡ new_source more
    → P (s.failed + (t.failed + a)) (b + (c + d)) → P (0 + a) ((b + c) + d)
of_two_and_input P s t text more a b c d same too h =
    parted P a b c d (b + c) (subst (λ (x : SourceState). P (x.failed + (0 + a)) (b + (c + d))) same (subst (λ (y : SourceState). P (s.failed + (y.failed + a)) (b + (c + d))) too h)) refl

-- ---- an order

module _ (order : Order) (w w' : WorldState) (sink sink' : SinkState) (exit : Exit) where
  -- its files were opened
  pub ran : (input input' : SourceState) (failed : ℕ) → AreOpened (files_of order) w' → crew_of order ≡ None
      → ReportsOrder order w.holds failed input input' sink sink' exit → ReportsAny order failed input input' sink sink' exit → Carries order w w' input input' sink sink' exit
  ran input input' failed opened none reports reported =
      inl (record { opened = opened.opened; refused = opened.refused; crew = opened.crew ∙ sym none; saved = opened.saved; failed = failed; reports = reports; reported = reported })

  -- the same where threads were asked for then
  pub ran_by : (crew : Crew) (input input' : SourceState) (failed : ℕ) → AreOpenedFor crew (files_of order) w' → crew_of order ≡ Some crew
      → ReportsOrder order w.holds failed input input' sink sink' exit → ReportsAny order failed input input' sink sink' exit → Carries order w w' input input' sink sink' exit
  ran_by crew input input' failed opened some reports reported =
      inl (record { opened = opened.opened; refused = opened.refused; crew = opened.crew ∙ sym some; saved = opened.saved; failed = failed; reports = reports; reported = reported })

  -- one could not be opened
  pub stopped : (why : NotOpened) (input : SourceState) → AreNotOpened (files_of order) why w' → TellsFailure (failure_of why) sink sink' exit → Carries order w w' input input sink sink' exit
  stopped why input files tells = inr (inl (record { why = why; files = files; unread = refl; tells = tells }))

-- ---- a file that was made

-- both sheets were opened, and the engine ran over what they hold
pub made : (inputs outputs : List ℕ) (certificate : Option (List ℕ)) (w w1 w' : WorldState) (input : SourceState) (sink mid sink' : SinkState) (failed : ℕ) (text : List ℕ) (ended exit : Exit)
    → AreOpened (inputs ∷ outputs ∷ []) w1 → w'.opened ≡ w1.opened → w'.crew ≡ w1.crew
    → ((ins outs : List ℕ) → w.holds inputs ≡ Some ins → w.holds outputs ≡ Some outs → ReportsDesign ins outs text sink.contents mid.contents 0 failed sink.failed mid.failed ended)
    → Reported Any sink.contents mid.contents 0 failed sink.failed mid.failed ended → Saves certificate text w' mid sink' ended exit
    → Makes inputs outputs certificate w w' input input sink sink' exit
made inputs outputs certificate w w1 w' input sink mid sink' failed text ended exit opened same alike reports reported saves = record {
  opened = same ∙ opened.opened;
  crew = alike ∙ opened.crew;
  unread = refl;
  failed = failed;
  text = text;
  mid = mid;
  ended = ended;
  reports = reports;
  reported = reported;
  saves = saves;
}

-- the text of a system was opened, and an engine ran over it and what it names
pub network_judged : (Says : Saying) (Starts : Type 0) (crew : Option Crew) (system : List ℕ) (w mid w' : WorldState) (held : List ℕ → Option (List ℕ)) (s input : SourceState) (sink sink' : SinkState) (exit : Exit)
    → mid.opened ≡ system ∷ [] → mid.crew ≡ crew → mid.saved ≡ None → s ≡ new_source (w.holds system) → mid.holds ≡ w.holds → held ≡ mid.holds → IsKept mid w'
    → IfSome s.remaining (λ text. ReportsNetwork Says Starts held (folder_of system) text sink sink' exit) → Judges Says Starts crew system w w' input input sink sink' exit
network_judged Says Starts crew system w mid w' held s input sink sink' exit opened asked saved file same is kept reports =
    let P : (List ℕ → Option (List ℕ)) → Type 0 = λ h. IfSome (w.holds system) (λ text. ReportsNetwork Says Starts h (folder_of system) text sink sink' exit) in
    let Q : SourceState → Type 0 = λ x. IfSome x.remaining (λ text. ReportsNetwork Says Starts held (folder_of system) text sink sink' exit) in
    record {
      opened = kept.opened ∙ opened;
      asked = kept.crew ∙ asked;
      saved = kept.saved ∙ saved;
      unread = refl;
      reports = subst P (is ∙ same) (subst Q file reports);
    }

-- where the sink was left well by an engine, it is so by what stands behind it
pub left_after : (a b c : SinkState) (ended exit : Exit) → Leaves a b → (ended ≢ Failed → b.failed ≡ a.failed) → ((c ≡ b) × (exit ≡ ended)) ⊎ ((ended ≡ Done) × Leaves b c) → Leaves a c
left_after a b c ended exit h quiet (inl (same, is)) = subst (λ k. Leaves a k) (sym same) h
left_after a b c ended exit h quiet (inr (is, l)) =
    let still : b.failed ≡ a.failed = quiet (λ e. let no : Done ≡ Failed = sym is ∙ e in cc) in
    record { seen = λ e. l.seen (e ∙ sym still); last = λ e. let (m, n) = l.last (λ x. e (x ∙ still)) in (m ∙ ap (λ n. n + 1) still, n) }
