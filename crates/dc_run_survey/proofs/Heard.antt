-- What has been taken of a capture so far.
use Rattle.std.proofs.Common.{◌≡◌, ◌^◌, ℕ, ◌+◌, ◌-◌, ◌<◌, ◌≤◌, List, [], ◌∷◌, ◌++◌, length, length-append, Option, Some, None, IfSome, Result, Ok, Err, refl, sym, ap, ◌∙◌, subst, append_assoc, append-nil, arith}
use Rattle.dc_bound.specs.Window.{ticks_of}
use Rattle.dc_capture.specs.CaptureText.{Capture, capture_of, word_in_front}
use Rattle.dc_capture.specs.Reading.{IsOver, Reading, Stays, TellsWord, no_more, pulls_left}
use Rattle.dc_capture.specs.declared.capture_lines.TheConstants.{CAPTURE_LIMIT}
use Rattle.dc_capture.specs.declared.fault.CaptureFault.{CaptureFault}
use Rattle.dc_capture.specs.declared.fault.CaptureStop.{CaptureStop}
use Rattle.dc_capture.specs.declared.line.CapturedWord.{CapturedWord}
use Rattle.dc_gauge.specs.Times.{last_time}
use Rattle.dc_gauge.specs.lemmas.OneMore.{last_time-push}
use Rattle.dc_survey.specs.Surveys.{Surveys}
use Rattle.dc_survey.specs.lemmas.Picking.{capture_times-push}
use Rattle.dc_survey.specs.declared.survey.Survey.{Survey}
use Rattle.dc_tables.specs.TableRows.{TableRows}

-- a capture that begins with these words
abbrev pub behind : List (ℕ × (ℕ × ℕ)) → Capture → Capture
behind words rest = record { words = words ++ rest.words; fault = rest.fault }

-- how many rounds a reader makes at most
abbrev pub steps : Option CaptureStop → ℕ → ℕ
steps None n = n + 1
steps (Some stop) n = 0

-- some words were taken, as many as a limit lets, and the capture is these and what is left
pub record Heard (t : TableRows) (from : Option (List ℕ)) (left : Option Capture) (latest room : ℕ) (w : Survey) : Type 0 where
  pub words : List (ℕ × (ℕ × ℕ))
  pub surveys : Surveys t words w
  pub after : last_time (ticks_of words) ≤ latest
  pub few : length words + room ≤ CAPTURE_LIMIT
  pub ahead : (text : List ℕ) → from ≡ Some text → (rest : Capture) × (left ≡ Some rest) × (capture_of t CAPTURE_LIMIT text ≡ behind words rest)

stayed : (left left' : Option Capture) (c : Capture) → left ≡ Some c → Stays left left' → left' ≡ Some c
stayed left left' c is stays = rw is at stays

told : (left left' : Option Capture) (c : Capture) (x : CapturedWord) → left ≡ Some c → TellsWord left left' x → (rest : Capture) × (left' ≡ Some rest) × (c ≡ word_in_front x rest)
told left left' c x is tells = rw is at tells

over : (left : Option Capture) (c : Capture) (fault : Option CaptureFault) → left ≡ Some c → IsOver left fault → c ≡ no_more fault
over left c fault is ends = rw is at ends

module _ (t : TableRows) (from : Option (List ℕ)) where
  -- nothing was read
  pub heard_first : (left : Option Capture) (latest room : ℕ) (w : Survey) → Surveys t [] w → room ≤ CAPTURE_LIMIT → ((text : List ℕ) → from ≡ Some text → left ≡ Some (capture_of t CAPTURE_LIMIT text))
      → Heard t from left latest room w
  heard_first left latest room w surveys few whole =
      record { words = []; surveys = surveys; after = omega arith; few = omega (arith, few); ahead = λ text is. (capture_of t CAPTURE_LIMIT text, whole text is, refl) }

  module _ (left left' : Option Capture) (latest latest' room room' : ℕ) (w w' : Survey) (h : Heard t from left latest room w) where
    -- more came
    pub heard_pulled : (mid : Option Capture) → Stays left mid → Stays mid left' → latest' ≡ latest → room' ≤ room → w' ≡ w → Heard t from left' latest' room' w'
    heard_pulled mid one two same fewer kept = record {
      words = h.words;
      surveys = subst (Surveys t h.words) (sym kept) h.surveys;
      after = omega (arith, h.after, same);
      few = omega (arith, h.few, fewer);
      ahead = λ text is. let (rest, at, e) = h.ahead text is in (rest, stayed mid left' rest (stayed left mid rest at one) two, e);
    }

    -- one word more
    pub heard_next : (x : CapturedWord) → TellsWord left left' x → latest ≤ x.time → latest' ≡ x.time → room' < room
        → ((capture : List (ℕ × (ℕ × ℕ))) → Surveys t capture w → last_time (ticks_of capture) ≤ x.time → length capture < 2 ^ 64 - 1 → Surveys t (capture ++ (x.time, (x.bus, x.word)) ∷ []) w')
        → Heard t from left' latest' room' w'
    heard_next x tells later same fewer take =
        let one : ℕ × (ℕ × ℕ) = (x.time, (x.bus, x.word)) in
        record {
          words = h.words ++ one ∷ [];
          surveys = take h.words h.surveys (omega (arith, h.after, later)) (omega (arith, h.few, fewer));
          after = omega (arith, ap last_time (capture_times-push h.words one) ∙ last_time-push (ticks_of h.words) x.time, same);
          few = omega (arith, h.few, fewer, length-append h.words (one ∷ []));
          ahead = λ text is.
              let (c, at, e) = h.ahead text is in
              let (rest, left_is, front) = told left left' c x at tells in
              (rest, left_is, e ∙ ap (behind h.words) front ∙ ap (λ l. let r : Capture = record { words = l; fault = rest.fault } in r) (sym (append_assoc h.words (one ∷ []) rest.words)));
        }

  -- the capture is over
  pub heard_all : (left : Option Capture) (latest room : ℕ) (w : Survey) (fault : Option CaptureFault) → Heard t from left latest room w → IsOver left fault
      → IfSome from (λ text. Surveys t (capture_of t CAPTURE_LIMIT text).words w × (fault ≡ (capture_of t CAPTURE_LIMIT text).fault))
  heard_all left latest room w fault h ends = by from h.ahead where
    by : (r : Option (List ℕ)) → ((text : List ℕ) → r ≡ Some text → (rest : Capture) × (left ≡ Some rest) × (capture_of t CAPTURE_LIMIT text ≡ behind h.words rest))
        → IfSome r (λ text. Surveys t (capture_of t CAPTURE_LIMIT text).words w × (fault ≡ (capture_of t CAPTURE_LIMIT text).fault))
    by None f = tt
    by (Some text) f =
        let (c, at, e) = f text refl in
        let whole = e ∙ ap (behind h.words) (over left c fault at ends) in (
          subst (λ l. Surveys t l w) (sym (ap (λ (r : Capture). r.words) whole ∙ append-nil h.words)) h.surveys,
          sym (ap (λ (r : Capture). r.fault) whole),
        )

-- ---- how often the source is asked

-- a reader that reported a word had not stopped
pub not_stopped : (stopped : Option CaptureStop) (reported : Result CapturedWord CaptureStop) (x : CapturedWord) (old new : Reading) → reported ≡ Ok x
    → IfSome stopped (λ stop. (Some reported ≡ Some (Err stop)) × (new ≡ old)) → stopped ≡ None
not_stopped None reported x old new is again = refl
not_stopped (Some stop) reported x old new is (same, kept) = absurd (cc)

-- needing more leaves no more to pull
pub pulls_needed : (stopped stopped' : Option CaptureStop) (held held' : List ℕ) (room room' : ℕ) → stopped ≡ None → stopped' ≡ None → held' ≡ [] → length held + room' ≡ room
    → pulls_left stopped' room' held' ≤ pulls_left stopped room held
pulls_needed stopped stopped' [] held' room room' a b c e = rw (a, b, c) (omega (arith, e))
pulls_needed stopped stopped' (x ∷ xs) held' room room' a b c e = rw (a, b, c) (omega (arith, e))

-- nor does a word that was reported
pub pulls_reported : (stopped stopped' : Option CaptureStop) (held held' : List ℕ) (room room' : ℕ) → stopped ≡ None → stopped' ≡ None → room' < room
    → pulls_left stopped' room' held' ≤ pulls_left stopped room held
pulls_reported stopped stopped' held [] room room' a b e = rw (a, b) (omega (arith, e))
pulls_reported stopped stopped' held (x ∷ xs) room room' a b e = rw (a, b) (omega (arith, e))
