-- The claims in microseconds, at an event of a timed run and the events before it.
use Rattle.std.specs.Prelude.{◌≡◌, ℕ, ◌+◌, ◌*◌, ◌<◌, ◌≤◌, ◌⊎◌, true, Option, Some, IfSome, List, [], ◌∷◌, ◌++◌, length, slice_index}
use Rattle.std.specs.List.{Contains}
use Rattle.dc_bound.specs.Window.{count_in, ticks_of}
use Rattle.dc_word.specs.Format.{is_usable}
use Rattle.dc_tables.specs.TableRows.{TableRows, stream_row, label_row}
use Rattle.dc_event.specs.Offers.{only}
use Rattle.dc_event.specs.Choice.{chosen_source, chosen, fallback_for}
use Rattle.dc_event.specs.Emissions.{emission}
use Rattle.dc_event.specs.Claims.{NoOverrun}
use Rattle.dc_event.specs.declared.event.Event.{Event}
use Rattle.dc_spans.specs.Spans.{Clock}
use Rattle.dc_time.specs.Timed.{events, timed}
use Rattle.dc_time.specs.Intervals.{Intervals}
use Rattle.dc_time.specs.Sources.{brought, stream_times}

-- the label copies the word c, (number of the stream, word), which came at `came`, before the event and less than `limit` ago
pub record CopiesSince (t : TableRows) (x limit : ℕ) (past : List (ℕ × Event)) (e : ℕ × Event) (c : ℕ × ℕ) (came : ℕ) : Type 0 where
  pub copied : chosen_source t x (events past ++ e.1 ∷ []) ≡ Some c
  pub arrived : Contains (timed (brought t (stream_row t c.0).bus) past) (came, c)
  pub before : came ≤ e.0
  pub aged : e.0 < came + limit

-- the word that the label sends is the fallback, or copies such a word
abbrev pub IsYoungInTime : TableRows → (x limit : ℕ) → List (ℕ × Event) → ℕ × Event → Type 0
IsYoungInTime t x limit past e = (chosen t x (events past ++ e.1 ∷ []) ≡ fallback_for t x) ⊎ ((c : ℕ × ℕ) × (came : ℕ) × CopiesSince t x limit past e c came)

-- how long a word may be no longer stale: the ticks of the label's stale limit, and the one that runs
abbrev pub stale_time : TableRows → Clock → ℕ → ℕ
stale_time t clock x = ((label_row t x).stale + 1) * clock.longest

-- the stream is a live source of the label: each span of its greatest interval, within the stale time before the event, holds an arrival of it
pub record IsAliveInTime (t : TableRows) (us : Intervals) (clock : Clock) (x s : ℕ) (past : List (ℕ × Event)) (e : ℕ × Event) : Type 0 where
  pub old_enough : clock.begins (label_row t x).stale ≤ e.0
  pub sends : (from : ℕ) → clock.begins 0 ≤ from → e.0 ≤ from + stale_time t clock x → from + us.stream_most s ≤ e.0 → 1 ≤ count_in from (us.stream_most s) (stream_times t s past)

-- the stream's words of the stale time before the event are usable for the label
abbrev pub AreUsableInTime : TableRows → Clock → (x s : ℕ) → List (ℕ × Event) → ℕ × Event → Type 0
AreUsableInTime t clock x s past e = (came w : ℕ) → Contains (timed (brought t (stream_row t s).bus) past) (came, (s, w)) → e.0 ≤ came + stale_time t clock x → is_usable (label_row t x).format w ≡ true

-- the first source, where it is alive and its words are usable, is the one that is copied
abbrev pub UsesFirstInTime : TableRows → Intervals → Clock → (x : ℕ) → List (ℕ × Event) → ℕ × Event → Type 0
UsesFirstInTime t us clock x past e =
    let s = slice_index (label_row t x).sources 0 in
    IsAliveInTime t us clock x s past e → AreUsableInTime t clock x s past e → (w : ℕ) × (chosen_source t x (events past ++ e.1 ∷ []) ≡ Some (s, w))

-- any source that is alive, and whose words are usable, makes the sent word usable
abbrev pub UsesAnyInTime : TableRows → Intervals → Clock → (x : ℕ) → List (ℕ × Event) → ℕ × Event → Type 0
UsesAnyInTime t us clock x past e =
    (k : ℕ) → k < length (label_row t x).sources →
    (let s = slice_index (label_row t x).sources k in
    IsAliveInTime t us clock x s past e → AreUsableInTime t clock x s past e → is_usable (label_row t x).format (chosen t x (events past ++ e.1 ∷ [])) ≡ true)

-- whether the event emits the label
abbrev pub emits : TableRows → ℕ → List Event → Event → Option ℕ
emits t x past e = only x (emission t past e)

-- when the label was emitted
abbrev pub emission_times : TableRows → ℕ → List (ℕ × Event) → List ℕ
emission_times t x run = ticks_of (timed (emits t x) run)

-- the last of some times, and `start` where there is none
abbrev pub last_or : ℕ → List ℕ → ℕ
last_or start [] = start
last_or start (a ∷ ts) = last_or a ts

-- An emission is more than the label's least interval after the one before it, and less than its greatest; the first one is so early too
pub record IsBetween (us : Intervals) (x start : ℕ) (earlier : List ℕ) (time : ℕ) : Type 0 where
  pub late_enough : 1 ≤ length earlier → last_or start earlier + us.label_least x < time
  pub soon_enough : time < last_or start earlier + us.label_most x

-- all claims: no queue overruns; a word that leaves is the fallback or copies one that came less than age + 1 of the longest ticks ago; a live first source is used;
-- the last emission of a label is never longer ago than its greatest interval; and two that follow one another are within its interval
pub record ClaimsInTime (t : TableRows) (us : Intervals) (ages : List ℕ) (clock : Clock) (past : List (ℕ × Event)) (e : ℕ × Event) : Type 0 where
  pub no_overrun : NoOverrun t (events past) e.1
  pub young : IfSome (emission t (events past) e.1) (λ x. IsYoungInTime t x ((slice_index ages x + 1) * clock.longest) past e)
  pub live : IfSome (emission t (events past) e.1) (λ x. UsesFirstInTime t us clock x past e × UsesAnyInTime t us clock x past e)
  pub in_time : (x : ℕ) → x < length t.labels → e.0 ≤ last_or (clock.begins 0) (emission_times t x past) + us.label_most x
  pub between : IfSome (emission t (events past) e.1) (λ x. IsBetween us x (clock.begins 0) (emission_times t x past) e.0)

-- at each event
abbrev pub ClaimsHoldInTime : TableRows → Intervals → List ℕ → Clock → List (ℕ × Event) → Type 0
ClaimsHoldInTime t us ages clock run = (past rest : List (ℕ × Event)) (e : ℕ × Event) → run ≡ past ++ (e ∷ rest) → ClaimsInTime t us ages clock past e
