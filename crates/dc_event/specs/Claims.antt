-- The four claims, at an event and the events before it.
use Rattle.std.specs.Prelude.{◌≡◌, ◌≢◌, ℕ, ◌+◌, ◌<◌, ◌≤◌, ◌⊎◌, true, Some, IfSome, List, [], ◌∷◌, ◌++◌, length, slice_index}
use Rattle.dc_word.specs.Format.{is_usable}
use Rattle.dc_tables.specs.TableRows.{TableRows, label_row}
use Rattle.dc_event.specs.Time.{tick_after}
use Rattle.dc_event.specs.Latest.{latest_arrived}
use Rattle.dc_event.specs.Choice.{chosen_source, chosen, fallback_for}
use Rattle.dc_event.specs.Replies.{reply}
use Rattle.dc_event.specs.Emissions.{emission, emission_ticks, last_or_zero}
use Rattle.dc_event.specs.Alive.{IsAlive, AreUsable}
use Rattle.dc_event.specs.declared.event.Event.{Event}
use Rattle.dc_event.specs.declared.event.Reply.TheVariants.{Overrun}

-- the label copies the word c, (number of the stream, word), which came in tick `came`, at most `age` ticks ago
pub record CopiesWithin (t : TableRows) (x age : ℕ) (now : List Event) (c : ℕ × ℕ) (came : ℕ) : Type 0 where
  pub copied : chosen_source t x now ≡ Some c
  pub arrived : latest_arrived t c.0 now ≡ Some came
  pub aged : tick_after now ≤ came + age

-- The word that the label sends is the fallback, or copies an arrival at most `age` ticks old. The fallback is told by its word alone:
-- a copied word that equals it counts as the fallback, however old it is
abbrev pub IsYoung : TableRows → ℕ → ℕ → List Event → Type 0
IsYoung t x age now = (chosen t x now ≡ fallback_for t x) ⊎ ((c : ℕ × ℕ) × (came : ℕ) × CopiesWithin t x age now c came)

-- the first source, where it is alive and its words are usable, is the one that is copied
abbrev pub UsesFirst : TableRows → ℕ → List Event → Type 0
UsesFirst t x now =
    let s = slice_index (label_row t x).sources 0 in
    IsAlive t x s now → AreUsable t x s now → (w : ℕ) × (chosen_source t x now ≡ Some (s, w))

-- any source that is alive, and whose words are usable, makes the sent word usable
abbrev pub UsesAny : TableRows → ℕ → List Event → Type 0
UsesAny t x now =
    (k : ℕ) → k < length (label_row t x).sources →
    (let s = slice_index (label_row t x).sources k in
    IsAlive t x s now → AreUsable t x s now → is_usable (label_row t x).format (chosen t x now) ≡ true)

-- ---- the claims

-- 1: no receive queue overruns
abbrev pub NoOverrun : TableRows → List Event → Event → Type 0
NoOverrun t past e = reply t past e ≢ Overrun

-- 2: a word that leaves is no computed data, by its word, or young; `ages` are the labels' ages of the certificate
abbrev pub SendsYoung : TableRows → List ℕ → List Event → Event → Type 0
SendsYoung t ages past e = IfSome (emission t past e) (λ x. IsYoung t x (slice_index ages x) (past ++ e ∷ []))

-- 3: a live first source is used, and any live source makes the word usable
abbrev pub UsesLive : TableRows → List Event → Event → Type 0
UsesLive t past e = IfSome (emission t past e) (λ x. UsesFirst t x (past ++ e ∷ []) × UsesAny t x (past ++ e ∷ []))

-- 4: the last emission of each label is not too long ago
abbrev pub IsInTime : TableRows → List Event → Event → Type 0
IsInTime t past e = (x : ℕ) → x < length t.labels → tick_after past ≤ last_or_zero (emission_ticks t x past) + (label_row t x).maximum

-- 4: and, at an emission with an earlier one, not too short ago
abbrev pub IsSpaced : TableRows → List Event → Event → Type 0
IsSpaced t past e = IfSome (emission t past e) (λ x. 1 ≤ length (emission_ticks t x past) → last_or_zero (emission_ticks t x past) + (label_row t x).minimum ≤ tick_after past)

-- all of them
pub record Claims (t : TableRows) (ages : List ℕ) (past : List Event) (e : Event) : Type 0 where
  pub no_overrun : NoOverrun t past e
  pub young : SendsYoung t ages past e
  pub live : UsesLive t past e
  pub in_time : IsInTime t past e
  pub spaced : IsSpaced t past e

-- the claims hold at each event of the run
abbrev pub ClaimsHold : TableRows → List ℕ → List Event → Type 0
ClaimsHold t ages run = (past rest : List Event) (e : Event) → run ≡ past ++ (e ∷ rest) → Claims t ages past e
