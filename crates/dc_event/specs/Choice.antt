-- Which word an output label sends.
use Rattle.std.specs.Prelude.{ℕ, ◌-◌, cond, nat_le, Option, Some, None, List, [], ◌∷◌, ◌++◌, filter}
use Rattle.std.specs.List.{flat_map}
use Rattle.dc_word.specs.Word.{copied_word, fallback_word}
use Rattle.dc_word.specs.Format.{is_usable}
use Rattle.dc_tables.specs.TableRows.{TableRows, stream_row, label_row}
use Rattle.dc_event.specs.Time.{tick_after}
use Rattle.dc_event.specs.Buses.{is_latched}
use Rattle.dc_event.specs.Latest.{latest}
use Rattle.dc_event.specs.declared.event.Event.{Event}

-- a latest word, where it was routed at most `stale` ticks ago
abbrev pub fresh_word : ℕ → ℕ → Option ((ℕ × ℕ) × ℕ) → List (ℕ × ℕ)
fresh_word stale now None = []
fresh_word stale now (Some l) = cond (nat_le (now - l.1) stale) (l.0 ∷ []) []

-- the source with its latest word, where it is fresh for the label: its bus has not latched, and the word is not stale
unfoldable pub fresh : TableRows → ℕ → List Event → ℕ → List (ℕ × ℕ)
fresh t x run s = cond (is_latched t (stream_row t s).bus run) [] (fresh_word (label_row t x).stale (tick_after run) (latest t s run))

-- the first of a list
abbrev pub head : List (ℕ × ℕ) → Option (ℕ × ℕ)
head [] = None
head (c ∷ cs) = Some c

-- of the fresh sources by priority the first whose word is usable; else the first
abbrev pub choice : TableRows → ℕ → List (ℕ × ℕ) → Option (ℕ × ℕ)
choice t x cs = head (filter (λ c. is_usable (label_row t x).format c.1) cs ++ cs)

-- the source that the label copies, with its latest word; none where the fallback leaves
unfoldable pub chosen_source : TableRows → ℕ → List Event → Option (ℕ × ℕ)
chosen_source t x run = choice t x (flat_map (fresh t x run) (label_row t x).sources)

-- the label's fallback: no computed data (ARINC Specification 429 Part 1, 2.1.5)
abbrev pub fallback_for : TableRows → ℕ → ℕ
fallback_for t x = fallback_word (label_row t x).label (label_row t x).sdi

-- the word that the label sends for its choice
abbrev pub word_for : TableRows → ℕ → Option (ℕ × ℕ) → ℕ
word_for t x None = fallback_for t x
word_for t x (Some c) = copied_word (label_row t x).label (label_row t x).sdi c.1

-- the word that the label sends after these events
abbrev pub chosen : TableRows → ℕ → List Event → ℕ
chosen t x run = word_for t x (chosen_source t x run)
