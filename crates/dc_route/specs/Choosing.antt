-- Which word an output label sends, from what the concentrator keeps: each stream's latest word with its routed tick, and which buses have latched.
use Rattle.std.specs.Prelude.{ℕ, ◌-◌, Bool, false, cond, nat_le, Option, Some, None, List, [], ◌∷◌, ◌++◌, filter, slice_index_or}
use Rattle.std.specs.List.{flat_map}
use Rattle.dc_word.specs.Word.{copied_word, fallback_word}
use Rattle.dc_word.specs.Format.{is_usable}
use Rattle.dc_tables.specs.TableRows.{TableRows, stream_row, label_row}

-- a latest word, where it was routed at most `stale` ticks ago
abbrev pub young : ℕ → ℕ → Option (ℕ × ℕ) → List ℕ
young stale now None = []
young stale now (Some l) = cond (nat_le (now - l.1) stale) (l.0 ∷ []) []

-- a source's latest word, where it is fresh: its bus has not latched, and the word is not stale
abbrev pub fresh_now : TableRows → List Bool → List (Option (ℕ × ℕ)) → ℕ → ℕ → ℕ → List ℕ
fresh_now t latched lasts now stale s = cond (slice_index_or latched (stream_row t s).bus false) [] (young stale now (slice_index_or lasts s None))

-- the first of some words
abbrev pub first_word : List ℕ → Option ℕ
first_word [] = None
first_word (w ∷ ws) = Some w

-- the word that the label sends for its choice: a copy, or its fallback
abbrev pub word_now : TableRows → ℕ → Option ℕ → ℕ
word_now t x None = fallback_word (label_row t x).label (label_row t x).sdi
word_now t x (Some w) = copied_word (label_row t x).label (label_row t x).sdi w

-- the words of the fresh sources, by priority
unfoldable pub fresh_words : TableRows → List Bool → List (Option (ℕ × ℕ)) → ℕ → ℕ → List ℕ → List ℕ
fresh_words t latched lasts now stale sources = flat_map (fresh_now t latched lasts now stale) sources

-- the first usable of these is copied; else the first of them; else the fallback leaves
unfoldable pub chosen_now : TableRows → List Bool → List (Option (ℕ × ℕ)) → ℕ → ℕ → ℕ
chosen_now t latched lasts now x =
    let ws = fresh_words t latched lasts now (label_row t x).stale (label_row t x).sources in
    word_now t x (first_word (filter (is_usable (label_row t x).format) ws ++ ws))
