-- What is carried along a run of what came out of it.
use Rattle.std.specs.Prelude.{◌≡◌, ℕ, ◌%◌, ◌<◌, Bool, true, false, cond, None, List, [], ◌∷◌, ◌++◌, length, slice_index_or}
use Rattle.std.specs.List.{flat_map}
use Rattle.dc_word.specs.Format.{is_usable}
use Rattle.dc_tables.specs.TableRows.{TableRows, stream_row, router_row, label_row}
use Rattle.dc_event.specs.Time.{tick_after, routes}
use Rattle.dc_event.specs.Buses.{moves, room}
use Rattle.dc_event.specs.Latest.{latest}
use Rattle.dc_event.specs.Outputs.{sent}
use Rattle.dc_event.specs.Choice.{fresh_word}
use Rattle.dc_event.specs.Replies.{reply}
use Rattle.dc_event.specs.declared.event.Event.{Event}
use Rattle.dc_event.specs.declared.event.Reply.{Reply}
use Rattle.dc_oracle.specs.declared.replies.ReplyWatch.{ReplyWatch}
use Rattle.dc_oracle.specs.BusLog.{IsLog, no_log}

-- a part for each bus, stream, router and output of the tables
pub record IsSized (t : TableRows) (w : ReplyWatch) : Type 0 where
  pub buses : length w.buses.items ≡ length t.buses
  pub streams : length w.latest.items ≡ length t.streams
  pub routers : length w.cursors.items ≡ length t.routers
  pub outputs : length w.sent.items ≡ length t.outputs

-- the tick, the logs of the buses, the latest words, the routers' places in their lists and the sent entries are those of the run
pub record Holds (t : TableRows) (w : ReplyWatch) (run : List Event) : Type 0 where
  pub clock : w.tick ≡ tick_after run
  pub logs : (b : ℕ) → b < length t.buses → IsLog (room t b) (slice_index_or w.buses.items b no_log) (moves t b run)
  pub words : (s : ℕ) → s < length t.streams → slice_index_or w.latest.items s None ≡ latest t s run
  pub turns : (r : ℕ) → r < length t.routers → slice_index_or w.cursors.items r 0 ≡ routes r run % length (router_row t r).visits
  pub counts : (o : ℕ) → o < length t.outputs → slice_index_or w.sent.items o 0 ≡ sent t o run

-- they are those of the run with the event, and the reply is the event's
pub record Replies (t : TableRows) (new : ReplyWatch) (run : List Event) (e : Event) (r : Reply) : Type 0 where
  pub holds : Holds t new (run ++ e ∷ [])
  pub answer : r ≡ reply t run e

-- the source with its latest word, where it is fresh for the label
abbrev pub fresh_now : TableRows → ReplyWatch → ℕ → ℕ → List (ℕ × ℕ)
fresh_now t w x s = cond (slice_index_or w.buses.items (stream_row t s).bus no_log).latched [] (fresh_word (label_row t x).stale w.tick (slice_index_or w.latest.items s None))

-- of these sources of the label the fresh ones, in their order
unfoldable pub all_fresh : TableRows → ReplyWatch → ℕ → List ℕ → List (ℕ × ℕ)
all_fresh t w x sources = flat_map (fresh_now t w x) sources

-- the label's fresh sources by priority
abbrev pub fresh_sources : TableRows → ReplyWatch → ℕ → List (ℕ × ℕ)
fresh_sources t w x = all_fresh t w x (label_row t x).sources

-- whether a word is asked for: each, or the usable ones alone
abbrev pub is_wanted : Bool → TableRows → ℕ → ℕ → Bool
is_wanted true t x w = is_usable (label_row t x).format w
is_wanted false t x w = true
