-- The words that wires bring while a hub is driven.
use Rattle.std.specs.Prelude.{ℕ, zero, suc, ◌+◌, ◌-◌, ◌*◌, ◌%◌, ◌<◌, ◌≤◌, Bool, true, ◌&&◌, cond, nat_lt, nat_le, max, Option, Some, None, option_map, List, [], ◌∷◌, ◌++◌, All, length, replicate, slice_set, slice_index_or, unwrap_or}
use Rattle.dc_script.specs.declared.script.Timed.{Timed}
use Rattle.dc_script.specs.declared.limits.TheConstants.{DATA_VALUES, LONGEST_SCRIPT}
use Rattle.dc_tables.specs.TableRows.{TableRows, bus_row, stream_row}
use Rattle.dc_word.specs.Word.{composed_word}
use Rattle.dc_word.specs.declared.format.Format.{Format}
use Rattle.dc_word.specs.declared.format.Format.TheVariants.{Bnr, Bcd, Disc}

-- a script: how many ticks it is long, and for each bus the words of its wire
pub record ScriptView : Type 0 where
  pub ticks : ℕ
  pub words : List (List Timed)

-- the ticks of the words never fall, are at least `first`, and lie below `ticks`
abbrev pub AreTimedFrom : (first ticks : ℕ) → List Timed → Type 0
AreTimedFrom first ticks [] = Unit {0}
AreTimedFrom first ticks (w ∷ ws) = (first ≤ w.tick) × (w.tick < ticks) × AreTimedFrom w.tick ticks ws

-- the ticks of the words never fall and lie below `ticks`
abbrev pub AreTimed : ℕ → List Timed → Type 0
AreTimed ticks ws = AreTimedFrom 0 ticks ws

-- what every script meets
abbrev pub IsScript : ScriptView → Type 0
IsScript s = (1 ≤ s.ticks) × (s.ticks ≤ LONGEST_SCRIPT) × All (AreTimed s.ticks) s.words

-- ---- the words of a bench

-- while the words of a bus are written: the first possible time of the next one, in microseconds, for each stream the
-- tick of its last word, if it had one, and the words
pub record Writing : Type 0 where
  pub free_us : ℕ
  pub lasts : List (Option ℕ)
  pub words : List Timed

-- whether a stream's last word is at least its minimum back, or it had none
abbrev pub is_rested : (minimum tick : ℕ) → Option ℕ → Bool
is_rested minimum tick None = true
is_rested minimum tick (Some last) = nat_le minimum (tick - last)

-- the time of a word in this tick: the greater of the tick's beginning and the first possible time
abbrev pub time_in : (tick_us tick free_us : ℕ) → ℕ
time_in tick_us tick free_us = max (tick * tick_us) free_us

-- the SSM of data that are good: 11 for BNR, 00 else
abbrev pub good_ssm : Format → ℕ
good_ssm Bnr = 3
good_ssm Bcd = 0
good_ssm Disc = 0

-- the SDI that is declared, 0 where any is
abbrev pub sdi_or_zero : Option ℕ → ℕ
sdi_or_zero sdi = unwrap_or sdi 0

-- the word of a stream in a tick
abbrev pub word_of : TableRows → (stream tick : ℕ) → ℕ
word_of t s tick = composed_word (stream_row t s).label (sdi_or_zero (stream_row t s).sdi) (tick % DATA_VALUES) (good_ssm (stream_row t s).format)

-- whether a word of the bus's stream k, from 0, comes in this tick
abbrev pub comes : TableRows → (bus tick k : ℕ) → Writing → Bool
comes t b tick k w =
    is_rested (stream_row t ((bus_row t b).first + k)).minimum tick (slice_index_or w.lasts k None)
    && nat_lt (time_in t.tick_us tick w.free_us) ((tick + 1) * t.tick_us)

-- with a word of the bus's stream k in this tick, after which the wire is free one input spacing on from its own time
abbrev pub brought : TableRows → (bus tick k : ℕ) → Writing → Writing
brought t b tick k w = record {
  free_us = time_in t.tick_us tick w.free_us + (bus_row t b).spacing;
  lasts = slice_set w.lasts k (Some tick);
  words = w.words ++ record { tick = tick; word = word_of t ((bus_row t b).first + k) tick } ∷ [];
}

-- the turn of the bus's stream k in this tick
abbrev pub turn : TableRows → (bus tick k : ℕ) → Writing → Writing
turn t b tick k w = cond (comes t b tick k w) (brought t b tick k w) w

-- the turns of the bus's first n streams, in order
abbrev pub turns : TableRows → (bus tick n : ℕ) → Writing → Writing
turns t b tick zero w = w
turns t b tick (suc n) w = turn t b tick n (turns t b tick n w)

-- nothing is written, and the first possible time is 0
abbrev pub unwritten : ℕ → Writing
unwritten streams = record { free_us = 0; lasts = replicate streams None; words = [] }

-- the words of so many ticks
abbrev pub written : TableRows → (bus ticks : ℕ) → Writing
written t b zero = unwritten (bus_row t b).streams
written t b (suc tick) = turns t b tick (bus_row t b).streams (written t b tick)

-- f 0, f 1, .. f (n - 1)
abbrev pub listed : {X : Type 0} → (ℕ → X) → ℕ → List X
listed f zero = []
listed f (suc n) = listed f n ++ f n ∷ []

-- the script of a bench: on each bus as many words as come
unfoldable pub bench_script : TableRows → ℕ → ScriptView
bench_script t ticks = record { ticks = ticks; words = listed (λ b. (written t b ticks).words) (length t.buses) }
