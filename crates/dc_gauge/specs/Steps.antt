-- What a gauge holds before any word, and with a word more.
use Rattle.std.specs.Prelude.{ℕ, ◌+◌, ◌-◌, ◌^◌, min, max, nat_lt, if◌then◌else◌, is_some, not, ◌&&◌, Option, Some, None}
use Rattle.dc_gauge.specs.declared.stream.StreamGauge.{StreamGauge}
use Rattle.dc_gauge.specs.declared.timing.StreamTiming.{StreamTiming}
use Rattle.dc_gauge.specs.declared.wire.WireGauge.{WireGauge}

-- one more, at most 2^64 - 1
abbrev pub one_more : ℕ → ℕ
one_more n = min (n + 1) (2 ^ 64 - 1)

-- the lesser of what there was and one more
abbrev pub least_with : Option ℕ → ℕ → ℕ
least_with None x = x
least_with (Some n) x = min n x

-- the greater
abbrev pub greatest_with : Option ℕ → ℕ → ℕ
greatest_with None x = x
greatest_with (Some n) x = max n x

-- no word of a stream came
abbrev pub no_stream_words : StreamGauge
no_stream_words = record { words = 0; last = 0; least = None; greatest = None; over = 0; pace = 0; jitter = 0; early = None }

-- no word of a wire came
abbrev pub no_wire_words : WireGauge
no_wire_words = record { words = 0; last = 0; least = None; broken = None }

-- a stream's numbers with a word more
abbrev pub stream_gauged : StreamTiming → (time line : ℕ) → StreamGauge → StreamGauge
stream_gauged timing time line g = record {
  words = one_more g.words;
  last = time;
  least = if nat_lt 0 g.words then Some (least_with g.least (time - g.last)) else g.least;
  greatest = if nat_lt 0 g.words then Some (greatest_with g.greatest (time - g.last)) else g.greatest;
  over = if nat_lt 0 g.words && nat_lt timing.max_us (time - g.last) then one_more g.over else g.over;
  pace = min (max time g.pace + timing.min_us) (2 ^ 128 - 1);
  jitter = max g.jitter (g.pace - time);
  early = if not (is_some g.early) && nat_lt timing.jitter_us (g.pace - time) then Some line else g.early;
}

-- a wire's numbers with a word more
abbrev pub wire_gauged : (spacing time line : ℕ) → WireGauge → WireGauge
wire_gauged spacing time line g = record {
  words = one_more g.words;
  last = time;
  least = if nat_lt 0 g.words then Some (least_with g.least (time - g.last)) else g.least;
  broken = if nat_lt 0 g.words && (nat_lt (time - g.last) spacing && not (is_some g.broken)) then Some line else g.broken;
}
