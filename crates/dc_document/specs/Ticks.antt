-- How close two words may follow one another on a line.
use Rattle.std.specs.Prelude.{ℕ}
use Rattle.std.specs.Int.{div_ceil}
use Rattle.dc_document.specs.declared.parts.Speed.{Speed}
use Rattle.dc_document.specs.declared.parts.Speed.TheVariants.{High, Low}

-- the least time between two words on a bus, in microseconds
abbrev pub input_spacing : Speed → ℕ
input_spacing High = 350
input_spacing Low = 2450

-- and between two words of an output
abbrev pub output_spacing : Speed → ℕ
output_spacing High = 365
output_spacing Low = 3050

-- the least number of ticks between two sends
abbrev pub output_gap : (tick : ℕ) → Speed → ℕ
output_gap tick speed = div_ceil (output_spacing speed) tick
