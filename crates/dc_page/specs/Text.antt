-- Ticks as the page writes them.
use Rattle.std.specs.Prelude.{ℕ, ◌-◌, ◌*◌, ◌^◌, min, List, ◌++◌, codes}
use Rattle.dc_page_text.specs.Text.{grouped, thousandths, unit_word}
use Rattle.dc_page_text.specs.declared.amount.Unit.TheVariants.{Ticks}

-- how many microseconds so many ticks of this length last, as far as the machine's greatest number goes
abbrev pub time_of : (ticks tick : ℕ) → ℕ
time_of ticks tick = min (ticks * tick) (2 ^ 64 - 1)

-- so many ticks with their milliseconds, as `24 ticks (24 ms)`, the milliseconds in small
abbrev pub span_text : (ticks tick : ℕ) → List ℕ
span_text ticks tick = grouped ticks ++ codes " " ++ unit_word Ticks ticks ++ codes " <small>(" ++ thousandths (time_of ticks tick) ++ codes " ms)</small>"

-- an age in ticks, and below how much time it is, as `24 ticks (under 25 ms)`
abbrev pub age_text : (ticks under : ℕ) → List ℕ
age_text ticks under = grouped ticks ++ codes " " ++ unit_word Ticks ticks ++ codes " <small>(under " ++ thousandths under ++ codes " ms)</small>"
