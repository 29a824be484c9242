-- The margins of a certificate: how far each of its conditions is from failing, and what decides it. A margin is negative
-- exactly where its condition fails; one that rests on a window or on a delay out of range is not told.
use Rattle.std.specs.Prelude.{ℕ, ◌+◌, ◌-◌, Bool, true, false, not, ◌&&◌, if◌then◌else◌, nat_lt, nat_le, ℤ, pos, ◌-ℤ◌, int_lt, Option, Some, None, List, slice_index}
use Rattle.std.specs.Int.{int_min}
use Rattle.std.specs.List.{fold}
use Rattle.dc_busy.specs.declared.limits.TheConstants.{LONGEST_WINDOW}
use Rattle.dc_cert.specs.Bounds.{InputBound, OutputBound, CertificateRows}
use Rattle.dc_check.specs.Accepts.{label_delay, source_delay}
use Rattle.dc_check.specs.Verdict.{is_window, is_delay}
use Rattle.dc_margin.specs.Peaks.{peak, waiting, needed}
use Rattle.dc_margin.specs.declared.margin.Margin.{Margin}
use Rattle.dc_margin.specs.declared.margin.InputMargins.{InputMargins}
use Rattle.dc_margin.specs.declared.margin.OutputMargins.{OutputMargins}
use Rattle.dc_margin.specs.declared.margin.LabelMargins.{LabelMargins}
use Rattle.dc_margin.specs.declared.margin.Decider.{Decider}
use Rattle.dc_margin.specs.declared.margin.Decider.TheVariants.{Numbers, Window, Gap, Source}
use Rattle.dc_tables.specs.TableRows.{TableRows, bus_row, stream_row, label_row, bus_cap, bus_floor, output_cap, output_floor}
use Rattle.dc_transmit.specs.Schedule.{schedule_of, least_label_gap, greatest_label_gap}

-- ---- one margin

-- x less y
abbrev pub room : (x y : ℕ) → ℤ
room x y = pos x -ℤ pos y

-- so much room, decided by this
abbrev pub margin_by : ℤ → Decider → Margin
margin_by slack decider = record { slack = Some slack; decider = decider }

-- so much room or none, decided by so many ticks of the window
abbrev pub by_window : Option ℤ → ℕ → Margin
by_window slack w = record { slack = slack; decider = Window w }

-- the margin, where what it rests on is in range
abbrev pub told : Bool → Margin → Option Margin
told in_range margin = if in_range then Some margin else None

-- ---- the conditions on a queue, by the most that comes (cap) and the fewest that are taken (floor) in so many ticks

-- C02: how far the window is from the nearer of its limits, 1 and the longest window
abbrev pub window_margin_of : ℕ → Margin
window_margin_of window = margin_by (int_min (room window 1) (room LONGEST_WINDOW window)) Numbers

-- C03: how many more are taken in the window's ticks but the first than may come in all of them
abbrev pub closing_margin_of : (cap floor : ℕ → ℕ) → ℕ → Margin
closing_margin_of cap floor window = margin_by (room (floor (window - 1)) (cap window)) Numbers

-- C04: the backlog less the most that may wait, at the first w of the window with so many
unfoldable pub backlog_margin_of : (cap floor : ℕ → ℕ) → (window backlog : ℕ) → Margin
backlog_margin_of cap floor window backlog =
    let w = peak (waiting cap floor) window in
    margin_by (room backlog (waiting cap floor w)) (Window w)

-- C05: the places of the queue less the backlog
abbrev pub queue_margin_of : (queue backlog : ℕ) → Margin
queue_margin_of queue backlog = margin_by (room queue backlog) Numbers

-- C06: the delay less the least that passes, with the first w of the window that needs it; none where no delay up to
-- the longest window passes, with the first w for which none does
unfoldable pub delay_margin_of : (cap floor : ℕ → ℕ) → (window delay : ℕ) → Margin
delay_margin_of cap floor window delay =
    let w = peak (needed cap floor) window in
    by_window (if nat_le (needed cap floor w) LONGEST_WINDOW then Some (room delay (needed cap floor w)) else None) w

-- C07: how far the delay is from its limit, the longest window
abbrev pub delay_limit_margin_of : ℕ → Margin
delay_limit_margin_of delay = margin_by (room LONGEST_WINDOW delay) Numbers

-- ---- an input, an output

-- of a bus by the most words that come and the fewest visits in so many ticks, and by its queue; told where the numbers that it rests on are in range
abbrev pub input_margins_given : (cap floor : ℕ → ℕ) (queue : ℕ) → InputBound → InputMargins
input_margins_given cap floor queue c = record {
  window = Some (window_margin_of c.window);
  delay_limit = Some (delay_limit_margin_of c.delay);
  closes = told (is_window c.window) (closing_margin_of cap floor c.window);
  backlog = told (is_window c.window) (backlog_margin_of cap floor c.window c.backlog);
  queue = Some (queue_margin_of queue c.backlog);
  delay = told (is_window c.window && is_delay c.delay) (delay_margin_of cap floor c.window c.delay);
}

-- of an output by the most entries that come due and the fewest sends in so many ticks, told likewise
abbrev pub output_margins_given : (cap floor : ℕ → ℕ) → OutputBound → OutputMargins
output_margins_given cap floor c = record {
  window = Some (window_margin_of c.window);
  delay_limit = Some (delay_limit_margin_of c.delay);
  closes = told (is_window c.window) (closing_margin_of cap floor c.window);
  delay = told (is_window c.window && is_delay c.delay) (delay_margin_of cap floor c.window c.delay);
}

-- of the bus of this number
abbrev pub input_margins_of : TableRows → ℕ → InputBound → InputMargins
input_margins_of t b c = input_margins_given (bus_cap t b) (bus_floor t b) (bus_row t b).queue c

-- of the output of this number
abbrev pub output_margins_of : TableRows → ℕ → OutputBound → OutputMargins
output_margins_of t o c = output_margins_given (output_cap t o) (output_floor t o) c

-- ---- a label

-- the later of two numbers, where f is greater there
abbrev pub greater_of : (ℕ → ℕ) → ℕ → ℕ → ℕ
greater_of f best x = if nat_lt (f best) (f x) then x else best

-- the first of these numbers at which f is greatest
unfoldable pub greatest_at : (ℕ → ℕ) → List ℕ → ℕ
greatest_at f xs = fold (greater_of f) (slice_index xs 0) xs

-- the first source of the label whose bus delays it longest
abbrev pub slowest_source : TableRows → CertificateRows → ℕ → ℕ
slowest_source t c x = greatest_at (source_delay t c) (label_row t x).sources

-- how long a source's words may lie apart when they are routed
abbrev pub silence : TableRows → CertificateRows → ℕ → ℕ
silence t c s = source_delay t c s + (stream_row t s).maximum

-- the first source of the label whose words may lie apart longest
abbrev pub rarest_source : TableRows → CertificateRows → ℕ → ℕ
rarest_source t c x = greatest_at (silence t c) (label_row t x).sources

-- whether the delay of each of its sources is in range
abbrev pub are_in_range : TableRows → CertificateRows → ℕ → Bool
are_in_range t c x = is_delay (source_delay t c (slowest_source t c x))

-- C08: the least gap less the least interval and the delay of the output
abbrev pub soon_margin_of : (gap minimum delay : ℕ) → Margin
soon_margin_of gap minimum delay = margin_by (room gap (minimum + delay)) (Gap gap)

-- C09: the greatest interval less the greatest gap and the delay of the output
abbrev pub late_margin_of : (gap maximum delay : ℕ) → Margin
late_margin_of gap maximum delay = margin_by (room maximum (gap + delay)) (Gap gap)

-- C08 of the label, where its output has this delay
abbrev pub soon_margin : TableRows → (label delay : ℕ) → Option Margin
soon_margin t x delay = told (is_delay delay) (soon_margin_of (least_label_gap (schedule_of t (label_row t x).output) x) (label_row t x).minimum delay)

-- C09 of the label, where its output has this delay
abbrev pub late_margin : TableRows → (label delay : ℕ) → Option Margin
late_margin t x delay = told (is_delay delay) (late_margin_of (greatest_label_gap (schedule_of t (label_row t x).output) x) (label_row t x).maximum delay)

-- C10: the age less the stale limit and the greatest delay of a source
abbrev pub age_margin_of : (age stale delay source : ℕ) → Margin
age_margin_of age stale delay source = margin_by (room age (stale + delay)) (Source source)

-- C10 of the label, where it has this age
abbrev pub age_margin : TableRows → CertificateRows → (label age : ℕ) → Option Margin
age_margin t c x age = told (are_in_range t c x) (age_margin_of age (label_row t x).stale (source_delay t c (slowest_source t c x)) (slowest_source t c x))

-- C11: the label's limit less the age
abbrev pub age_limit_margin_of : (limit age : ℕ) → Margin
age_limit_margin_of limit age = margin_by (room limit age) Numbers

-- C12: the stale limit less the longest time between two words of a source
abbrev pub fresh_margin_of : (stale silent source : ℕ) → Margin
fresh_margin_of stale silent source = margin_by (room stale silent) (Source source)

-- C12 of the label
abbrev pub fresh_margin : TableRows → CertificateRows → (label : ℕ) → Option Margin
fresh_margin t c x = told (are_in_range t c x) (fresh_margin_of (label_row t x).stale (silence t c (rarest_source t c x)) (rarest_source t c x))

-- of the label of this number: its gaps with the delay of its output, its age and how fresh it is by the source that is worst for it
abbrev pub label_margins_of : TableRows → ℕ → CertificateRows → LabelMargins
label_margins_of t x c = record {
  soon = soon_margin t x (label_delay t c x);
  late = late_margin t x (label_delay t c x);
  age = age_margin t c x (slice_index c.ages x);
  age_limit = Some (age_limit_margin_of (label_row t x).age_limit (slice_index c.ages x));
  fresh = fresh_margin t c x;
}

-- ---- which are negative

-- whether there is room: at least 0
abbrev pub has_room : Option ℤ → Bool
has_room None = false
has_room (Some slack) = not (int_lt slack (pos 0))

-- whether a margin is not negative, or not told
unfoldable pub is_kept : Option Margin → Bool
is_kept None = true
is_kept (Some margin) = has_room margin.slack
