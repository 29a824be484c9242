-- Whether a link fits, stream by stream, and what the first fault is.
use Rattle.std.specs.Prelude.{◌≡◌, ◌≢◌, ℕ, ◌+◌, ◌-◌, ◌<◌, ◌≤◌, option_map, length, slice_get}
use Rattle.dc_document.specs.Document.{Document}
use Rattle.dc_tables.specs.TableRows.{TableRows, stream_row, label_row}
use Rattle.dc_chain.specs.Concentrators.{Link}
use Rattle.dc_network.specs.Networks.{Member, IsFeeder, Fits, variation}
use Rattle.dc_ways.specs.declared.fitting.Feeder.{Feeder}
use Rattle.dc_ways.specs.declared.fitting.Feeder.TheVariants.{Nothing, One, Several}
use Rattle.dc_ways.specs.declared.fitting.StreamRule.{StreamRule}
use Rattle.dc_ways.specs.declared.fitting.StreamRule.TheVariants.{TwoLabels, Formats, TooSoon, TooLate}
use Rattle.dc_ways.specs.declared.fitting.LinkFault.{LinkFault}
use Rattle.dc_ways.specs.declared.fitting.LinkFault.TheVariants.{NoEnd, Speeds, Stream}
use Rattle.dc_ways.specs.Members.{MemberRows, member_of}

-- of the labels below m, none feeds the stream, or one, or more
abbrev pub IsFound : (from to : TableRows) → Link → (s m : ℕ) → Feeder → Type 0
IsFound from to link s m Nothing = (x : ℕ) → x < m → IsFeeder from to link x s → ⊥
IsFound from to link s m (One y) = (y < m) × IsFeeder from to link y s × ((x : ℕ) → x < m → IsFeeder from to link x s → x ≡ y)
IsFound from to link s m Several = (x : ℕ) × (y : ℕ) × IsFeeder from to link x s × IsFeeder from to link y s × (x ≢ y)

-- one label at most feeds the stream
abbrev pub IsAlone : (from to : TableRows) → Link → ℕ → Type 0
IsAlone from to link s = (x y : ℕ) → IsFeeder from to link x s → IsFeeder from to link y s → x ≡ y

-- the label and the stream have one format
abbrev pub AreAlike : (from to : TableRows) → (x s : ℕ) → Type 0
AreAlike from to x s = (label_row from x).format ≡ (stream_row to s).format

-- the label's words are as far apart as the stream's have to be
abbrev pub IsSpaced : (from to : Member) → Link → (x s : ℕ) → Type 0
IsSpaced from to link x s = to.us.stream_least s + (variation link - to.us.stream_jitter s) ≤ from.us.label_least x

-- they come as often as the stream's have to
abbrev pub IsLasting : (from to : Member) → Link → (x s : ℕ) → Type 0
IsLasting from to link x s = from.us.label_most x + variation link ≤ to.us.stream_most s

-- the label keeps what is asked of the stream's words
pub record KeepsPair (from to : Member) (link : Link) (x s : ℕ) : Type 0 where
  pub alike : AreAlike from.rows to.rows x s
  pub spaced : IsSpaced from to link x s
  pub lasting : IsLasting from to link x s

-- the first rule that it breaks, of three
abbrev pub BreaksPair : (from to : Member) → Link → (x s : ℕ) → StreamRule → Type 0
BreaksPair from to link x s TwoLabels = ⊥
BreaksPair from to link x s Formats = ¬ AreAlike from.rows to.rows x s
BreaksPair from to link x s TooSoon = AreAlike from.rows to.rows x s × ¬ IsSpaced from to link x s
BreaksPair from to link x s TooLate = AreAlike from.rows to.rows x s × IsSpaced from to link x s × ¬ IsLasting from to link x s

-- the stream keeps all four rules
pub record KeepsStream (from to : Member) (link : Link) (s : ℕ) : Type 0 where
  pub alone : IsAlone from.rows to.rows link s
  pub each : (x : ℕ) → IsFeeder from.rows to.rows link x s → KeepsPair from to link x s

-- the first rule that the stream breaks: two labels feed it, or the one that does breaks it
abbrev pub BreaksStream : (from to : Member) → Link → (s : ℕ) → StreamRule → Type 0
BreaksStream from to link s TwoLabels = (x : ℕ) × (y : ℕ) × IsFeeder from.rows to.rows link x s × IsFeeder from.rows to.rows link y s × (x ≢ y)
BreaksStream from to link s Formats = IsAlone from.rows to.rows link s × ((x : ℕ) × IsFeeder from.rows to.rows link x s × BreaksPair from to link x s Formats)
BreaksStream from to link s TooSoon = IsAlone from.rows to.rows link s × ((x : ℕ) × IsFeeder from.rows to.rows link x s × BreaksPair from to link x s TooSoon)
BreaksStream from to link s TooLate = IsAlone from.rows to.rows link s × ((x : ℕ) × IsFeeder from.rows to.rows link x s × BreaksPair from to link x s TooLate)

-- the link's output and bus are there
abbrev pub HasEnds : (from to : TableRows) → Link → Type 0
HasEnds from to link = (link.output < length from.outputs) × (link.bus < length to.buses)

-- they are of one speed (ARINC Specification 429 Part 1, 2.4.1)
abbrev pub SpeedsMeet : (from to : Document) → Link → Type 0
SpeedsMeet from to link = option_map (λ o. o.speed) (slice_get from.outputs link.output) ≡ option_map (λ b. b.speed) (slice_get to.buses link.bus)

-- a link of one speed that fits
pub record IsGood (from to : MemberRows) (link : Link) : Type 0 where
  pub speeds : SpeedsMeet from.written.parts to.written.parts link
  pub fits : Fits (member_of from) (member_of to) link

-- the first fault of a link: an end that is not there; two speeds; or a stream that breaks a rule after none before it does
abbrev pub IsLinkFault : (from to : MemberRows) → Link → LinkFault → Type 0
IsLinkFault from to link NoEnd = ¬ HasEnds from.written.tables to.written.tables link
IsLinkFault from to link Speeds = HasEnds from.written.tables to.written.tables link × ¬ SpeedsMeet from.written.parts to.written.parts link
IsLinkFault from to link (Stream s rule) =
    HasEnds from.written.tables to.written.tables link × SpeedsMeet from.written.parts to.written.parts link × (s < length to.written.tables.streams)
    × ((r : ℕ) → r < s → KeepsStream (member_of from) (member_of to) link r) × BreaksStream (member_of from) (member_of to) link s rule
