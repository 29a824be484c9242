-- Networks of concentrators. Links lead from outputs to buses: several buses of one concentrator may be fed, and one output may feed several.
use Rattle.std.specs.Prelude.{◌≡◌, ℕ, zero, suc, ◌+◌, ◌-◌, ◌*◌, ◌<◌, ◌≤◌, ◌==◌, ◌&&◌, Bool, true, cond, max, List, length, slice_index}
use Rattle.dc_tables.specs.Declares.{fits}
use Rattle.dc_tables.specs.TableRows.{TableRows, stream_row, label_row}
use Rattle.dc_time.specs.Intervals.{Intervals}
use Rattle.dc_chain.specs.Concentrators.{Link}

-- a concentrator as it is built: its tables, the intervals in microseconds that it keeps, the ages of its certificate, and its longest tick
pub record Member : Type 0 where
  pub rows : TableRows
  pub us : Intervals
  pub ages : List ℕ
  pub longest : ℕ

-- a link from one concentrator to another, by their numbers
pub record Connection : Type 0 where
  pub from : ℕ
  pub to : ℕ
  pub link : Link

-- so many concentrators and so many links, by number
pub record Network : Type 0 where
  pub size : ℕ
  pub member : ℕ → Member
  pub links : ℕ
  pub connection : ℕ → Connection

-- a link leads to the bus of the concentrator
pub record IsFed (n : Network) (i b : ℕ) : Type 0 where
  pub number : ℕ
  pub there : number < n.links
  pub to : (n.connection number).to ≡ i
  pub bus : (n.connection number).link.bus ≡ b

-- Rings are excluded: the concentrators have places, and each link leads to a later one
abbrev pub IsOrder : Network → (ℕ → ℕ) → Type 0
IsOrder n place = (k : ℕ) → k < n.links → place (n.connection k).from < place (n.connection k).to

-- ---- a link fits

-- the words of label x are of stream s of the link's bus: the label is of the link's output, and the stream declares its number and its SDI
abbrev pub feeds : (from to : TableRows) → Link → (x s : ℕ) → Bool
feeds from to link x s =
    let label = label_row from x in
    let stream = stream_row to s in
    (label.output == link.output) && ((stream.bus == link.bus) && (stream.label == label.label) && fits stream.sdi label.sdi)

-- the label and the stream are there, and it feeds it
pub record IsFeeder (from to : TableRows) (link : Link) (x s : ℕ) : Type 0 where
  pub label : x < length from.labels
  pub stream : s < length to.streams
  pub feeds : feeds from to link x s ≡ true

-- by how much the latency varies
abbrev pub variation : Link → ℕ
variation link = link.most - link.least

-- One label at most feeds each stream, in the stream's format. Its least interval is no less than the stream's and what of the latency's variation
-- the stream's jitter does not cover; its greatest and that variation are within the stream's
pub record Fits (from to : Member) (link : Link) : Type 0 where
  pub output_there : link.output < length from.rows.outputs
  pub bus_there : link.bus < length to.rows.buses
  pub alone : (x y s : ℕ) → IsFeeder from.rows to.rows link x s → IsFeeder from.rows to.rows link y s → x ≡ y
  pub alike : (x s : ℕ) → IsFeeder from.rows to.rows link x s → (label_row from.rows x).format ≡ (stream_row to.rows s).format
  pub spaced : (x s : ℕ) → IsFeeder from.rows to.rows link x s → to.us.stream_least s + (variation link - to.us.stream_jitter s) ≤ from.us.label_least x
  pub lasting : (x s : ℕ) → IsFeeder from.rows to.rows link x s → from.us.label_most x + variation link ≤ to.us.stream_most s

-- ---- ways

-- the greatest of f 0, f 1 and so on, below n; 0 where there is none
abbrev pub greatest_below : (ℕ → ℕ) → ℕ → ℕ
greatest_below f zero = 0
greatest_below f (suc k) = max (greatest_below f k) (f k)

-- how long a word of the label may be in the concentrator: less than the ticks of its age, and one more, of the longest
abbrev pub stay : Member → ℕ → ℕ
stay m x = (slice_index m.ages x + 1) * m.longest

-- how long a word of stream s may be under way when it comes over the link: its greatest latency, and the way of the label that feeds the stream
abbrev pub way_over : (from to : TableRows) → Link → (ways : ℕ → ℕ) → ℕ → ℕ
way_over from to link ways s = greatest_below (λ y. cond (feeds from to link y s) (link.most + ways y) 0) (length from.labels)

-- how long a word of stream s may be under way when it comes to concentrator i: nothing where no link leads to its bus
abbrev pub way_to : Network → (ways : ℕ → ℕ → ℕ) → (i s : ℕ) → ℕ
way_to n ways i s =
    greatest_below (λ k. let c = n.connection k in cond (c.to == i) (way_over (n.member c.from).rows (n.member i).rows c.link (ways c.from) s) 0) n.links

-- the way of a label: the greatest over its sources of its stay and of their words' way before
abbrev pub way_of : Network → (ways : ℕ → ℕ → ℕ) → (i x : ℕ) → ℕ
way_of n ways i x =
    let row = label_row (n.member i).rows x in
    greatest_below (λ k. stay (n.member i) x + way_to n ways i (slice_index row.sources k)) (length row.sources)

-- the ways of all labels, by concentrator and label: each from those before it
abbrev pub AreWays : Network → (ℕ → ℕ → ℕ) → Type 0
AreWays n ways = (i x : ℕ) → i < n.size → x < length (n.member i).rows.labels → ways i x ≡ way_of n ways i x
