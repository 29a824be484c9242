-- The concentrators and links of a network as the program has them.
use Rattle.std.specs.Prelude.{◌≡◌, ℕ, ◌+◌, ◌*◌, ◌<◌, ◌≤◌, ◌⊎◌, ◌==◌, cond, List, [], length, slice_index, slice_index_or}
use Rattle.dc_build.specs.Written.{WrittenRows, AreWritten}
use Rattle.dc_cert.specs.Bounds.{numbers_of}
use Rattle.dc_cert.specs.NamedRows.{NamedRows}
use Rattle.dc_check.specs.Accepts.{Accepts}
use Rattle.dc_order.specs.declared.limits.TheConstants.{MOST_CONCENTRATORS, LONGEST_LATENCY}
use Rattle.dc_document.specs.Document.{empty_document}
use Rattle.dc_document.specs.declared.parts.Version.TheVariants.{One}
use Rattle.dc_in_time.specs.Documents.{intervals_of}
use Rattle.dc_tables.specs.TableNames.{no_names}
use Rattle.dc_tables.specs.TableRows.{TableRows, AreValid, label_row}
use Rattle.dc_chain.specs.Concentrators.{Link}
use Rattle.dc_network.specs.Networks.{Member as NetworkMember, Network, greatest_below, stay, way_over, way_of}
use Rattle.dc_ways.specs.declared.connection.Connection.{Connection}

-- ---- a concentrator

-- tables beside their document, and what a certificate claims of them
pub record MemberRows : Type 0 where
  pub written : WrittenRows
  pub claims : NamedRows

-- the document breaks no rule, the tables are its own, and the certificate is accepted for them
pub record IsMember (m : MemberRows) : Type 0 where
  pub written : AreWritten m.written
  pub valid : AreValid m.written.tables
  pub accepted : Accepts m.written.tables m.claims

-- the ages of its certificate, in ticks
abbrev pub ages_in : MemberRows → List ℕ
ages_in m = (numbers_of m.claims).ages

-- the concentrator of a network: its intervals are those of its document, and its ticks last what its document says
abbrev pub member_of : MemberRows → NetworkMember
member_of m = record { rows = m.written.tables; us = intervals_of m.written.parts m.written.tables; ages = ages_in m; longest = m.written.tables.tick_us }

-- ---- all of them

abbrev pub no_member : MemberRows
no_member = record {
  written = record { parts = empty_document One 0; tables = record { tick_us = 0; buses = []; streams = []; routers = []; outputs = []; labels = []; names = no_names } };
  claims = record { inputs = []; outputs = []; labels = [] };
}

-- concentrator i
abbrev pub concentrator : List MemberRows → ℕ → MemberRows
concentrator members i = slice_index_or members i no_member

-- its tables, and as it stands in a network
abbrev pub rows_of : List MemberRows → ℕ → TableRows
rows_of members i = (concentrator members i).written.tables

abbrev pub member_at : List MemberRows → ℕ → NetworkMember
member_at members i = member_of (concentrator members i)

-- ---- links

-- the link of a connection
abbrev pub link_of : Connection → Link
link_of c = record { output = c.output; bus = c.bus; least = c.least_us; most = c.most_us }

-- connection k
abbrev pub connection_at : List Connection → ℕ → Connection
connection_at connections k = slice_index_or connections k (record { from = 0; to = 0; output = 0; bus = 0; least_us = 0; most_us = 0 })

-- each leads from one of so many concentrators to one of them, and none takes longer than a link may
pub record AreConnections (size : ℕ) (connections : List Connection) : Type 0 where
  pub from : (k : ℕ) → k < length connections → (connection_at connections k).from < size
  pub to : (k : ℕ) → k < length connections → (connection_at connections k).to < size
  pub short : (k : ℕ) → k < length connections → (connection_at connections k).most_us ≤ LONGEST_LATENCY

-- the network of these
abbrev pub network_of : List MemberRows → List Connection → Network
network_of members connections = record {
  size = length members;
  member = member_at members;
  links = length connections;
  connection = λ k. let c = connection_at connections k in record { from = c.from; to = c.to; link = link_of c };
}

-- ---- what is computed

-- each link leads from an earlier place to a later one, the last of which is no more than there may be concentrators
pub record ArePlaces (members : List MemberRows) (connections : List Connection) (places : List ℕ) : Type 0 where
  pub each : length places ≡ length members
  pub few : (i : ℕ) → slice_index places i ≤ MOST_CONCENTRATORS
  pub order : (k : ℕ) → k < length connections → slice_index places (connection_at connections k).from < slice_index places (connection_at connections k).to

-- the way of label x of concentrator i
abbrev pub ways_in : List (List ℕ) → ℕ → ℕ → ℕ
ways_in rows i x = slice_index (slice_index_or rows i []) x

-- no way is over b
abbrev pub AreSmall : List (List ℕ) → ℕ → Type 0
AreSmall rows b = (i x : ℕ) → ways_in rows i x ≤ b

-- these are the ways of concentrator i
abbrev pub AreWaysOf : List MemberRows → List Connection → List (List ℕ) → (i : ℕ) → List ℕ → Type 0
AreWaysOf members connections rows i row = (x : ℕ) → x < length (rows_of members i).labels → slice_index row x ≡ way_of (network_of members connections) (ways_in rows) i x

-- the way of a label whose sources' words come after these
abbrev pub way_from : NetworkMember → (before : ℕ → ℕ) → ℕ → ℕ
way_from m before x = let row = label_row m.rows x in greatest_below (λ k. stay m x + before (slice_index row.sources k)) (length row.sources)

-- how long a word of stream s may be under way when it comes to concentrator i by this link; 0 where the link leads elsewhere
abbrev pub way_by : List MemberRows → Connection → List (List ℕ) → (i s : ℕ) → ℕ
way_by members link rows i s = cond (link.to == i) (way_over (rows_of members link.from) (rows_of members i) (link_of link) (ways_in rows link.from) s) 0

-- the longest way over one concentrator and one link: the ticks of the greatest age and one more, of the longest, and the longest latency
abbrev pub longest_step : ℕ
longest_step = 20001010000

-- where no way of a concentrator from which a link leads to i is over b, these are longer by a step at most
abbrev pub AreBounded : List MemberRows → List Connection → List (List ℕ) → (i : ℕ) → List ℕ → Type 0
AreBounded members connections rows i row =
    (b : ℕ) → ((k : ℕ) → k < length connections → (connection_at connections k).to ≡ i → (y : ℕ) → ways_in rows (connection_at connections k).from y ≤ b) → (x : ℕ) → slice_index row x ≤ longest_step + b

-- those of places before `level`, and of this place the first i, have their ways; none is longer than its place allows
pub record AreSoFar (members : List MemberRows) (connections : List Connection) (places : List ℕ) (level i : ℕ) (rows : List (List ℕ)) : Type 0 where
  pub each : length rows ≡ length members
  pub done : (j : ℕ) → j < length members → (slice_index places j < level) ⊎ ((slice_index places j ≡ level) × (j < i)) → AreWaysOf members connections rows j (slice_index_or rows j [])
  pub bounded : (j x : ℕ) → ways_in rows j x ≤ (slice_index places j + 1) * longest_step
