-- A chain of concentrators, the last one first, and where the words come from that leave it.
use Rattle.std.specs.Prelude.{◌≡◌, ◌≢◌, ℕ, ◌+◌, ◌*◌, ◌<◌, ◌≤◌, ◌⊎◌, max, List, [], ◌∷◌, slice_index}
use Rattle.std.specs.List.{Contains}
use Rattle.dc_word.specs.Word.{data_of, ssm_of, copied_word}
use Rattle.dc_tables.specs.TableRows.{stream_row, label_row}
use Rattle.dc_event.specs.Choice.{fallback_for}
use Rattle.dc_chain.specs.Concentrators.{Concentrator, Link, RunsInTime, KeepsClaims, IsLinked, arrivals_at, sends_of}

-- ---- one concentrator, and two

-- how long a word of the label may be in the concentrator: less than the ticks of its age, and one more, of the longest
abbrev pub stay_of : Concentrator → ℕ → ℕ
stay_of c x = (slice_index c.ages x + 1) * c.clock.longest

-- the word that the label sends at `time` copies v, a word of stream s that came to its bus less than the label's stay before
pub record Copies (c : Concentrator) (time x word s v came : ℕ) : Type 0 where
  pub arrived : Contains (arrivals_at c (stream_row c.rows s).bus) (came, (s, v))
  pub copied : word ≡ copied_word (label_row c.rows x).label (label_row c.rows x).sdi v
  pub before : came ≤ time
  pub aged : time < came + stay_of c x

-- it is the label's fallback, or copies a word v of stream s that came at `came`, and of these `Of s v came` holds
abbrev pub IsCopyOr : (Concentrator → (time x word : ℕ) → (Of : (s v came : ℕ) → Type 0) → Type 0)
IsCopyOr c time x word Of = (word ≡ fallback_for c.rows x) ⊎ ((s : ℕ) × (v : ℕ) × (came : ℕ) × Copies c time x word s v came × Of s v came)

-- a word that came over the link was sent as label y of the output, and is its fallback, or copies one that came to the first concentrator
-- less than both stays and the link's greatest latency ago
pub record CameThrough (from : Concentrator) (link : Link) (time limit v came : ℕ) : Type 0 where
  pub label : ℕ
  pub sent : ℕ
  pub leaves : Contains (sends_of from link.output) (sent, (label, v))
  pub no_sooner : sent + link.least ≤ came
  pub no_later : came ≤ sent + link.most
  pub origin : IsCopyOr from sent label v (λ r u first. time < first + stay_of from label + link.most + limit)

-- ---- a chain

-- the concentrator before another, and the link from it
pub record Stage : Type 0 where
  pub from : Concentrator
  pub link : Link

-- each runs in time and keeps its claims, and a link leads from each to the next
abbrev pub IsChain : Concentrator → List Stage → Type 0
IsChain c [] = RunsInTime c × KeepsClaims c
IsChain c (l ∷ stages) = RunsInTime c × KeepsClaims c × IsLinked l.from l.link c × IsChain l.from stages

-- the greatest of some ages
abbrev pub greatest : List ℕ → ℕ
greatest [] = 0
greatest (a ∷ ages) = max a (greatest ages)

-- how long a word may be in a concentrator: less than the ticks of its greatest age, and one more, of the longest
abbrev pub longest_stay : Concentrator → ℕ
longest_stay c = (greatest c.ages + 1) * c.clock.longest

-- how long it may be in the chain, with the links' greatest latencies
abbrev pub longest_way : Concentrator → List Stage → ℕ
longest_way c [] = longest_stay c
longest_way c (l ∷ stages) = longest_stay c + l.link.most + longest_way l.from stages

-- the word came at that time to a bus of the chain that no link of it leads to
abbrev pub ComesIn : Concentrator → List Stage → (time word : ℕ) → Type 0
ComesIn c [] time word = (s : ℕ) × Contains (arrivals_at c (stream_row c.rows s).bus) (time, (s, word))
ComesIn c (l ∷ stages) time word = ((s : ℕ) × ((stream_row c.rows s).bus ≢ l.link.bus) × Contains (arrivals_at c (stream_row c.rows s).bus) (time, (s, word))) ⊎ ComesIn l.from stages time word

-- no computed data: data 0 and SSM 01 (ARINC Specification 429 Part 1, 2.1.5)
abbrev pub IsNoData : ℕ → Type 0
IsNoData w = (data_of w ≡ 0) × (ssm_of w ≡ 1)

-- a word that leaves at `time` has the data and the SSM of one that came in before, less than so long ago
pub record HasCome (c : Concentrator) (stages : List Stage) (time word limit came origin : ℕ) : Type 0 where
  pub comes : ComesIn c stages came origin
  pub same_data : data_of word ≡ data_of origin
  pub same_ssm : ssm_of word ≡ ssm_of origin
  pub before : came ≤ time
  pub young : time < came + limit

-- it is no computed data, or has come so
abbrev pub IsFresh : Concentrator → List Stage → (time word limit : ℕ) → Type 0
IsFresh c stages time word limit = IsNoData word ⊎ ((came : ℕ) × (origin : ℕ) × HasCome c stages time word limit came origin)
