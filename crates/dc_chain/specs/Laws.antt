-- Laws above chains. Each is the contract of a function in `laws`.
use Rattle.std.specs.Prelude.{◌≡◌, ◌≢◌, ℕ, ◌+◌, ◌-◌, ◌<◌, ◌≤◌, ◌⊎◌, true, Some, List, [], ◌∷◌, ◌++◌, length, slice_index}
use Rattle.std.specs.List.{Contains}
use Rattle.dc_word.specs.Format.{is_usable}
use Rattle.dc_cert.specs.Bounds.{numbers_of}
use Rattle.dc_cert.specs.NamedRows.{NamedRows}
use Rattle.dc_check.specs.Accepts.{Accepts}
use Rattle.dc_event.specs.Admissible.{KeepsBudgets}
use Rattle.dc_event.specs.Choice.{chosen}
use Rattle.dc_event.specs.Emissions.{emission}
use Rattle.dc_event.specs.declared.event.Event.{Event}
use Rattle.dc_tables.specs.TableRows.{stream_row, label_row}
use Rattle.dc_time.specs.Claims.{stale_time, IsAliveInTime}
use Rattle.dc_time.specs.Sources.{KeepsSourcesInTime}
use Rattle.dc_time.specs.Timed.{events}
use Rattle.dc_chain.specs.Concentrators.{Concentrator, Link, RunsInTime, KeepsClaims, IsLinked, LinkFits, KeepsOtherSources, Delivers, FeedsAll, sends_of}
use Rattle.dc_chain.specs.Chains.{Stage, IsChain, IsFresh, longest_way, stay_of, IsCopyOr, CameThrough}

-- where a link fits, the streams of its bus keep what is asked of sources
abbrev pub SourcesFollow : Type 0
SourcesFollow = (from to : Concentrator) (link : Link) → RunsInTime from → KeepsClaims from → RunsInTime to → IsLinked from link to → LinkFits from link to
    → KeepsOtherSources to link.bus → KeepsSourcesInTime to.rows to.us to.run

-- Two in a row: a word that the second sends is its fallback, or copies a word less than its stay old, which came to another bus, or over the link
abbrev pub TwoInARow : Type 0
TwoInARow = (from to : Concentrator) (link : Link) → KeepsClaims from → KeepsClaims to → IsLinked from link to → (o time x word : ℕ) → Contains (sends_of to o) (time, (x, word))
    → IsCopyOr to time x word (λ s v came. ((stream_row to.rows s).bus ≢ link.bus) ⊎ CameThrough from link time (stay_of to x) v came)

-- what leaves a chain is no computed data, or came to it less than its longest way ago
abbrev pub WordsComeFrom : Type 0
WordsComeFrom = (c : Concentrator) (stages : List Stage) → IsChain c stages → (o time x word : ℕ) → Contains (sends_of c o) (time, (x, word)) → IsFresh c stages time word (longest_way c stages)

-- ---- accepted certificates

-- a concentrator with a certificate that is accepted, and actors that keep their budgets
pub record IsCertified (c : Concentrator) : Type 0 where
  pub claims : NamedRows
  pub accepted : Accepts c.rows claims
  pub ages : c.ages ≡ (numbers_of claims).ages
  pub budgets : KeepsBudgets c.rows (events c.run)

-- A chain of these, whose links fit. Of the first one's sources all is asked; of the others' only what no link of the chain brings
abbrev pub IsCertifiedChain : Concentrator → List Stage → Type 0
IsCertifiedChain c [] = RunsInTime c × IsCertified c × KeepsSourcesInTime c.rows c.us c.run
IsCertifiedChain c (l ∷ stages) = RunsInTime c × IsCertified c × KeepsOtherSources c l.link.bus × LinkFits l.from l.link c × IsLinked l.from l.link c × IsCertifiedChain l.from stages

-- each of them keeps its claims
abbrev pub ChainsKeepClaims : Type 0
ChainsKeepClaims = (c : Concentrator) (stages : List Stage) → IsCertifiedChain c stages → IsChain c stages

-- ---- live sources

-- Where a link loses nothing, and a label's greatest interval and the latency's variation are within the stream's greatest interval, the stream is a live source
-- of each label, from the time on at which words of it may have come for the whole stale time
abbrev pub SourcesStayAlive : Type 0
SourcesStayAlive = (from to : Concentrator) (link : Link) (x s : ℕ) → RunsInTime from → KeepsClaims from → RunsInTime to → Delivers from link to → FeedsAll from.rows to.rows link x s
    → from.us.label_most x + (link.most - link.least) ≤ to.us.stream_most s
    → (y : ℕ) (past rest : List (ℕ × Event)) (e later : ℕ × Event) → to.run ≡ past ++ (e ∷ rest) → Contains from.run later → e.0 ≤ later.0
    → to.clock.begins (label_row to.rows y).stale ≤ e.0 → from.clock.begins 0 + link.least + stale_time to.rows to.clock y < e.0
    → IsAliveInTime to.rows to.us to.clock y s past e

-- each word of the label that was sent from a time on is usable
abbrev pub SendsUsable : Concentrator → (x since : ℕ) → Type 0
SendsUsable c x since = (past rest : List (ℕ × Event)) (e : ℕ × Event) → c.run ≡ past ++ (e ∷ rest) → emission c.rows (events past) e.1 ≡ Some x → since ≤ e.0
    → is_usable (label_row c.rows x).format (chosen c.rows x (events past ++ e.1 ∷ [])) ≡ true

-- Over a link that fits and loses nothing, usable words of a label make the words of each label of the next one usable that has its stream as a source
abbrev pub UsableThrough : Type 0
UsableThrough = (from to : Concentrator) (link : Link) (x y k : ℕ) → RunsInTime from → KeepsClaims from → RunsInTime to → KeepsClaims to → IsLinked from link to → LinkFits from link to → Delivers from link to
    → k < length (label_row to.rows y).sources → FeedsAll from.rows to.rows link x (slice_index (label_row to.rows y).sources k) → (label_row to.rows y).format ≡ (label_row from.rows x).format
    → from.us.label_most x + (link.most - link.least) ≤ to.us.stream_most (slice_index (label_row to.rows y).sources k)
    → (past rest : List (ℕ × Event)) (e later : ℕ × Event) → to.run ≡ past ++ (e ∷ rest) → Contains from.run later → e.0 ≤ later.0
    → to.clock.begins (label_row to.rows y).stale ≤ e.0 → from.clock.begins 0 + link.least + stale_time to.rows to.clock y < e.0
    → emission to.rows (events past) e.1 ≡ Some y → SendsUsable from x (e.0 - (link.most + stale_time to.rows to.clock y))
    → is_usable (label_row to.rows y).format (chosen to.rows y (events past ++ e.1 ∷ [])) ≡ true
