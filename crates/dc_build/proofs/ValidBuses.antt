-- The buses and streams of tables that break no rule.
use Rattle.std.proofs.Common.{false, ◌≡◌, ℕ, zero, suc, ◌+◌, ◌<◌, ◌≤◌, nat_lt, ◌==◌, None, List, [], ◌∷◌, length, get_or, refl, sym, ap, ◌∙◌, arith, subst}
use Rattle.std.specs.List.{count_by}
use Rattle.std.specs.Prelude.{is_none}
use Rattle.std.proofs.lemmas.List.{get_or-map, length-map}
use Rattle.dc_word.specs.declared.format.Format.TheVariants.{Bnr}
use Rattle.dc_document.specs.Document.{Document, stream_owners, IsInOrder}
use Rattle.dc_rules.specs.Rules.{parameter_of, too_quick, outside, counts, parameter_out}
use Rattle.dc_document.specs.Keys.{stream_key}
use Rattle.dc_build.specs.RowsOf.{bus_row_of, bus_rows_from, stream_row_of, AreRows}
use Rattle.dc_tables.specs.TableRows.{TableRows, bus_row, stream_row}
use Rattle.dc_tables.specs.declared.rows.Bus.{Bus}
use Rattle.dc_tables.specs.declared.rows.Stream.{Stream}
use Rattle.dc_document.specs.declared.parts.BusPart.{BusPart}
use Rattle.dc_document.specs.declared.parts.StreamPart.{StreamPart}
use Rattle.dc_document.specs.declared.parts.RouterPart.{RouterPart}
use Rattle.dc_dict.specs.declared.parameter.Parameter.{Parameter as ParameterPart}
use Rattle.dc_rules.specs.lemmas.Picks.{rows_each, each_fails, not_outside, or_none, not_below}
use Rattle.dc_rules.specs.lemmas.Owners.{owners_fit, placed, IsPlaced}
use Rattle.dc_rules.specs.lemmas.Apart.{counts_at, counts_length}
use Rattle.dc_rules.specs.lemmas.Found.{found_holds}
use Rattle.dc_build.proofs.Intervals.{jitter_small, minimum_some, maximum_after, maximum_small, spacing_some}
use Rattle.dc_rules.specs.Obeys.{ShapeObeys, ReferencesObey, QuantitiesObey}

pub buses_length : (owners : List ℕ) (routers : List RouterPart) (b : ℕ) (xs : List BusPart) → length (bus_rows_from owners routers b xs) ≡ length xs
buses_length owners routers b [] = refl
buses_length owners routers b (x ∷ xs) = ap (λ n. suc n) (buses_length owners routers (suc b) xs)

bus_from : (P : ℕ → Bus → Type 0) (owners : List ℕ) (routers : List RouterPart) (b : ℕ) (xs : List BusPart) (e : Bus)
    → ((k : ℕ) (x : BusPart) → k < length xs → P (b + k) (bus_row_of owners routers (b + k) (get_or xs k x)))
    → (k : ℕ) → k < length xs → P (b + k) (get_or (bus_rows_from owners routers b xs) k e)
bus_from P owners routers b [] e each k h = absurd (omega arith)
bus_from P owners routers b (x ∷ xs) e each zero h =
    let z : b + 0 ≡ b = omega arith in
    let Q : ℕ → Type 0 = λ n. P n (bus_row_of owners routers n x) → P n (bus_row_of owners routers b x) in
    subst Q (sym z) (λ p. p) (each 0 x (omega arith))
bus_from P owners routers b (x ∷ xs) e each (suc k) h =
    let s : b + suc k ≡ suc b + k = omega arith in
    let Q : ℕ → Type 0 = λ n. P n (get_or (bus_rows_from owners routers (suc b) xs) k e) in
    subst Q (sym s) (bus_from P owners routers (suc b) xs e (λ j y l.
    let t : b + suc j ≡ suc b + j = omega arith in
    let R : ℕ → Type 0 = λ n. P n (bus_row_of owners routers n (get_or xs j y)) in
    subst R t (each (suc j) y (omega arith))) k (omega arith))

module _ (d : Document) (t : TableRows) (rows : AreRows d t) where
  pub bus_count : length t.buses ≡ length d.buses
  bus_count = ap (λ (l : List Bus). length l) rows.buses ∙ buses_length (stream_owners d) d.routers 0 d.buses

  pub stream_count : length t.streams ≡ length d.streams
  stream_count = ap (λ (l : List Stream). length l) rows.streams ∙ length-map d.streams (stream_row_of d.tick_us d.parameters)

  -- what holds of each bus's row holds of each row
  pub each_bus : (P : ℕ → Bus → Type 0) → ((k : ℕ) (x : BusPart) → k < length d.buses → P k (bus_row_of (stream_owners d) d.routers k (get_or d.buses k x))) → (b : ℕ) → b < length t.buses → P b (bus_row t b)
  each_bus P each b h =
      let e : Bus = record { queue = 0; police = false; spacing = 0; first = 0; streams = 0; router = 0 } in
      let l : b < length d.buses = omega (arith, bus_count) in
      let Q : List Bus → Type 0 = λ l. P b (get_or l b e) in
      let z : 0 + b ≡ b = omega arith in
      let R : ℕ → Type 0 = λ n. P n (get_or (bus_rows_from (stream_owners d) d.routers 0 d.buses) b e) in
      subst Q (sym rows.buses) (subst R z (bus_from P (stream_owners d) d.routers 0 d.buses e (λ k x m.
      let y : 0 + k ≡ k = omega arith in
      let S : ℕ → Type 0 = λ n. P n (bus_row_of (stream_owners d) d.routers n (get_or d.buses k x)) in
      subst S (sym y) (each k x m)) b l))

  pub each_stream : (P : Stream → Type 0) → ((k : ℕ) (x : StreamPart) → k < length d.streams → P (stream_row_of d.tick_us d.parameters (get_or d.streams k x))) → (s : ℕ) → s < length t.streams → P (stream_row t s)
  each_stream P each = rows_each P (stream_row_of d.tick_us d.parameters) d.streams t.streams (record { bus = 0; label = 0; sdi = None; format = Bnr; minimum = 0; maximum = 0; jitter = 0 }) rows.streams each

  pub owner_of : (s : ℕ) → s < length t.streams → (stream_row t s).bus ≡ get_or (stream_owners d) s 0
  owner_of s h =
      let l : s < length d.streams = omega (arith, stream_count) in
      let e : Stream = record { bus = 0; label = 0; sdi = None; format = Bnr; minimum = 0; maximum = 0; jitter = 0 } in
      let x : StreamPart = record { bus = 0; name = []; label = 0; equipment = 0; sdi = None; jitter_us = 0 } in
      ap (λ (ys : List Stream). (get_or ys s e).bus) rows.streams
      ∙ ap (λ (r : Stream). r.bus) (get_or-map (stream_row_of d.tick_us d.parameters) d.streams s x e l)
      ∙ sym (get_or-map (λ (y : StreamPart). y.bus) d.streams s x 0 l)

module _ (d : Document) (t : TableRows) (rows : AreRows d t) (order : IsInOrder d) where
  owned_length : length (stream_owners d) ≡ length t.streams
  owned_length = length-map d.streams (λ (y : StreamPart). y.bus) ∙ sym (stream_count d t rows)

  place_of : (b s : ℕ) → s < length t.streams → IsPlaced b (stream_owners d) s
  place_of b s h = placed b (stream_owners d) order.streams.ascend s (omega (arith, owned_length))

  pub streams_there : (b : ℕ) → b < length t.buses → (bus_row t b).first + (bus_row t b).streams ≤ length t.streams
  streams_there b h = each_bus d t rows (λ k r. r.first + r.streams ≤ length t.streams) (λ k x l. omega (arith, owners_fit k (stream_owners d), owned_length)) b h

  pub streams_of_bus : (b s : ℕ) → b < length t.buses → s < length t.streams → (stream_row t s).bus ≡ b → ((bus_row t b).first ≤ s) × (s < (bus_row t b).first + (bus_row t b).streams)
  streams_of_bus b s h k e =
      each_bus d t rows (λ j r. (get_or (stream_owners d) s 0 ≡ j → (r.first ≤ s) × (s < r.first + r.streams))) (λ j x l. (place_of j s k).0) b h (sym (owner_of d t rows s k) ∙ e)

  pub bus_of_streams : (b s : ℕ) → b < length t.buses → (bus_row t b).first ≤ s → s < (bus_row t b).first + (bus_row t b).streams → (stream_row t s).bus ≡ b
  bus_of_streams b s h m n =
      let k : s < length t.streams = omega (arith, streams_there b h) in
      owner_of d t rows s k ∙ each_bus d t rows (λ j r. r.first ≤ s → s < r.first + r.streams → get_or (stream_owners d) s 0 ≡ j) (λ j x l. (place_of j s k).1) b h m n

  pub streams_on_buses : (s : ℕ) → s < length t.streams → (stream_row t s).bus < length t.buses
  streams_on_buses s h = omega (arith, owner_of d t rows s h, order.streams.below s (omega (arith, owned_length)), bus_count d t rows)

module _ (d : Document) (t : TableRows) (rows : AreRows d t) (shape : ShapeObeys d) where
  queue_in : (k : ℕ) (x : BusPart) → k < length d.buses → (1 ≤ (get_or d.buses k x).queue) × ((get_or d.buses k x).queue ≤ 4096)
  queue_in k x l = not_outside 1 4096 (get_or d.buses k x).queue (each_fails (λ b. outside 1 4096 b.queue) d.buses shape.buses k x l)

  pub queues_some : (b : ℕ) → b < length t.buses → 1 ≤ (bus_row t b).queue
  queues_some = each_bus d t rows (λ k r. 1 ≤ r.queue) (λ k x l. (queue_in k x l).0)

  pub queues_small : (b : ℕ) → b < length t.buses → (bus_row t b).queue ≤ 4096
  queues_small = each_bus d t rows (λ k r. r.queue ≤ 4096) (λ k x l. (queue_in k x l).1)

  streams_in : (k : ℕ) → k < length d.buses → (1 ≤ count_by (λ o. o == k) (stream_owners d)) × (count_by (λ o. o == k) (stream_owners d) ≤ 256)
  streams_in k l =
      let all = counts (stream_owners d) (length d.buses) in
      let at = counts_at (stream_owners d) (length d.buses) k l in
      let in_range = not_outside 1 256 (get_or all k 0) (each_fails (λ n. outside 1 256 n) all shape.streams_of k 0 (omega (arith, l, counts_length (stream_owners d) (length d.buses)))) in
      (omega (arith, in_range.0, at), omega (arith, in_range.1, at))

  pub bus_streams_some : (b : ℕ) → b < length t.buses → 1 ≤ (bus_row t b).streams
  bus_streams_some = each_bus d t rows (λ k r. 1 ≤ r.streams) (λ k x l. (streams_in k l).0)

  pub few_bus_streams : (b : ℕ) → b < length t.buses → (bus_row t b).streams ≤ 256
  few_bus_streams = each_bus d t rows (λ k r. r.streams ≤ 256) (λ k x l. (streams_in k l).1)

  pub spacings : (b : ℕ) → b < length t.buses → 1 ≤ (bus_row t b).spacing
  spacings = each_bus d t rows (λ k r. 1 ≤ r.spacing) (λ k x l. spacing_some (get_or d.buses k x).speed)

  pub tick_in : (100 ≤ d.tick_us) × (d.tick_us ≤ 10000)
  tick_in = not_outside 100 10000 d.tick_us shape.top.tick

  pub max_in : (k : ℕ) (x : ParameterPart) → k < length d.parameters → (get_or d.parameters k x).max_us ≤ 60000000
  max_in k x l =
      let p = get_or d.parameters k x in
      (not_outside 1 60000000 p.max_us (or_none (outside 1 60000000 p.min_us) (outside 1 60000000 p.max_us) (each_fails parameter_out d.parameters shape.parameters k x l)).1).1

  pub maximums_small : (s : ℕ) → s < length t.streams → (stream_row t s).maximum ≤ 600000
  maximums_small = each_stream d t rows (λ r. r.maximum ≤ 600000) (λ k x l.
      let key = stream_key (get_or d.streams k x) in
      maximum_small d.tick_us (parameter_of d.parameters key) tick_in.0 (λ p e. found_holds (λ q. q.max_us ≤ 60000000) d.parameters key p max_in e))

  pub jitters_small : (s : ℕ) → s < length t.streams → (stream_row t s).jitter ≤ 600000
  jitters_small = each_stream d t rows (λ r. r.jitter ≤ 600000) (λ k x l.
      let s = get_or d.streams k x in
      jitter_small d.tick_us s.jitter_us tick_in.0 (not_below 60000000 s.jitter_us (each_fails (λ s. nat_lt 60000000 s.jitter_us) d.streams shape.streams k x l)))

module _ (d : Document) (quantities : QuantitiesObey d) where
  pub min_before_max : (k : ℕ) (x : ParameterPart) → k < length d.parameters → (get_or d.parameters k x).min_us ≤ (get_or d.parameters k x).max_us
  min_before_max k x l = not_below (get_or d.parameters k x).max_us (get_or d.parameters k x).min_us (each_fails (λ p. nat_lt p.max_us p.min_us) d.parameters quantities.parameters k x l)

module _ (d : Document) (t : TableRows) (rows : AreRows d t) (shape : ShapeObeys d) (quantities : QuantitiesObey d) (refs : ReferencesObey d) where
  pub minimums : (s : ℕ) → s < length t.streams → 1 ≤ (stream_row t s).minimum
  minimums = each_stream d t rows (λ r. 1 ≤ r.minimum) (λ k x l.
      minimum_some d.tick_us (parameter_of d.parameters (stream_key (get_or d.streams k x)))
      (each_fails (λ s. is_none (parameter_of d.parameters (stream_key s))) d.streams refs.streams k x l)
      (each_fails (λ s. too_quick d.tick_us (parameter_of d.parameters (stream_key s))) d.streams quantities.streams k x l))

  pub maximums : (s : ℕ) → s < length t.streams → (stream_row t s).minimum ≤ (stream_row t s).maximum
  maximums = each_stream d t rows (λ r. r.minimum ≤ r.maximum) (λ k x l.
      let key = stream_key (get_or d.streams k x) in
      let some : 0 < d.tick_us = omega (arith, tick_in d t rows shape) in
      maximum_after d.tick_us (parameter_of d.parameters key) some (λ p e. found_holds (λ q. q.min_us ≤ q.max_us) d.parameters key p (min_before_max d quantities) e))
