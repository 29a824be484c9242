-- The bounds of the streams of a bus, and the offsets of an output.
use Rattle.std.proofs.Common.{true, false, cond, inl, inr, ◌≡◌, ℕ, zero, suc, ◌+◌, ◌-◌, ◌*◌, ◌/◌, ◌^◌, ◌≤◌, ◌<◌, min, subst, get_or, List, [], ◌∷◌, ◌++◌, length, map, take, drop, refl, sym, ap, ◌∙◌, arith, add-one}
use Rattle.std.specs.List.{sum_by, All}
use Rattle.std.specs.Prelude.{None, Some, Option}
use Rattle.std.proofs.lemmas.Bool.{cases_Bool}
use Rattle.std.proofs.lemmas.List.Elements.{All-head, All-tail, All-take, All-drop}
use Rattle.std.proofs.lemmas.List.Sums.{sum_by-cons, sum_by_push}
use Rattle.std.proofs.lemmas.List.{length-take, length-drop, length-map, get_or-map, get_or_read}
use Rattle.dc_word.specs.declared.format.Format.TheVariants.{Bnr}
use Rattle.dc_bound.specs.lemmas.Caps.{jitter_cap-le}
use Rattle.dc_bound.specs.Capping.{capped}
use Rattle.dc_bound.specs.declared.arrival.Wire.{Wire}
use Rattle.dc_bound.specs.Window.{wire_cap}
use Rattle.dc_bound.specs.Rounds.{fewest_visits}
use Rattle.dc_bound.specs.Frame.{Offsets, cyclic_cap}
use Rattle.dc_bound.specs.declared.alike.Alike.{Alike}
use Rattle.dc_bound.specs.declared.jitter.Jittered.{Jittered}
use Rattle.dc_tables.specs.KeptOfBuses.{AreBusesKept, IsBusKept}
use Rattle.dc_tables.specs.declared.alike.BusKept.{BusKept}
use Rattle.dc_tables.specs.Bounds.{AreBoundsOf, alike_cap, jittered_cap, frame_offsets}
use Rattle.dc_tables.specs.TableRows.{TableRows, AreValid, bus_row, router_row, output_row, entry_row, stream_cap, streams_cap, is_policed, bus_cap, bus_floor, output_cap, offsets}
use Rattle.dc_tables.specs.declared.rows.Router.{Router}
use Rattle.dc_tables.specs.declared.rows.Bus.{Bus}
use Rattle.dc_tables.specs.declared.rows.Output.{Output}
use Rattle.dc_tables.specs.declared.rows.Stream.{Stream}

-- what is kept of one more bus
kept_next : (all : List BusKept) (own : BusKept) (buses : List Bus) (streams : List Stream) (i : ℕ) (row : Bus) → i < length buses → row ≡ get_or buses i row → AreBusesKept all (take i buses) streams
    → IsBusKept own (take row.streams (drop row.first streams)) → AreBusesKept (all ++ (own ∷ [])) (take (suc i) buses) streams
kept_next all own [] streams i row h e past here = absurd (omega arith)
kept_next [] own (r ∷ rows) streams zero row h e past here =
    (let P : Bus → Type 0 = λ r. IsBusKept own (take r.streams (drop r.first streams)) in subst P e here, tt)
kept_next (x ∷ all) own (r ∷ rows) streams zero row h e past here = absurd past
kept_next [] own (r ∷ rows) streams (suc i) row h e past here = absurd past
kept_next (x ∷ all) own (r ∷ rows) streams (suc i) row h e past here = (past.0, kept_next all own rows streams i row (omega arith) e past.1 here)

pub kept_more : (all : List BusKept) (own : BusKept) (buses : List Bus) (streams : List Stream) (i : ℕ) (row : Bus) → i < length buses → row ≡ get_or buses i row → AreBusesKept all (take i buses) streams
    → IsBusKept own (take row.streams (drop row.first streams)) → AreBusesKept (all ++ (own ∷ [])) (take (i + 1) buses) streams
kept_more all own buses streams i row h e past here = rw add-one (kept_next all own buses streams i row h e past here)

pub kept_length : (all : List BusKept) (buses : List Bus) (streams : List Stream) → AreBusesKept all buses streams → length all ≡ length buses
kept_length [] [] streams h = refl
kept_length [] (row ∷ rows) streams h = absurd h
kept_length (own ∷ all) [] streams h = absurd h
kept_length (own ∷ all) (row ∷ rows) streams h = omega (arith, kept_length all rows streams h.1)

-- what is kept of a bus, read
pub kept_read : (all : List BusKept) (buses : List Bus) (streams : List Stream) (b : ℕ) (own : BusKept) (row : Bus) → AreBusesKept all buses streams → b < length buses → own ≡ get_or all b own → row ≡ get_or buses b row
    → IsBusKept own (take row.streams (drop row.first streams))
kept_read all [] streams b own row h there mine its = absurd (omega arith)
kept_read [] (r ∷ rows) streams b own row h there mine its = absurd h
kept_read (x ∷ all) (r ∷ rows) streams zero own row h there mine its =
    (let P : BusKept → Type 0 = λ l. IsBusKept l (take row.streams (drop row.first streams)) in
    let Q : Bus → Type 0 = λ r. IsBusKept x (take r.streams (drop r.first streams)) in
    subst P (sym mine) (subst Q (sym its) h.0))
kept_read (x ∷ all) (r ∷ rows) streams (suc b) own row h there mine its = kept_read all rows streams b own row h.1 (omega arith) mine its

-- one more of so many equal numbers
pub one_more_times : (n k c : ℕ) → k ≤ n → (n + 1 - k) * c ≡ (n - k) * c + c
one_more_times n k c h = ap (λ i. i * c) (let e : n + 1 - k ≡ suc (n - k) = omega (arith, h) in e) ∙ omega arith

pub first_of_times : (n k c : ℕ) → k + 1 ≤ n → (n - k) * c ≡ (n - (k + 1)) * c + c
first_of_times n k c h = ap (λ i. i * c) (let e : n - k ≡ suc (n - (k + 1)) = omega (arith, h) in e) ∙ omega arith

-- the bound of so many streams alike, after others
pub run_sum : (d : ℕ) (runs : List Alike) (run : Alike) (n : ℕ) (each : Jittered) → run.sources ≡ n → run.each ≡ each → sum_by (alike_cap d) (runs ++ run ∷ []) ≡ sum_by (alike_cap d) runs + n * jittered_cap d each
run_sum d runs run n each many same =
    omega (arith, sum_by_push (alike_cap d) runs run, ap (λ k. k * jittered_cap d run.each) many, ap (λ (b : Jittered). n * jittered_cap d b) same)

-- the streams of a bus bring little enough
streams_small : (d : ℕ) (rows : List Stream) → All (λ (s : Stream). (1 ≤ s.minimum) × (s.jitter ≤ 1000000000)) rows → sum_by (stream_cap d) rows ≤ length rows * (d + 1000000000)
streams_small d [] h = omega arith
streams_small d (row ∷ rows) h =
    let here = All-head (λ (s : Stream). (1 ≤ s.minimum) × (s.jitter ≤ 1000000000)) row rows h in
    omega (arith, sum_by-cons (stream_cap d) row rows, streams_small d rows (All-tail (λ (s : Stream). (1 ≤ s.minimum) × (s.jitter ≤ 1000000000)) row rows h), jitter_cap-le row.minimum row.jitter d here.0, here.1)

pub part_small : (j k : ℕ) (rows : List Stream) → All (λ (s : Stream). (1 ≤ s.minimum) × (s.jitter ≤ 1000000000)) rows → length rows ≤ 1024 → sum_by (stream_cap 1000000) (take k (drop j rows)) ≤ 2 ^ 40
part_small j k rows h few =
    let P : Stream → Type 0 = λ s. (1 ≤ s.minimum) × (s.jitter ≤ 1000000000) in
    omega (arith, streams_small 1000000 (take k (drop j rows)) (All-take P k (drop j rows) (All-drop P j rows h)), length-take k (drop j rows), length-drop j rows)

-- a row that was read
pub row_read : (t : TableRows) (b : ℕ) (row : Bus) → b < length t.buses → row ≡ get_or t.buses b row → row ≡ bus_row t b
row_read t b row there h = get_or_read t.buses b row there h (record { queue = 0; police = false; spacing = 0; first = 0; streams = 0; router = 0 })

pub router_read : (t : TableRows) (r : ℕ) (router : Router) → r < length t.routers → router ≡ get_or t.routers r router → router ≡ router_row t r
router_read t r router there h = get_or_read t.routers r router there h (record { steps = 0; within = 0; most = 0; visits = [] })

pub output_read : (t : TableRows) (o : ℕ) (output : Output) → o < length t.outputs → output ≡ get_or t.outputs o output → output ≡ output_row t o
output_read t o output there h = get_or_read t.outputs o output there h (record { steps = 0; within = 0; gap = 0; frame = 0; entries = [] })

-- the bound made of the rows is the bus's: without a wire where it is policed
pub bound_is : (t : TableRows) (b : ℕ) (own : List Alike) (row : Bus) (wire : Option Wire) (d : ℕ) → AreBoundsOf own (take row.streams (drop row.first t.streams)) → row ≡ bus_row t b
    → ((row.police ≡ true) → wire ≡ None) → ((row.police ≡ false) → (w : Wire) × (wire ≡ Some w) × ((d : ℕ) → wire_cap w.tick w.spacing d ≡ wire_cap t.tick_us row.spacing d))
    → capped wire d (sum_by (alike_cap d) own) ≡ bus_cap t b d
unfolding bus_cap
bound_is t b own row wire d bounds h none some =
    let streams : sum_by (alike_cap d) own ≡ streams_cap t b d =
    (let P : Bus → Type 0 = λ row. sum_by (alike_cap d) own ≡ sum_by (stream_cap d) (take row.streams (drop row.first t.streams)) in subst P h (bounds d)) in
    ap (capped wire d) streams
    ∙ elim (cases_Bool row.police) [
      | inl yes' ↦
          let policed : is_policed t b ≡ true = ap (λ (r : Bus). r.police) (sym h) ∙ yes' in
          ap (λ o. capped o d (streams_cap t b d)) (none yes')
          ∙ sym (ap (λ v. cond v (streams_cap t b d) (min (streams_cap t b d) (wire_cap t.tick_us (bus_row t b).spacing d))) policed)
      | inr no' ↦
          let free : is_policed t b ≡ false = ap (λ (r : Bus). r.police) (sym h) ∙ no' in
          let w = some no' in
          ap (λ o. capped o d (streams_cap t b d)) w.1
          ∙ ap (min (streams_cap t b d)) (w.2 d)
          ∙ ap (λ (r : Bus). min (streams_cap t b d) (wire_cap t.tick_us r.spacing d)) h
          ∙ sym (ap (λ v. cond v (streams_cap t b d) (min (streams_cap t b d) (wire_cap t.tick_us (bus_row t b).spacing d))) free)
    ]

-- the service made of the rows is the bus's
pub service_is : (t : TableRows) (b d : ℕ) (router : Router) → router ≡ router_row t (bus_row t b).router → fewest_visits router.visits b (router.steps * (d / router.within)) ≡ bus_floor t b d
unfolding bus_floor
service_is t b d router h = ap (λ (r : Router). fewest_visits r.visits b (r.steps * (d / r.within))) h

-- the offsets of an output that were read
pub offsets_read : (t : TableRows) (o : ℕ) (all : List (List ℕ)) (own : List ℕ) → all ≡ frame_offsets t.outputs → o < length t.outputs → own ≡ get_or all o own → own ≡ offsets t o
offsets_read t o all own same there h =
    let none : Output = record { steps = 0; within = 0; gap = 0; frame = 0; entries = [] } in
    let count : length all ≡ length t.outputs = ap length same ∙ length-map t.outputs (λ r. map (λ e. e.offset) r.entries) in
    get_or_read all o own (omega (arith, count)) h []
    ∙ ap (λ l. get_or l o []) same
    ∙ get_or-map (λ (r : Output). map (λ e. e.offset) r.entries) t.outputs o none [] there

-- they are ascending, below the frame, and there are some
module _ (t : TableRows) (valid : AreValid t) (o : ℕ) (there : o < length t.outputs) where
  offset_is : (i : ℕ) → i < length (output_row t o).entries → get_or (offsets t o) i 0 ≡ (entry_row t o i).offset
  offset_is i h = get_or-map (λ e. e.offset) (output_row t o).entries i (record { offset = 0; label = 0 }) 0 h

  pub offsets_count : length (offsets t o) ≡ length (output_row t o).entries
  offsets_count = length-map (output_row t o).entries (λ e. e.offset)

  pub offsets_fit : Offsets (output_row t o).frame (offsets t o)
  offsets_fit = record {
    some = omega (arith, offsets_count, valid.entries_some o there);
    ascend = λ i j h k. omega (arith, offset_is i (omega (arith, offsets_count)), offset_is j (omega (arith, offsets_count)), valid.entries_ascend o i j there h (omega (arith, offsets_count)));
    below = λ i h. omega (arith, offset_is i (omega (arith, offsets_count)), valid.entries_in_frame o i there (omega (arith, offsets_count)));
  }

pub same_read : {X : Type 0} (xs : List X) (k : ℕ) (z : X) → k < length xs → get_or xs k z ≡ get_or xs k (get_or xs k z)
same_read [] k z h = absurd (omega arith)
same_read (x ∷ xs) zero z h = refl
same_read (x ∷ xs) (suc k) z h = same_read xs k z (omega arith)

-- each stream has a bound
pub bounds_some : (t : TableRows) → AreValid t → All (λ (s : Stream). (1 ≤ s.minimum) × (s.jitter ≤ 1000000000)) t.streams
bounds_some t valid = λ k z h.
    let none : Stream = record { bus = 0; label = 0; sdi = None; format = Bnr; minimum = 0; maximum = 0; jitter = 0 } in
    let P : Stream → Type 0 = λ s. (1 ≤ s.minimum) × (s.jitter ≤ 1000000000) in
    subst P (sym (get_or_read t.streams k (get_or t.streams k z) h (same_read t.streams k z h) none)) (valid.minimums k h, omega (arith, valid.jitters_small k h))

-- each bus has its streams among those of the tables
pub streams_inside : (t : TableRows) → AreValid t → All (λ (b : Bus). b.first + b.streams ≤ length t.streams) t.buses
streams_inside t valid = λ k z h.
    let none : Bus = record { queue = 0; police = false; spacing = 0; first = 0; streams = 0; router = 0 } in
    let P : Bus → Type 0 = λ b. b.first + b.streams ≤ length t.streams in
    subst P (sym (get_or_read t.buses k (get_or t.buses k z) h (same_read t.buses k z h) none)) (valid.streams_there k h)

-- and few of them
pub members_few : (t : TableRows) → AreValid t → All (λ (b : Bus). b.streams ≤ 256) t.buses
members_few t valid = λ k z h.
    let none : Bus = record { queue = 0; police = false; spacing = 0; first = 0; streams = 0; router = 0 } in
    let P : Bus → Type 0 = λ b. b.streams ≤ 256 in
    subst P (sym (get_or_read t.buses k (get_or t.buses k z) h (same_read t.buses k z h) none)) (valid.few_bus_streams k h)

-- the bound made of the rows is the output's
pub output_is : (t : TableRows) (o d : ℕ) (own : List ℕ) (row : Output) → own ≡ offsets t o → row ≡ output_row t o → cyclic_cap row.frame own d ≡ output_cap t o d
unfolding output_cap
output_is t o d own row same at = ap (λ l. cyclic_cap row.frame l d) same ∙ ap (λ (r : Output). cyclic_cap r.frame (offsets t o) d) at
