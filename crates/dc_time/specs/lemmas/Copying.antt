-- The word that a label copies came to its bus at some time.
use Rattle.std.proofs.Common.{◌≡◌, ℕ, zero, suc, ◌-◌, ◌<◌, ◌==◌, ◌&&◌, Bool, true, false, cond, leb, Option, Some, None, is_some, option_map, List, [], ◌∷◌, ◌++◌, length, get_or, refl, sym, ap, ◌∙◌, subst, arith, inl, inr, zero-add}
use Rattle.std.specs.List.{flat_map, filter, Contains}
use Rattle.std.proofs.lemmas.Bool.{eqb-true}
use Rattle.std.proofs.lemmas.List.Elements.{Contains-get_or, Contains-append_cases, All-filter, All-contains, All-contains_itself}
use Rattle.dc_word.specs.Word.{is_odd}
use Rattle.dc_word.specs.Format.{is_usable}
use Rattle.dc_bound.specs.Run.{ticks, stamp, stamped}
use Rattle.dc_bound.specs.Places.{last_below}
use Rattle.dc_bound.specs.Moves.{Move, move_ends, came, ins, before, latch, entered, taken, item, arrived_tick, routed_tick, latest_number, latest_by}
use Rattle.dc_bound.specs.Moves.Move.{Visit}
use Rattle.dc_bound.specs.lemmas.FirstPlaces.{snoc_induction}
use Rattle.dc_bound.specs.lemmas.Steps.{stamped-append}
use Rattle.dc_bound.specs.lemmas.QueueTimes.{stamped-arrived, stamped-items, taken-le}
use Rattle.dc_tables.specs.Declares.{stream_of}
use Rattle.dc_tables.specs.TableRows.{TableRows, stream_row, label_row}
use Rattle.dc_event.specs.Time.{tick_after}
use Rattle.dc_event.specs.Offers.{let_in}
use Rattle.dc_event.specs.Buses.{visited_bus, in_of, move_of, moves, room, is_latched}
use Rattle.dc_event.specs.Choice.{head, fresh_word, fresh, chosen_source}
use Rattle.dc_event.specs.Latest.{is_of_stream, latest, latest_arrived}
use Rattle.dc_event.specs.Alive.{came_words}
use Rattle.dc_event.specs.lemmas.RunPush.{moves-push, ticks_in-moves}
use Rattle.dc_event.specs.declared.event.Event.{Event}
use Rattle.dc_event.specs.declared.event.Event.TheVariants.{Tick, Arrive, Route, Send}
use Rattle.dc_time.specs.Timed.{ticked}
use Rattle.dc_time.specs.Sources.{brought}
use Rattle.dc_time.specs.lemmas.TimedRuns.{ticked-nil, ticked-push}

-- ---- the words that came are what the events brought

word-came : (k w : ℕ) (o : Option ℕ) → stamped move_ends came k (in_of o w) ≡ stamp k (option_map (λ (s : ℕ). (s, w)) o) []
unfolding stamped
word-came k w None = refl
word-came k w (Some s) = refl

move-came : (t : TableRows) (b k : ℕ) (past : List Event) (e : Event) → stamped move_ends came k (move_of t b past e) ≡ stamp k (brought t b past e) []
unfolding stamped
move-came t b k past Tick = refl
move-came t b k past (Arrive w a) =
    elim ((a == b) && is_odd w) as (λ v. stamped move_ends came k (cond v (in_of (let_in t b past (stream_of t b w)) w) []) ≡ stamp k (option_map (λ (s : ℕ). (s, w)) (let_in t b past (cond v (stream_of t b w) None))) []) [
      | true ↦ word-came k w (let_in t b past (stream_of t b w))
      | false ↦ refl
    ]
move-came t b k past (Route r) = elim (visited_bus t r past == b) as (λ v. stamped move_ends came k (cond v (Visit ∷ []) []) ≡ []) [ true ↦ refl | false ↦ refl ]
move-came t b k past (Send o) = refl

pub came-push : (t : TableRows) (b : ℕ) (run : List Event) (e : Event) → came_words t b (run ++ e ∷ []) ≡ came_words t b run ++ stamp (tick_after run) (brought t b run e) []
came-push t b run e =
    ap (stamped move_ends came 0) (moves-push t b run e)
    ∙ stamped-append move_ends came 0 (moves t b run) (move_of t b run e)
    ∙ ap (λ k. came_words t b run ++ stamped move_ends came k (move_of t b run e)) (zero-add (ticks move_ends (moves t b run)) ∙ ticks_in-moves t b run)
    ∙ ap (λ z. came_words t b run ++ z) (move-came t b (tick_after run) run e)

came-nil : (t : TableRows) (b : ℕ) → came_words t b [] ≡ []
unfolding moves Rattle.dc_bound.specs.Places.each_place stamped
came-nil t b = refl

pub came-picked : (t : TableRows) (b : ℕ) (run : List Event) → came_words t b run ≡ ticked (brought t b) run
came-picked t b run =
    snoc_induction (λ run. came_words t b run ≡ ticked (brought t b) run) (came-nil t b ∙ sym (ticked-nil (brought t b)))
    (λ run e rec. came-push t b run e ∙ ap (λ z. z ++ stamp (tick_after run) (brought t b run e) []) rec ∙ sym (ticked-push (brought t b) run e)) run

-- ---- what is chosen

head-in : (cs : List (ℕ × ℕ)) (c : ℕ × ℕ) → head cs ≡ Some c → Contains cs c
head-in [] c h = absurd cc
head-in (d ∷ cs) c h = let e : d ≡ c = cc in (0, omega arith, e)

choice-in : (p : (ℕ × ℕ) → Bool) (cs : List (ℕ × ℕ)) (c : ℕ × ℕ) → head (filter p cs ++ cs) ≡ Some c → Contains cs c
choice-in p cs c h =
    elim (Contains-append_cases (filter p cs) cs c (head-in (filter p cs ++ cs) c h)) [
      | inl kept ↦ All-contains (λ d. Contains cs d) (filter p cs) c (All-filter p (λ d. Contains cs d) cs (All-contains_itself cs)) kept
      | inr there ↦ there
    ]

flat_map-in : {A : Type 0} (f : ℕ → List A) (xs : List ℕ) (c : A) → Contains (flat_map f xs) c → (k : ℕ) × (k < length xs) × Contains (f (get_or xs k 0)) c
flat_map-in f [] c (k, h, e) = absurd (omega arith)
flat_map-in f (x ∷ xs) c there =
    elim (Contains-append_cases (f x) (flat_map f xs) c there) [
      | inl here ↦ (0, omega arith, here)
      | inr later ↦ let r = flat_map-in f xs c later in (suc r.0, omega (arith, r.1), r.2)
    ]

last_below-passes : (p : ℕ → Bool) (n m : ℕ) → last_below p n ≡ Some m → (m < n) × (p m ≡ true)
last_below-passes p zero m h = absurd cc
last_below-passes p (suc n) m h =
    elim (p n) as (λ b. p n ≡ b → cond b (Some n) (last_below p n) ≡ Some m → (m < suc n) × (p m ≡ true)) [
      | true ↦ λ is h. (let e : n ≡ m = cc in (omega arith, ap p (sym e) ∙ is))
      | false ↦ λ is h. (let r = last_below-passes p n m h in (omega (arith, r.0), r.1))
    ] refl h

-- ---- a fresh source

-- the word that stands for a fresh source is number `number` of those that entered its bus, which has not latched
record IsFresh (t : TableRows) (s : ℕ) (now : List Event) (a : ℕ × ℕ) (number : ℕ) : Type 0 where
  unlatched : is_latched t (stream_row t s).bus now ≡ false
  last : latest_number (room t (stream_row t s).bus) (is_of_stream s) (moves t (stream_row t s).bus now) ≡ Some number
  value : a ≡ item (room t (stream_row t s).bus) (moves t (stream_row t s).bus now) number

only_in : {A : Type 0} (b : Bool) (y c : A) → Contains (cond b (y ∷ []) []) c → c ≡ y
only_in true y c (zero, h, e) = sym e
only_in true y c (suc k, h, e) = absurd (omega arith)
only_in false y c (k, h, e) = absurd (omega arith)

fresh-number : (t : TableRows) (x s : ℕ) (now : List Event) (a : ℕ × ℕ) → Contains (fresh t x now s) a → (n : ℕ) × IsFresh t s now a n
unfolding fresh latest latest_by
fresh-number t x s now a h =
    let all : ℕ → (ℕ × ℕ) × ℕ = λ n. (item (room t (stream_row t s).bus) (moves t (stream_row t s).bus now) n, routed_tick (room t (stream_row t s).bus) n (moves t (stream_row t s).bus now)) in
    elim (is_latched t (stream_row t s).bus now) as (λ v. is_latched t (stream_row t s).bus now ≡ v → Contains (cond v [] (fresh_word (label_row t x).stale (tick_after now) (latest t s now))) a → (n : ℕ) × IsFresh t s now a n) [
      | true ↦ λ _ h. absurd (omega (arith, h.1))
      | false ↦ λ free h.
          elim (latest_number (room t (stream_row t s).bus) (is_of_stream s) (moves t (stream_row t s).bus now)) as (λ o. latest_number (room t (stream_row t s).bus) (is_of_stream s) (moves t (stream_row t s).bus now) ≡ o
          → Contains (fresh_word (label_row t x).stale (tick_after now) (option_map all o)) a → (n : ℕ) × IsFresh t s now a n) [
            | None ↦ λ is h. absurd (omega (arith, h.1))
            | Some n ↦ λ is h. (n, record { unlatched = free; last = is; value = only_in (leb (tick_after now - (all n).1) (label_row t x).stale) (all n).0 a h })
          ] refl h
    ] refl h

not_some : (o : Option ℕ) → is_some o ≡ false → o ≡ None
not_some None h = refl
not_some (Some x) h = absurd cc

all-entered : (room : ℕ) (ms : List Move) → is_some (latch room ms) ≡ false → entered room ms ≡ ins ms
unfolding entered
all-entered room ms h = ap (λ o. ins (before o ms)) (not_some (latch room ms) h)

-- the words that came, and number n of them
number-came : (ms : List Move) (n : ℕ) → n < length (ins ms) → Contains (stamped move_ends came 0 ms) (arrived_tick n ms, get_or (ins ms) n (0, 0))
number-came ms n h =
    let P : ℕ × (ℕ × ℕ) → Type 0 = λ z. Contains (stamped move_ends came 0 ms) z in
    subst P (stamped-arrived ms n h) (Contains-get_or (stamped move_ends came 0 ms) n (0, (0, 0)) (omega (arith, h, stamped-items ms 0)))

fresh-came : (t : TableRows) (s n : ℕ) (now : List Event) (a : ℕ × ℕ) → IsFresh t s now a n → (a.0 ≡ s) × Contains (came_words t (stream_row t s).bus now) (arrived_tick n (moves t (stream_row t s).bus now), a)
unfolding latest_number
fresh-came t s n now a f =
    let passes = last_below-passes (λ n. is_of_stream s (item (room t (stream_row t s).bus) (moves t (stream_row t s).bus now) n)) (taken (room t (stream_row t s).bus) (moves t (stream_row t s).bus now)) n f.last in
    let all = all-entered (room t (stream_row t s).bus) (moves t (stream_row t s).bus now) f.unlatched in
    let there : n < length (ins (moves t (stream_row t s).bus now)) = omega (arith, passes.0, taken-le (room t (stream_row t s).bus) (moves t (stream_row t s).bus now), ap (λ (z : List (ℕ × ℕ)). length z) all) in
    let same : get_or (ins (moves t (stream_row t s).bus now)) n (0, 0) ≡ a = sym (f.value ∙ ap (λ z. get_or z n (0, 0)) all) in
    let P : ℕ × ℕ → Type 0 = λ z. Contains (came_words t (stream_row t s).bus now) (arrived_tick n (moves t (stream_row t s).bus now), z) in (
      ap (λ (z : ℕ × ℕ). z.0) f.value ∙ eqb-true _ _ passes.1,
      subst P same (number-came (moves t (stream_row t s).bus now) n there),
    )

-- what a label copies is among the words that came to the bus of its stream
pub chosen-came : (t : TableRows) (x : ℕ) (now : List Event) (c : ℕ × ℕ) (tick : ℕ) → chosen_source t x now ≡ Some c → latest_arrived t c.0 now ≡ Some tick → Contains (came_words t (stream_row t c.0).bus now) (tick, c)
unfolding chosen_source latest_arrived
chosen-came t x now c tick is at =
    let among : Contains (flat_map (fresh t x now) (label_row t x).sources) c = choice-in (λ d. is_usable (label_row t x).format d.1) (flat_map (fresh t x now) (label_row t x).sources) c is in
    let r = flat_map-in (fresh t x now) (label_row t x).sources c among in
    let f = fresh-number t x (get_or (label_row t x).sources r.0 0) now c r.2 in
    let came = fresh-came t (get_or (label_row t x).sources r.0 0) f.0 now c f.1 in
    let P : ℕ → Type 0 = λ s. (latest_number (room t (stream_row t s).bus) (is_of_stream s) (moves t (stream_row t s).bus now) ≡ Some f.0) × Contains (came_words t (stream_row t s).bus now) (arrived_tick f.0 (moves t (stream_row t s).bus now), c) in
    let own = subst P (sym came.0) (f.1.last, came.1) in
    let at_tick : latest_arrived t c.0 now ≡ Some (arrived_tick f.0 (moves t (stream_row t c.0).bus now)) = ap (λ o. elim o [ None ↦ None | Some n ↦ Some (arrived_tick n (moves t (stream_row t c.0).bus now)) ]) own.0 in
    let tick_same : arrived_tick f.0 (moves t (stream_row t c.0).bus now) ≡ tick = cc in
    let Q : ℕ → Type 0 = λ k. Contains (came_words t (stream_row t c.0).bus now) (k, c) in
    subst Q tick_same own.1
