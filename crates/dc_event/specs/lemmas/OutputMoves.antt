-- An output as a queue: its moves, and what is due by a tick.
use Rattle.std.proofs.Common.{◌≡◌, ℕ, zero, suc, ◌+◌, ◌*◌, ◌/◌, ◌%◌, ◌≤◌, ◌<◌, ◌==◌, min, Bool, true, false, cond, ltb, leb, eqb, List, [], ◌∷◌, ◌++◌, length, get_or, refl, sym, ap, inl, inr, ◌∙◌, arith, length-append, append_assoc, map}
use Rattle.std.specs.List.{flat_map}
use Rattle.std.proofs.lemmas.List.{append-nil, length-map, get_or-map}
use Rattle.std.proofs.lemmas.Bool.{cases_lt, cases_eq, eq-eqb, ne_eqb, lt-ltb, le-ltb, le-leb, lt-leb}
use Rattle.std.proofs.lemmas.Grind.{flat_map-append}
use Rattle.std.proofs.Math.Nat.{mod-lt}
use Rattle.dc_bound.specs.Window.{count_in, one_in}
use Rattle.dc_bound.specs.lemmas.Counts.{one_in_cases}
use Rattle.dc_bound.specs.Run.{picks}
use Rattle.dc_bound.specs.Places.{each_place, count_below}
use Rattle.dc_bound.specs.Moves.{Move, visits, ins, passed}
use Rattle.dc_bound.specs.Moves.Move.{Tick as TickMove, In, Visit}
use Rattle.dc_bound.specs.lemmas.Queued.{ins-append, visits-append, passed-le, le-passed}
use Rattle.dc_bound.specs.Frame.{due, Offsets, entries_at}
use Rattle.dc_bound.specs.lemmas.Due.{due_ascend}
use Rattle.dc_tables.specs.TableRows.{TableRows, AreValid, output_row, entry_row, offsets}
use Rattle.dc_event.specs.Time.{tick_after}
use Rattle.dc_event.specs.Outputs.{due_tick, due_by, sent}
use Rattle.dc_tables.specs.declared.rows.Entry.{Entry}
use Rattle.dc_event.specs.declared.event.Event.{Event}
use Rattle.dc_event.specs.declared.event.Event.TheVariants.{Tick, Arrive, Route, Send}
use Rattle.dc_bound.specs.lemmas.FirstPlaces.{each_place-push}
use Rattle.dc_bound.specs.lemmas.QueueTimes.{split_sides}
use Rattle.dc_bound.specs.lemmas.DueCounts.{before_tick, below_before, from_before, due_step}

-- ---- an output as a queue: its due entries come in, its sends are visits

-- an entry comes in at its offset
abbrev pub entry_in : ℕ → Entry → List Move
entry_in at e = cond (e.offset == at) (In (e.label, at) ∷ []) []

-- the entries that are due in a tick
abbrev pub entries_due : TableRows → ℕ → ℕ → List Move
entries_due t o tick = flat_map (entry_in (tick % (output_row t o).frame)) (output_row t o).entries

-- what an event is to the output, after the events of past
abbrev pub output_move_of : TableRows → ℕ → List Event → Event → List Move
output_move_of t o past Tick = TickMove ∷ entries_due t o (tick_after past + 1)
output_move_of t o past (Arrive w b) = []
output_move_of t o past (Route r) = []
output_move_of t o past (Send q) = cond (q == o) (Visit ∷ []) []

-- the moves of an output in a run: what passes of them is what is sent
unfoldable pub output_moves : TableRows → ℕ → List Event → List Move
output_moves t o run = entries_due t o 0 ++ flat_map (λ ms. ms) (each_place (output_move_of t o) run)

-- ---- the entries due in a tick

entry_in-count : (at : ℕ) (e : Entry) → length (ins (entry_in at e)) ≡ one_in at 1 e.offset
unfolding ins
entry_in-count at e =
    elim (cases_eq e.offset at) [
      | inl same ↦
          let yes' : eqb e.offset at ≡ true = eq-eqb e.offset at same in
          let one : one_in at 1 e.offset ≡ 1 = elim (one_in_cases at 1 e.offset) [ inl w ↦ w.2 | inr v ↦ elim v [ inl w ↦ absurd (omega arith) | inr w ↦ absurd (omega arith) ] ] in
          rw yes' (sym one)
      | inr other ↦
          let no' : eqb e.offset at ≡ false = ne_eqb e.offset at other in
          let none : one_in at 1 e.offset ≡ 0 = elim (one_in_cases at 1 e.offset) [ inl w ↦ absurd (other (let s : e.offset ≡ at = omega arith in s)) | inr v ↦ elim v [ inl w ↦ w.1 | inr w ↦ w.1 ] ] in
          rw no' (sym none)
    ]

entries_in-count : (at : ℕ) (es : List Entry) → length (ins (flat_map (entry_in at) es)) ≡ count_in at 1 (map (λ e. e.offset) es)
unfolding ins count_in
entries_in-count at [] = refl
entries_in-count at (e ∷ es) =
    omega (arith, ap length (ins-append (entry_in at e) (flat_map (entry_in at) es)), length-append (ins (entry_in at e)) (ins (flat_map (entry_in at) es)), entry_in-count at e, entries_in-count at es)

-- ---- what is due by a tick

count_below-same : (p r : ℕ → Bool) (n : ℕ) → ((k : ℕ) → k < n → p k ≡ r k) → count_below p n ≡ count_below r n
count_below-same p r zero h = refl
count_below-same p r (suc n) h = let rec = count_below-same p r n (λ k l. h k (omega arith)) in omega (arith, rec, ap (λ (b : Bool). cond {A = ℕ} b 1 0) (h n (omega arith)))

le_is_lt : (a b k : ℕ) → a ≡ b → leb a k ≡ ltb b (suc k)
le_is_lt a b k e = elim (cases_lt k a) [
  | inl l ↦ lt-leb a k l ∙ sym (le-ltb b (suc k) (omega arith))
  | inr l ↦ le-leb a k l ∙ sym (lt-ltb b (suc k) (omega arith))
]

module _ (t : TableRows) (valid : AreValid t) (o : ℕ) (there : o < length t.outputs) where
  frame : ℕ
  frame = (output_row t o).frame

  offset_is : (i : ℕ) → i < length (output_row t o).entries → get_or (offsets t o) i 0 ≡ (entry_row t o i).offset
  offset_is i h = get_or-map (λ e. e.offset) (output_row t o).entries i (record { offset = 0; label = 0 }) 0 h

  offsets_count : length (offsets t o) ≡ length (output_row t o).entries
  offsets_count = length-map (output_row t o).entries (λ e. e.offset)

  pub offsets_fit : Offsets (output_row t o).frame (offsets t o)
  offsets_fit = record {
    some = omega (arith, offsets_count, valid.entries_some o there);
    ascend = λ i j h k. omega (arith, offset_is i (omega (arith, offsets_count)), offset_is j (omega (arith, offsets_count)), valid.entries_ascend o i j there h (omega (arith, offsets_count)));
    below = λ i h. omega (arith, offset_is i (omega (arith, offsets_count)), valid.entries_in_frame o i there (omega (arith, offsets_count)));
  }

  pub due_tick-is : (n : ℕ) → due_tick t o n ≡ due (output_row t o).frame (offsets t o) n
  due_tick-is n =
      let m : ℕ = length (output_row t o).entries in
      let inside : n % length (output_row t o).entries < length (output_row t o).entries = mod-lt n (valid.entries_some o there) in
      ap (λ k. n / length (output_row t o).entries * (output_row t o).frame + k) (sym (offset_is (n % length (output_row t o).entries) inside))
      ∙ ap (λ m. n / m * (output_row t o).frame + get_or (offsets t o) (n % m) 0) (sym offsets_count)

  pub due_by-is : (k : ℕ) → due_by t o k ≡ before_tick (due (output_row t o).frame (offsets t o)) (due_ascend (output_row t o).frame (offsets t o) offsets_fit) (suc k)
  unfolding due_by before_tick
  due_by-is k =
      let e : k + 1 ≡ suc k = omega arith in
      ap (λ n. count_below (λ n. leb (due_tick t o n) k) n) e
      ∙ count_below-same (λ n. leb (due_tick t o n) k) (λ n. ltb (due (output_row t o).frame (offsets t o) n) (suc k)) (suc k) (λ n l. le_is_lt (due_tick t o n) (due (output_row t o).frame (offsets t o) n) k (due_tick-is n))

  -- the entries below the count are those due by the tick
  pub due_by-due : (n k : ℕ) → n < due_by t o k → due_tick t o n ≤ k
  due_by-due n k h = omega (
    arith,
    below_before (due (output_row t o).frame (offsets t o)) (due_ascend (output_row t o).frame (offsets t o) offsets_fit) (suc k) n (omega (arith, due_by-is k)),
    due_tick-is n,
  )

  pub due-due_by : (n k : ℕ) → due_tick t o n ≤ k → n < due_by t o k
  due-due_by n k h = elim (cases_lt n (due_by t o k)) [
    | inl l ↦ l
    | inr l ↦ absurd (omega (
      arith,
      from_before (due (output_row t o).frame (offsets t o)) (due_ascend (output_row t o).frame (offsets t o) offsets_fit) (suc k) n (omega (arith, due_by-is k)),
      due_tick-is n,
    ))
  ]

  pub entries_due-count : (k : ℕ) → length (ins (entries_due t o k)) ≡ entries_at (offsets t o) (k % (output_row t o).frame)
  entries_due-count k = entries_in-count (k % (output_row t o).frame) (output_row t o).entries

  pub due_by-next : (k : ℕ) → due_by t o (suc k) ≡ due_by t o k + length (ins (entries_due t o (suc k)))
  due_by-next k =
      omega (arith, due_by-is (suc k), due_by-is k, due_step (output_row t o).frame (offsets t o) offsets_fit (valid.frames o there) (suc k), entries_due-count (suc k))

no_ins : length (ins []) ≡ 0
unfolding ins
no_ins = refl

-- ---- the moves of an output, one more event

pub output_moves-push : (t : TableRows) (o : ℕ) (run : List Event) (e : Event) → output_moves t o (run ++ e ∷ []) ≡ output_moves t o run ++ output_move_of t o run e
unfolding output_moves
output_moves-push t o run e =
    ap (λ z. entries_due t o 0 ++ z) (ap (λ l. flat_map (λ ms. ms) l) (each_place-push (output_move_of t o) run e) ∙ flat_map-append (λ ms. ms) (each_place (output_move_of t o) run) (output_move_of t o run e ∷ []) ∙ ap (λ ms. flat_map (λ ms. ms) (each_place (output_move_of t o) run) ++ ms) (append-nil (output_move_of t o run e)))
    ∙ sym (append_assoc (entries_due t o 0) (flat_map (λ ms. ms) (each_place (output_move_of t o) run)) (output_move_of t o run e))

pub output_moves-nil : (t : TableRows) (o : ℕ) → output_moves t o [] ≡ entries_due t o 0
unfolding output_moves each_place
output_moves-nil t o = append-nil (entries_due t o 0)

-- ---- what is handed on, one more move

ins-more : (a b : List Move) → length (ins (a ++ b)) ≡ length (ins a) + length (ins b)
ins-more a b = ap length (ins-append a b) ∙ length-append (ins a) (ins b)

-- a visit takes one, where one waits
pub passed-visit : (ms : List Move) → min (passed ms + 1) (length (ins ms)) ≤ passed (ms ++ Visit ∷ [])
unfolding picks
passed-visit ms =
    le-passed (ms ++ Visit ∷ []) (min (passed ms + 1) (length (ins ms))) (λ x y e.
    elim (split_sides ms (Visit ∷ []) x y e) [
      | inl (q, f, g) ↦ omega (arith, ap passed f, passed-le x q, ap visits g, visits-append q (Visit ∷ []))
      | inr (q, f, g) ↦ omega (arith, ap (λ z. length (ins z)) f, ins-more ms q)
    ])

-- ---- what is sent, one more event

sent-nil : (t : TableRows) (o : ℕ) → sent t o [] ≡ 0
unfolding sent picks
sent-nil t o = omega arith
