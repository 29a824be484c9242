-- The outputs of tables: their frames, their moves, and that their entries leave in time.
use Rattle.std.proofs.Common.{◌≡◌, ℕ, suc, ◌+◌, ◌*◌, ◌/◌, ◌%◌, ◌≤◌, ◌<◌, ◌⊎◌, ◌==◌, inl, inr, Bool, true, false, cond, List, [], ◌∷◌, ◌++◌, length, get_or, Some, None, refl, sym, ap, ◌∙◌, arith, append_assoc}
use Rattle.std.specs.Prelude.{nat_le}
use Rattle.std.specs.List.{count_by, flat_map}
use Rattle.std.proofs.Math.Nat.{mod-lt, div-add-mod'}
use Rattle.std.proofs.lemmas.Bool.{cases_lt}
use Rattle.std.proofs.lemmas.Bool.Decides.{nat_tests}
use Rattle.std.proofs.lemmas.List.{append-nil, length-map}
use Rattle.std.proofs.Math.ListN.{get_or-map}
use Rattle.std.proofs.lemmas.List.Sums.{sum_by-cons}
use Rattle.std.proofs.lemmas.Grind.{flat_map-append}
use Rattle.dc_bound.specs.lemmas.Counts.{at_mod, at_div}
use Rattle.dc_bound.specs.Frame.{due, IsDue, Offsets}
use Rattle.dc_bound.specs.lemmas.Due.{due_most}
use Rattle.dc_bound.specs.Frame.{IsFrame}
use Rattle.dc_bound.specs.lemmas.Dues.{IsDueCount, due_so_far_frames, due_so_far_frames-is, due_so_far-is, due_in_ascends, same_count}
use Rattle.dc_bound.specs.Moves.Move.{Tick as TickMove, In, Visit}
use Rattle.dc_bound.specs.Places.{each_from, each_place}
use Rattle.dc_bound.specs.Run.{ticks, one_if}
use Rattle.dc_bound.specs.Window.{HoldAtLeast}
use Rattle.dc_busy.specs.BusyWindow.{QueueDelay}
use Rattle.dc_busy.specs.lemmas.Law.{queue_delay}
use Rattle.dc_cert.specs.Bounds.{OutputBound}
use Rattle.dc_check.proofs.Intervals.{IsTimely}
use Rattle.dc_check.proofs.OutputMoves.{come_in, Sees, AreOutputMoves, CountsDues, sent_of}
use Rattle.dc_check.proofs.OutputMoves.Sees.{ended, turned, idle}
use Rattle.dc_check.proofs.Timely.{timely}
use Rattle.dc_check.specs.Accepts.{AcceptsOutput}
use Rattle.dc_event.specs.Outputs.{due_tick, sent, due_by}
use Rattle.dc_event.specs.lemmas.OutputMoves.{entry_in, entries_due, output_move_of, output_moves}
use Rattle.dc_event.specs.Time.{ends, tick_after, send_of, send_ticks}
use Rattle.dc_event.specs.declared.event.Event.{Event}
use Rattle.dc_event.specs.declared.event.Event.TheVariants.{Tick, Arrive, Route, Send}
use Rattle.dc_tables.specs.TableRows.{TableRows, AreValid, output_row, entry_row, offsets, output_cap, output_floor}
use Rattle.dc_tables.specs.declared.rows.Entry.{Entry}
use Rattle.dc_transmit.specs.Schedule.{off, no_entry}
use Rattle.dc_bound.specs.Frame as Count

-- ---- places of a run

pub each_from-push : {X A : Type 0} (f : List X → X → A) (past run : List X) (e : X) → each_from f past (run ++ e ∷ []) ≡ each_from f past run ++ f (past ++ run) e ∷ []
each_from-push f past [] e = ap (λ p. f p e ∷ []) (sym (append-nil past))
each_from-push f past (x ∷ run) e =
    let rec = each_from-push f (past ++ x ∷ []) run e in
    let same : (past ++ x ∷ []) ++ run ≡ past ++ (x ∷ run) = append_assoc past (x ∷ []) run in
    ap (λ l. f past x ∷ l) (rec ∙ ap (λ p. each_from f (past ++ x ∷ []) run ++ f p e ∷ []) same)

pub each_place-push : {X A : Type 0} (f : List X → X → A) (run : List X) (e : X) → each_place f (run ++ e ∷ []) ≡ each_place f run ++ f run e ∷ []
unfolding each_place
each_place-push f run e = each_from-push f [] run e

-- the lists of each place, end to end
pub each_joined-push : {X A : Type 0} (f : List X → X → List A) (run : List X) (e : X) → flat_map (λ z. z) (each_place f (run ++ e ∷ [])) ≡ flat_map (λ z. z) (each_place f run) ++ f run e
each_joined-push f run e =
    ap (λ z. flat_map (λ w. w) z) (each_place-push f run e)
    ∙ flat_map-append (λ w. w) (each_place f run) (f run e ∷ [])
    ∙ ap (λ z. flat_map (λ w. w) (each_place f run) ++ z) (append-nil (f run e))

-- ---- the frame of an output

pub output_frame : (t : TableRows) → AreValid t → (o : ℕ) → o < length t.outputs → IsFrame off no_entry (output_row t o).frame (output_row t o).entries
output_frame t v o h = record {
  some = v.entries_some o h;
  ascend = λ i j l k. v.entries_ascend o i j h l k;
  below = λ i l. v.entries_in_frame o i h l;
}

pub due_tick-ascends : (t : TableRows) → AreValid t → (o : ℕ) → o < length t.outputs → (i j : ℕ) → i < j → due_tick t o i < due_tick t o j
due_tick-ascends t v o h i j l = due_in_ascends off no_entry (output_row t o).frame (output_row t o).entries (output_frame t v o h) i j l

pub due_by-counts : (t : TableRows) → AreValid t → (o : ℕ) → o < length t.outputs → IsDueCount (due_tick t o) (due_by t o)
unfolding due_by Count.due_so_far
due_by-counts t v o h = due_so_far-is (due_tick t o) (due_tick-ascends t v o h)

-- in closed form: whole frames, and the part of the last
pub due_by-closed : (t : TableRows) → AreValid t → (o : ℕ) → o < length t.outputs → (tick : ℕ) →
    due_by t o tick ≡ due_so_far_frames off (output_row t o).frame (output_row t o).entries tick
due_by-closed t v o h tick =
    same_count (due_tick t o) (due_by t o) (due_so_far_frames off (output_row t o).frame (output_row t o).entries) (due_by-counts t v o h)
    (due_so_far_frames-is off no_entry (output_row t o).frame (output_row t o).entries (output_frame t v o h)) tick

-- ---- the entries that come due in a tick

abbrev pub item_at : ℕ → Entry → List (ℕ × ℕ)
item_at at e = cond (e.offset == at) ((e.label, at) ∷ []) []

abbrev pub dues_at : ℕ → List Entry → List (ℕ × ℕ)
dues_at at es = flat_map (item_at at) es

-- the entries that are due in a tick, as (label, offset)
abbrev pub dues : TableRows → ℕ → ℕ → List (ℕ × ℕ)
dues t o tick = dues_at (tick % (output_row t o).frame) (output_row t o).entries

pub either : (b : Bool) → (b ≡ true) ⊎ (b ≡ false)
either true = inl refl
either false = inr refl

ins_at : (at : ℕ) (es : List Entry) → flat_map (entry_in at) es ≡ come_in (dues_at at es)
ins_at at [] = refl
ins_at at (e ∷ es) = elim (either (e.offset == at)) [ inl y ↦ rw y (ap (λ z. In (e.label, at) ∷ z) (ins_at at es)) | inr n ↦ rw n (ins_at at es) ]

-- tests on an offset
offset_tests : (a r : ℕ) → cond (nat_le a (suc r)) 1 0 ≡ cond (nat_le a r) 1 0 + cond (a == suc r) 1 0
offset_tests a r = grind (arith, nat_tests)

offset_zero : (a : ℕ) → cond {A = ℕ} (nat_le a 0) 1 0 ≡ cond {A = ℕ} (a == 0) 1 0
offset_zero a = grind (arith, nat_tests)

offset_small : (a r : ℕ) → a ≤ r → cond {A = ℕ} (nat_le a r) 1 0 ≡ 1
offset_small a r h = grind (arith, nat_tests)

-- how many offsets are at most r
abbrev up_to : ℕ → List Entry → ℕ
up_to r es = count_by (λ e. nat_le (off e) r) es

up_to-cons : (r : ℕ) (e : Entry) (es : List Entry) → up_to r (e ∷ es) ≡ cond (nat_le (off e) r) 1 0 + up_to r es
up_to-cons r e es = sum_by-cons (λ x. cond (nat_le (off x) r) 1 0) e es

dues_at-cons : (at : ℕ) (e : Entry) (es : List Entry) → length (dues_at at (e ∷ es)) ≡ cond (e.offset == at) 1 0 + length (dues_at at es)
dues_at-cons at e es = elim (either (e.offset == at)) [ inl y ↦ rw y (omega arith) | inr n ↦ rw n (omega arith) ]

up_to-next : (r : ℕ) (es : List Entry) → up_to (suc r) es ≡ up_to r es + length (dues_at (suc r) es)
up_to-next r [] = refl
up_to-next r (e ∷ es) = omega (arith, up_to-next r es, up_to-cons (suc r) e es, up_to-cons r e es, dues_at-cons (suc r) e es, offset_tests e.offset r)

up_to-zero : (es : List Entry) → up_to 0 es ≡ length (dues_at 0 es)
up_to-zero [] = refl
up_to-zero (e ∷ es) = omega (arith, up_to-zero es, up_to-cons 0 e es, dues_at-cons 0 e es, offset_zero e.offset)

up_to-all : (r : ℕ) (es : List Entry) → ((i : ℕ) → i < length es → off (get_or es i no_entry) ≤ r) → up_to r es ≡ length es
up_to-all r [] h = refl
up_to-all r (e ∷ es) h = omega (arith, up_to-cons r e es, up_to-all r es (λ i l. h (suc i) (omega arith)), offset_small e.offset r (h 0 (omega arith)))

dues_later : (t : TableRows) → AreValid t → (o : ℕ) → o < length t.outputs → (tick : ℕ) → due_by t o (suc tick) ≡ due_by t o tick + length (dues t o (suc tick))
dues_later t v o h tick =
    let some : 0 < (output_row t o).frame = omega (arith, v.frames o h) in
    let rest : tick % (output_row t o).frame < (output_row t o).frame = mod-lt tick some in
    let back : tick / (output_row t o).frame * (output_row t o).frame + tick % (output_row t o).frame ≡ tick = div-add-mod' tick (output_row t o).frame in
    elim (cases_lt (suc (tick % (output_row t o).frame)) (output_row t o).frame) [
      | inl l ↦
          let place : tick / (output_row t o).frame * (output_row t o).frame + suc (tick % (output_row t o).frame) ≡ suc tick = omega arith in
          let here : suc tick % (output_row t o).frame ≡ suc (tick % (output_row t o).frame) =
          ap (λ x. x % (output_row t o).frame) (sym place) ∙ at_mod (output_row t o).frame (tick / (output_row t o).frame) (suc (tick % (output_row t o).frame)) l in
          let round : suc tick / (output_row t o).frame ≡ tick / (output_row t o).frame =
          ap (λ x. x / (output_row t o).frame) (sym place) ∙ at_div (output_row t o).frame (tick / (output_row t o).frame) (suc (tick % (output_row t o).frame)) l in
          omega (
            arith,
            due_by-closed t v o h tick,
            due_by-closed t v o h (suc tick),
            ap (λ x. x * length (output_row t o).entries) round,
            ap (λ x. up_to x (output_row t o).entries) here,
            ap (λ x. length (dues_at x (output_row t o).entries)) here,
            up_to-next (tick % (output_row t o).frame) (output_row t o).entries,
          )
      | inr l ↦
          let place : suc (tick / (output_row t o).frame) * (output_row t o).frame + 0 ≡ suc tick = omega arith in
          let here : suc tick % (output_row t o).frame ≡ 0 = ap (λ x. x % (output_row t o).frame) (sym place) ∙ at_mod (output_row t o).frame (suc (tick / (output_row t o).frame)) 0 some in
          let round : suc tick / (output_row t o).frame ≡ suc (tick / (output_row t o).frame) =
          ap (λ x. x / (output_row t o).frame) (sym place) ∙ at_div (output_row t o).frame (suc (tick / (output_row t o).frame)) 0 some in
          let all = up_to-all (tick % (output_row t o).frame) (output_row t o).entries (λ i k. omega (arith, v.entries_in_frame o i h k)) in
          omega (
            arith,
            due_by-closed t v o h tick,
            due_by-closed t v o h (suc tick),
            ap (λ x. x * length (output_row t o).entries) round,
            ap (λ x. up_to x (output_row t o).entries) here,
            ap (λ x. length (dues_at x (output_row t o).entries)) here,
            up_to-zero (output_row t o).entries,
            all,
          )
    ]

pub counts_dues : (t : TableRows) → AreValid t → (o : ℕ) → o < length t.outputs → CountsDues (dues t o) (due_by t o)
counts_dues t v o h =
    let f = output_frame t v o h in
    let frame : ℕ = (output_row t o).frame in
    let es : List Entry = (output_row t o).entries in
    let some : 0 < (output_row t o).frame = omega (arith, v.frames o h) in
    record {
      zeroth =
          let place : 0 * (output_row t o).frame + 0 ≡ 0 = omega arith in
          let none : 0 % (output_row t o).frame ≡ 0 = ap (λ x. x % (output_row t o).frame) (sym place) ∙ at_mod (output_row t o).frame 0 0 some in
          let first : 0 / (output_row t o).frame ≡ 0 = ap (λ x. x / (output_row t o).frame) (sym place) ∙ at_div (output_row t o).frame 0 0 some in
          omega (
            arith,
            due_by-closed t v o h 0,
            ap (λ x. x * length (output_row t o).entries) first,
            ap (λ x. up_to x (output_row t o).entries) none,
            ap (λ x. length (dues_at x (output_row t o).entries)) none,
            up_to-zero (output_row t o).entries,
          );
      later = λ tick. dues_later t v o h tick;
    }

-- ---- the moves of an output

output_moves-push : (t : TableRows) (o : ℕ) (past : List Event) (e : Event) → output_moves t o (past ++ e ∷ []) ≡ output_moves t o past ++ output_move_of t o past e
unfolding output_moves
output_moves-push t o past e =
    ap (λ z. entries_due t o 0 ++ z) (each_joined-push (output_move_of t o) past e)
    ∙ sym (append_assoc (entries_due t o 0) (flat_map (λ z. z) (each_place (output_move_of t o) past)) (output_move_of t o past e))

output_moves-nil : (t : TableRows) (o : ℕ) → output_moves t o [] ≡ come_in (dues t o 0)
unfolding output_moves each_place
output_moves-nil t o = append-nil (entries_due t o 0) ∙ ins_at (0 % (output_row t o).frame) (output_row t o).entries

output_sees : (t : TableRows) (o : ℕ) (past : List Event) (e : Event) → Sees (dues t o) (ticks ends past) (ends e) (one_if (send_of o e)) (output_move_of t o past e)
output_sees t o past Tick =
    let next : tick_after past + 1 ≡ suc (tick_after past) = omega arith in
    ended (ap (λ z. TickMove ∷ z) (ins_at ((tick_after past + 1) % (output_row t o).frame) (output_row t o).entries ∙ ap (λ z. come_in (dues t o z)) next)) refl refl
output_sees t o past (Arrive w b) = idle refl refl refl
output_sees t o past (Route r) = idle refl refl refl
output_sees t o past (Send q) =
    elim (either (q == o)) [
      | inl y ↦ turned (ap (λ b. cond b (Visit ∷ []) []) y) refl (ap (λ b. one_if (cond b (Some q) None)) y)
      | inr n ↦ idle (ap (λ b. cond b (Visit ∷ []) []) n) refl (ap (λ b. one_if (cond b (Some q) None)) n)
    ]

pub output_moves-are : (t : TableRows) (o : ℕ) → AreOutputMoves ends (send_of o) (dues t o) (output_move_of t o) (output_moves t o)
output_moves-are t o = record { first = output_moves-nil t o; next = output_moves-push t o; sees = output_sees t o }

pub sent-is : (t : TableRows) (o : ℕ) (run : List Event) → sent t o run ≡ sent_of ends (send_of o) (due_by t o) run
unfolding sent
sent-is t o run = refl

-- ---- in time

offset_is : (t : TableRows) (o i : ℕ) → get_or (offsets t o) i 0 ≡ (entry_row t o i).offset
offset_is t o i = get_or-map off (output_row t o).entries i no_entry

pub output_offsets : (t : TableRows) → AreValid t → (o : ℕ) → o < length t.outputs → Offsets (output_row t o).frame (offsets t o)
output_offsets t v o h =
    let long : length (offsets t o) ≡ length (output_row t o).entries = length-map (output_row t o).entries off in
    record {
      some = omega (arith, v.entries_some o h);
      ascend = λ i j l k. omega (arith, offset_is t o i, offset_is t o j, v.entries_ascend o i j h l (omega arith));
      below = λ i l. omega (arith, offset_is t o i, v.entries_in_frame o i h (omega arith));
    }

-- the due ticks are those of the offsets
pub due_tick-offsets : (t : TableRows) (o n : ℕ) → due_tick t o n ≡ due (output_row t o).frame (offsets t o) n
due_tick-offsets t o n =
    let long : length (offsets t o) ≡ length (output_row t o).entries = length-map (output_row t o).entries off in
    omega (
      arith,
      offset_is t o (n % length (output_row t o).entries),
      ap (λ m. n / m * (output_row t o).frame) long,
      ap (λ m. get_or (offsets t o) (n % m) 0) long,
    )

-- the queue law at an output
output_law : (t : TableRows) → AreValid t → (o : ℕ) → o < length t.outputs → (c : OutputBound) → AcceptsOutput t o c →
    QueueDelay (output_cap t o) (λ xs. IsDue (output_row t o).frame (offsets t o) xs) (output_floor t o) c.window c.delay
unfolding output_cap
output_law t v o h c a =
    queue_delay (output_cap t o) (output_floor t o) (λ xs. IsDue (output_row t o).frame (offsets t o) xs)
    (λ xs u d ok. due_most (output_row t o).frame (offsets t o) (output_offsets t v o h) (v.frames o h) xs ok u d) c.window a.window.some a.window.most c.delay a.delay.short

-- an entry leaves at its due tick or later, and by the end of the tick `delay` later, where that tick is whole
pub output_timely : (t : TableRows) → AreValid t → (o : ℕ) → o < length t.outputs → (c : OutputBound) → AcceptsOutput t o c → (run : List Event) →
    HoldAtLeast (output_row t o).steps (output_row t o).within (tick_after run) (send_ticks o run) → IsTimely tick_after (sent t o) (due_tick t o) c.delay run
unfolding sent
output_timely t v o h c a run paced =
    timely ends (send_of o) (dues t o) (output_move_of t o) (output_moves t o) (output_moves-are t o) (due_tick t o) (due_by t o) (due_by-counts t v o h) (counts_dues t v o h)
    (output_cap t o) (λ xs. IsDue (output_row t o).frame (offsets t o) xs) (output_row t o).steps (output_row t o).within c.window c.delay (output_law t v o h c a)
    (λ xs g k l. g k l ∙ due_tick-offsets t o k) a.window.closes a.delay.bounded run paced
