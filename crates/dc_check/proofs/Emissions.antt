-- Each output label keeps its intervals.
use Rattle.std.proofs.Common.{◌≡◌, ℕ, suc, ◌+◌, ◌%◌, ◌≤◌, ◌<◌, ◌⊎◌, ◌==◌, inl, inr, Bool, true, false, cond, List, [], ◌∷◌, ◌++◌, length, get_or, Option, Some, None, refl, sym, ap, ◌∙◌, subst, arith, append_assoc, length-append}
use Rattle.std.specs.Prelude.{nat_lt, IfSome}
use Rattle.std.specs.List.{flat_map}
use Rattle.std.proofs.Math.Nat.{mod-lt}
use Rattle.std.proofs.lemmas.Bool.{cases_lt}
use Rattle.std.proofs.lemmas.Bool.Decides.{nat_tests}
use Rattle.std.proofs.lemmas.List.{get_or_at}
use Rattle.dc_bound.specs.lemmas.Dues.{due_count_grows}
use Rattle.dc_bound.specs.Places.{each_place}
use Rattle.dc_bound.specs.Run.{picks, one_if}
use Rattle.dc_cert.specs.Bounds.{CertificateRows, output_bound}
use Rattle.dc_check.proofs.Intervals.{IsTimely, Each, Emits, IsSpacedOut, IntervalKept, intervals_kept, last_or, timely_past, each_past}
use Rattle.dc_check.proofs.OutputMoves.{ticks-push, sent_of-push}
use Rattle.dc_check.proofs.Outputs.{output_frame, due_tick-ascends, due_by-counts, each_joined-push, output_timely, sent-is, either}
use Rattle.dc_check.specs.Accepts.{AcceptsNumbers, gaps_of}
use Rattle.dc_event.specs.Admissible.{IsNumbered, IsRun, KeepsBudgets}
use Rattle.dc_event.specs.Claims.{IsInTime, IsSpaced}
use Rattle.dc_event.specs.Emissions.{emission, tick_if, emission_ticks, last_or_zero}
use Rattle.dc_event.specs.Outputs.{due_tick, entry_label, sent, due_by}
use Rattle.dc_event.specs.Time.{ends, tick_after, send_of}
use Rattle.dc_event.specs.declared.event.Event.{Event}
use Rattle.dc_event.specs.declared.event.Event.TheVariants.{Tick, Arrive, Route, Send}
use Rattle.dc_tables.specs.TableRows.{TableRows, AreValid, output_row, entry_row, label_row}
use Rattle.dc_tables.specs.declared.rows.Entry.{Entry}
use Rattle.dc_transmit.specs.lemmas.GapLaws.{least_apart, greatest_apart, first_due}
use Rattle.dc_transmit.specs.Gaps.{least_of, greatest_of}
use Rattle.dc_transmit.specs.Schedule.{off, no_entry, is_of_label}

-- ---- gaps

-- what bounds each bounds the least and the greatest
pub all_at_least : (b : ℕ) (xs : List ℕ) → ((k : ℕ) → k < length xs → b ≤ get_or xs k 0) → b ≤ least_of b xs
all_at_least b [] h = omega arith
all_at_least b (x ∷ xs) h = omega (arith, h 0 (omega arith), all_at_least b xs (λ k l. h (suc k) (omega arith)))

pub all_at_most : (b d : ℕ) (xs : List ℕ) → ((k : ℕ) → k < length xs → get_or xs k 0 + d ≤ b) → 1 ≤ greatest_of xs → greatest_of xs + d ≤ b
all_at_most b d [] h s = absurd (omega arith)
all_at_most b d (x ∷ xs) h s =
    elim (cases_lt x (greatest_of xs)) [
      | inl l ↦ omega (arith, all_at_most b d xs (λ k l. h (suc k) (omega arith)) (omega arith))
      | inr l ↦ omega (arith, h 0 (omega arith))
    ]

pub eq_test : (a b : ℕ) → a ≡ b → (a == b) ≡ true
eq_test a b h = grind (arith, nat_tests)

eq_from : (a b : ℕ) → (a == b) ≡ true → a ≡ b
eq_from a b h = grind (arith, nat_tests)

lt_from : (a b : ℕ) → nat_lt a b ≡ true → a < b
lt_from a b h = grind (arith, nat_tests)

ge_from : (a b : ℕ) → nat_lt a b ≡ false → b ≤ a
ge_from a b h = grind (arith, nat_tests)

-- entries of one label
pub label_spaced : (t : TableRows) → AreValid t → (x : ℕ) → x < length t.labels → (least : ℕ) →
    IsSpacedOut (due_tick t (label_row t x).output) (λ n. entry_label t (label_row t x).output n == x) (least_of least (gaps_of t x)) (greatest_of (gaps_of t x))
label_spaced t v x h least =
    let o : ℕ = (label_row t x).output in
    let f = output_frame t v (label_row t x).output (v.labels_on_outputs x h) in
    let some = v.labels_in_frames x h in
    let es : List Entry = (output_row t (label_row t x).output).entries in
    let frame : ℕ = (output_row t (label_row t x).output).frame in
    record {
      ascend = due_tick-ascends t v (label_row t x).output (v.labels_on_outputs x h);
      apart = λ i j l a b.
          omega (arith, least_apart off (is_of_label x) no_entry (output_row t (label_row t x).output).frame (output_row t (label_row t x).output).entries f least i j l a b);
      next = λ i a.
          let r = greatest_apart off (is_of_label x) no_entry (output_row t (label_row t x).output).frame (output_row t (label_row t x).output).entries f i a in
          (r.0, r.1, r.2, omega (arith, r.3));
      first =
          let r = first_due off (is_of_label x) no_entry (output_row t (label_row t x).output).frame (output_row t (label_row t x).output).entries f some.0 some.1 (eq_test (entry_row t (label_row t x).output some.0).label x some.2) in
          (r.0, r.1, omega (arith, r.2));
    }

-- ---- emissions

-- whether a label's emission is one of x
abbrev pub marks : ℕ → Option ℕ → Bool
marks x None = false
marks x (Some y) = y == x

tick_if-is : (x now : ℕ) (o : Option ℕ) → tick_if x now o ≡ cond (marks x o) (now ∷ []) []
tick_if-is x now None = refl
tick_if-is x now (Some y) = refl

emission_ticks-push : (t : TableRows) (x : ℕ) (past : List Event) (e : Event) →
    emission_ticks t x (past ++ e ∷ []) ≡ emission_ticks t x past ++ cond (marks x (emission t past e)) (tick_after past ∷ []) []
unfolding emission_ticks
emission_ticks-push t x past e =
    each_joined-push (λ p d. tick_if x (tick_after p) (emission t p d)) past e
    ∙ ap (λ z. flat_map (λ ts. ts) (each_place (λ p d. tick_if x (tick_after p) (emission t p d)) past) ++ z) (tick_if-is x (tick_after past) (emission t past e))

emission_ticks-nil : (t : TableRows) (x : ℕ) → emission_ticks t x [] ≡ []
unfolding emission_ticks each_place
emission_ticks-nil t x = refl

sent_push : (t : TableRows) → AreValid t → (o : ℕ) → o < length t.outputs → (past : List Event) (e : Event) →
    (sent t o past ≤ sent t o (past ++ e ∷ [])) × (sent t o (past ++ e ∷ []) ≤ sent t o past + one_if (send_of o e))
sent_push t v o h past e =
    let r = sent_of-push ends (send_of o) (due_by t o) (due_count_grows (due_tick t o) (due_by t o) (due_by-counts t v o h)) past e in
    (omega (arith, r.0, sent-is t o past, sent-is t o (past ++ e ∷ [])), omega (arith, r.1, sent-is t o past, sent-is t o (past ++ e ∷ [])))

sent_none : (t : TableRows) (o : ℕ) → sent t o [] ≡ 0
unfolding sent picks
sent_none t o = omega arith

one_at_most : (o : Option ℕ) → one_if o ≤ 1
one_at_most None = omega arith
one_at_most (Some x) = omega arith

last_or-front : (a d : ℕ) (ts : List ℕ) → last_or_zero (a ∷ ts) ≡ last_or (a ∷ ts) d
last_or-front a d [] = refl
last_or-front a d (b ∷ ts) = last_or-front b a ts

-- what a marked send tells
Marked : TableRows → ℕ → ℕ → List Event → ℕ → Type 0
Marked t o x past q =
    ((entry_label t o (sent t o past) == x) ≡ true) × (sent t o (past ++ Send q ∷ []) ≡ suc (sent t o past)) × (tick_after (past ++ Send q ∷ []) ≡ tick_after past)

marked_own : (t : TableRows) → AreValid t → (x o : ℕ) → o < length t.outputs → (past : List Event) → nat_lt (sent t o past) (sent t o (past ++ Send o ∷ [])) ≡ true →
    (entry_label t o (sent t o past) == x) ≡ true → Marked t o x past o
unfolding Marked
marked_own t v x o h past l y =
    let up = sent_push t v o h past (Send o) in
    let few : one_if (send_of o (Send o)) ≤ 1 = one_at_most (send_of o (Send o)) in
    (y, omega (arith, lt_from (sent t o past) (sent t o (past ++ Send o ∷ [])) l, up.1), omega (arith, ticks-push ends (send_of o) past (Send o)))

marked_send : (t : TableRows) → AreValid t → (x q : ℕ) → q < length t.outputs → (past : List Event) → nat_lt (sent t q past) (sent t q (past ++ Send q ∷ [])) ≡ true →
    (entry_label t q (sent t q past) == x) ≡ true → Marked t (label_row t x).output x past q
marked_send t v x q h past l y =
    let place : sent t q past % length (output_row t q).entries < length (output_row t q).entries = mod-lt (sent t q past) (v.entries_some q h) in
    let own = (v.entries_labelled q (sent t q past % length (output_row t q).entries) h place).1 in
    let same : (label_row t x).output ≡ q = ap (λ z. (label_row t z).output) (sym (eq_from (entry_label t q (sent t q past)) x y)) ∙ own in
    let P : ℕ → Type 0 = λ o. Marked t o x past q in
    subst P (sym same) (marked_own t v x q h past l y)

marked : (t : TableRows) → AreValid t → (x : ℕ) (past : List Event) (e : Event) → IsNumbered t e → marks x (emission t past e) ≡ true →
    ((entry_label t (label_row t x).output (sent t (label_row t x).output past) == x) ≡ true)
    × (sent t (label_row t x).output (past ++ e ∷ []) ≡ suc (sent t (label_row t x).output past))
    × (tick_after (past ++ e ∷ []) ≡ tick_after past)
unfolding emission Marked
marked t v x past Tick g m = absurd (cc)
marked t v x past (Arrive w b) g m = absurd (cc)
marked t v x past (Route r) g m = absurd (cc)
marked t v x past (Send q) g m =
    elim (either (nat_lt (sent t q past) (sent t q (past ++ Send q ∷ [])))) [
      | inl l ↦ marked_send t v x q g past l (sym (ap (λ b. marks x (cond b (Some (entry_label t q (sent t q past))) None)) l) ∙ m)
      | inr l ↦ absurd (let bad : false ≡ true = sym (ap (λ b. marks x (cond b (Some (entry_label t q (sent t q past))) None)) l) ∙ m in cc)
    ]

Other : TableRows → ℕ → ℕ → List Event → Event → Type 0
Other t o x past e = (sent t o (past ++ e ∷ []) ≡ sent t o past) ⊎ (((entry_label t o (sent t o past) == x) ≡ false) × (sent t o (past ++ e ∷ []) ≡ suc (sent t o past)))

-- an event that is no send of the output
other_still : (t : TableRows) → AreValid t → (o : ℕ) → o < length t.outputs → (past : List Event) (e : Event) → one_if (send_of o e) ≡ 0 → sent t o (past ++ e ∷ []) ≡ sent t o past
other_still t v o h past e z = let up = sent_push t v o h past e in omega (arith, up.0, up.1)

other_own : (t : TableRows) → AreValid t → (x o : ℕ) → o < length t.outputs → (past : List Event) → marks x (emission t past (Send o)) ≡ false → Other t o x past (Send o)
unfolding emission Other
other_own t v x o h past n =
    let up = sent_push t v o h past (Send o) in
    let few : one_if (send_of o (Send o)) ≤ 1 = one_at_most (send_of o (Send o)) in
    elim (either (nat_lt (sent t o past) (sent t o (past ++ Send o ∷ [])))) [
      | inl l ↦ inr (sym (ap (λ b. marks x (cond b (Some (entry_label t o (sent t o past))) None)) l) ∙ n, omega (arith, lt_from (sent t o past) (sent t o (past ++ Send o ∷ [])) l, up.1))
      | inr l ↦ inl (omega (arith, ge_from (sent t o past) (sent t o (past ++ Send o ∷ [])) l, up.0))
    ]

other_of : (t : TableRows) → AreValid t → (x o : ℕ) → o < length t.outputs → (past : List Event) (e : Event) → IsNumbered t e → marks x (emission t past e) ≡ false → Other t o x past e
unfolding Other
other_of t v x o h past Tick g n = inl (other_still t v o h past Tick refl)
other_of t v x o h past (Arrive w b) g n = inl (other_still t v o h past (Arrive w b) refl)
other_of t v x o h past (Route r) g n = inl (other_still t v o h past (Route r) refl)
other_of t v x o h past (Send q) g n =
    elim (either (q == o)) [
      | inl y ↦ let P : ℕ → Type 0 = λ p. marks x (emission t past (Send p)) ≡ false → Other t o x past (Send p) in subst P (sym (eq_from q o y)) (other_own t v x o h past) n
      | inr y ↦ inl (other_still t v o h past (Send q) (ap (λ b. one_if (cond b (Some q) None)) y))
    ]

other : (t : TableRows) → AreValid t → (x : ℕ) → x < length t.labels → (past : List Event) (e : Event) → IsNumbered t e → marks x (emission t past e) ≡ false →
    (sent t (label_row t x).output (past ++ e ∷ []) ≡ sent t (label_row t x).output past)
    ⊎ (((entry_label t (label_row t x).output (sent t (label_row t x).output past) == x) ≡ false) × (sent t (label_row t x).output (past ++ e ∷ []) ≡ suc (sent t (label_row t x).output past)))
unfolding Other
other t v x h past e g n = other_of t v x (label_row t x).output (v.labels_on_outputs x h) past e g n

-- ---- the claim

label_acts : (t : TableRows) → AreValid t → (x : ℕ) → x < length t.labels →
    Emits (IsNumbered t) tick_after (sent t (label_row t x).output) (λ n. entry_label t (label_row t x).output n == x) (λ past e. marks x (emission t past e))
label_acts t v x h = record {
  none_sent = sent_none t (label_row t x).output;
  marked = marked t v x;
  other = other t v x h;
}

each_numbered : (t : TableRows) (run : List Event) → IsRun t run → Each (IsNumbered t) run
each_numbered t run h past rest e s =
    let short : length past < length run = omega (arith, ap length s, length-append past (e ∷ rest)) in
    let P : Event → Type 0 = IsNumbered t in
    subst P (ap (λ z. get_or z (length past) e) s ∙ get_or_at past e rest e (length past) refl) (h (length past) e short)

-- the intervals of each label are kept
pub label_kept : (t : TableRows) → AreValid t → (c : CertificateRows) → AcceptsNumbers t c → (run : List Event) → IsRun t run → KeepsBudgets t run →
    (past rest : List Event) (e : Event) → run ≡ past ++ (e ∷ rest) → (x : ℕ) → x < length t.labels →
    IntervalKept (emission_ticks t x past) (marks x (emission t past e)) (tick_after past) (label_row t x).minimum (label_row t x).maximum
label_kept t v c a run numbers keeps past rest e s x h =
    let o : ℕ = (label_row t x).output in
    let there = v.labels_on_outputs x h in
    let d : ℕ = (output_bound c (label_row t x).output).delay in
    let fits = (a.labels x h).gaps in
    let all = output_timely t v (label_row t x).output there (output_bound c (label_row t x).output) (a.outputs (label_row t x).output there) run (keeps.outputs_work (label_row t x).output there) in
    let regroup : run ≡ (past ++ e ∷ []) ++ rest = s ∙ sym (append_assoc past (e ∷ []) rest) in
    let T : List Event → Type 0 = λ z. IsTimely tick_after (sent t (label_row t x).output) (due_tick t (label_row t x).output) (output_bound c (label_row t x).output).delay z in
    let N : List Event → Type 0 = λ z. Each (IsNumbered t) z in
    let timely : IsTimely tick_after (sent t (label_row t x).output) (due_tick t (label_row t x).output) (output_bound c (label_row t x).output).delay (past ++ e ∷ []) =
    timely_past tick_after (sent t (label_row t x).output) (due_tick t (label_row t x).output) (output_bound c (label_row t x).output).delay (past ++ e ∷ []) rest (subst T regroup all) in
    let each : Each (IsNumbered t) (past ++ e ∷ []) = each_past (IsNumbered t) (past ++ e ∷ []) rest (subst N regroup (each_numbered t run numbers)) in
    let low : ℕ = (label_row t x).minimum + (output_bound c (label_row t x).output).delay in
    let spaced = label_spaced t v x h ((label_row t x).minimum + (output_bound c (label_row t x).output).delay) in
    let some : 1 ≤ greatest_of (gaps_of t x) =
    (let first = spaced.first in let next = spaced.next first.0 first.1 in omega (arith, next.3, spaced.ascend first.0 next.0 next.1)) in
    intervals_kept (IsNumbered t) tick_after (sent t (label_row t x).output) (due_tick t (label_row t x).output) (output_bound c (label_row t x).output).delay
    (λ n. entry_label t (label_row t x).output n == x) (λ p d. marks x (emission t p d)) (emission_ticks t x) (label_acts t v x h) (emission_ticks-nil t x) (emission_ticks-push t x)
    (least_of ((label_row t x).minimum + (output_bound c (label_row t x).output).delay) (gaps_of t x)) (greatest_of (gaps_of t x)) (label_row t x).minimum (label_row t x).maximum spaced
    (all_at_least ((label_row t x).minimum + (output_bound c (label_row t x).output).delay) (gaps_of t x) (λ k l. fits.not_soon k 0 l))
    (all_at_most (label_row t x).maximum (output_bound c (label_row t x).output).delay (gaps_of t x) (λ k l. fits.not_late k 0 l) some)
    past e timely each

last_or-zero : (ts : List ℕ) → last_or_zero ts ≡ last_or ts 0
last_or-zero [] = refl
last_or-zero (a ∷ ts) = last_or-front a 0 ts

-- at an emission
spaced_some : (t : TableRows) (past : List Event) (o : Option ℕ) → ((x : ℕ) → marks x o ≡ true → 1 ≤ length (emission_ticks t x past) → last_or (emission_ticks t x past) 0 + (label_row t x).minimum ≤ tick_after past) →
    IfSome o (λ x. 1 ≤ length (emission_ticks t x past) → last_or_zero (emission_ticks t x past) + (label_row t x).minimum ≤ tick_after past)
spaced_some t past None h = tt
spaced_some t past (Some x) h = λ some. omega (arith, h x (eq_test x x refl) some, last_or-zero (emission_ticks t x past))

-- an emitted label is one of the tables
emitted_there : (t : TableRows) → AreValid t → (x : ℕ) (past : List Event) (e : Event) → IsNumbered t e → marks x (emission t past e) ≡ true → x < length t.labels
unfolding emission
emitted_there t v x past Tick g m = absurd (cc)
emitted_there t v x past (Arrive w b) g m = absurd (cc)
emitted_there t v x past (Route r) g m = absurd (cc)
emitted_there t v x past (Send q) g m =
    elim (either (nat_lt (sent t q past) (sent t q (past ++ Send q ∷ [])))) [
      | inl l ↦
          let y : (entry_label t q (sent t q past) == x) ≡ true = sym (ap (λ b. marks x (cond b (Some (entry_label t q (sent t q past))) None)) l) ∙ m in
          let place : sent t q past % length (output_row t q).entries < length (output_row t q).entries = mod-lt (sent t q past) (v.entries_some q g) in
          omega (arith, (v.entries_labelled q (sent t q past % length (output_row t q).entries) g place).0, eq_from (entry_label t q (sent t q past)) x y)
      | inr l ↦ absurd (let bad : false ≡ true = sym (ap (λ b. marks x (cond b (Some (entry_label t q (sent t q past))) None)) l) ∙ m in cc)
    ]

spaced_at : (t : TableRows) → AreValid t → (c : CertificateRows) → AcceptsNumbers t c → (run : List Event) → IsRun t run → KeepsBudgets t run →
    (past rest : List Event) (e : Event) → run ≡ past ++ (e ∷ rest) → IsSpaced t past e
spaced_at t v c a run numbers keeps past rest e s =
    spaced_some t past (emission t past e) (λ x m some.
    (label_kept t v c a run numbers keeps past rest e s x (emitted_there t v x past e (each_numbered t run numbers past rest e s) m)).short m some)

-- the claim on intervals, at each event
pub intervals_hold : (t : TableRows) → AreValid t → (c : CertificateRows) → AcceptsNumbers t c → (run : List Event) → IsRun t run → KeepsBudgets t run →
    (past rest : List Event) (e : Event) → run ≡ past ++ (e ∷ rest) → IsInTime t past e × IsSpaced t past e
intervals_hold t v c a run numbers keeps past rest e s =
    (λ x h. omega (arith, (label_kept t v c a run numbers keeps past rest e s x h).long, last_or-zero (emission_ticks t x past)), spaced_at t v c a run numbers keeps past rest e s)
