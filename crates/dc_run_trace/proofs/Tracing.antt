-- The run of a capture, word by word.
use Rattle.std.proofs.Common.{◌≡◌, ℕ, zero, suc, ◌+◌, ◌-◌, ◌≤◌, ◌<◌, ◌==◌, Bool, true, false, cond, List, [], ◌∷◌, ◌++◌, length, filter, map, Option, Some, None, Result, Ok, Err, nat_lt, refl, sym, ap, ◌∙◌, subst, append_assoc, add-zero, arith, eq-eqb}
use Rattle.std.proofs.lemmas.Bool.{ne_eqb}
use Rattle.std.proofs.lemmas.Bool.Decides.{nat_tests}
use Rattle.std.proofs.Math.Nat.{div-mul-le_self}
use Rattle.dc_bound.specs.Turns.{NeverFall}
use Rattle.dc_bound.specs.Window.{ticks_of}
use Rattle.dc_bound.specs.lemmas.Counts.{ceil_from}
use Rattle.dc_capture.specs.CaptureText.{Capture, capture_lines, ended_by, faulty, fields_word, in_front, judged, latest_after, line_word, word_in_front}
use Rattle.dc_capture.specs.Reading.{capture_from}
use Rattle.dc_capture.specs.TimeText.{time_of}
use Rattle.dc_capture.specs.declared.capture_lines.TheConstants.{CAPTURE_LIMIT}
use Rattle.dc_capture.specs.declared.fault.CaptureRule.{CaptureRule}
use Rattle.dc_capture.specs.declared.fault.CaptureRule.TheVariants.{TimeFalls, LineTooLong}
use Rattle.dc_capture.specs.declared.line.CapturedWord.{CapturedWord}
use Rattle.dc_device.specs.Lines.{lines_of}
use Rattle.dc_event.specs.Steady.{each_below, steady_tick}
use Rattle.dc_event.specs.TraceText.{fields_of, number_named, too_long}
use Rattle.dc_event.specs.WordText.{word_of}
use Rattle.dc_event.specs.declared.event.Event.{Event}
use Rattle.dc_run_trace.specs.Answer.{begin_of, least_time, recorded}
use Rattle.dc_run_trace.specs.Steps.{clock_or, run_ahead, run_from, steady_from}
use Rattle.dc_run_trace.specs.declared.clock.Clock.{Clock}
use Rattle.dc_tables.specs.TableRows.{TableRows}
use Rattle.dc_trace.specs.Traces.{arrive, last_of, tick_at, traced, traced_tick, words_in}

abbrev Words : Type 0
Words = List (ℕ × (ℕ × ℕ))

-- ---- one part of a list after another

ext : {X : Type 0} (f g : ℕ → List X) (n : ℕ) → ((i : ℕ) → i < n → f i ≡ g i) → each_below f n ≡ each_below g n
ext f g zero same = refl
ext f g (suc n) same = ap (λ l. l ++ f n) (ext f g n (λ i l. same i (omega (arith, l)))) ∙ ap (λ l. each_below g n ++ l) (same n (omega arith))

pub parts : {X : Type 0} (f : ℕ → List X) (a b : ℕ) → each_below f (a + b) ≡ each_below f a ++ each_below (λ i. f (a + i)) b
parts f a zero = ap (each_below f) (add-zero a) ∙ sym (nothing_more (each_below f a)) where
  nothing_more : {X : Type 0} (l : List X) → l ++ [] ≡ l
  nothing_more [] = refl
  nothing_more (x ∷ l) = ap (λ r. x ∷ r) (nothing_more l)
parts f a (suc b) =
    let next : a + suc b ≡ suc (a + b) = omega arith in
    ap (each_below f) next ∙ ap (λ l. l ++ f (a + b)) (parts f a b) ∙ append_assoc (each_below f a) (each_below (λ i. f (a + i)) b) (f (a + b))

-- one element more in front of the first
in_first : {X : Type 0} (f h : ℕ → List X) (a : X) → f 0 ≡ a ∷ h 0 → ((i : ℕ) → f (suc i) ≡ h (suc i)) → (n : ℕ) → each_below f (suc n) ≡ a ∷ each_below h (suc n)
in_first f h a first rest zero = first
in_first f h a first rest (suc n) = ap (λ l. l ++ f (suc n)) (in_first f h a first rest n) ∙ ap (λ l. (a ∷ each_below h (suc n)) ++ l) (rest n)

-- ---- ticks of times

module _ (from tick_us : ℕ) (some : 1 ≤ tick_us) where
  rises : (a b : ℕ) → a ≤ b → tick_at from tick_us a ≤ tick_at from tick_us b
  rises a b le = ceil_from tick_us (tick_at from tick_us a) (b - from) some (omega (arith, div-mul-le_self (a - from) tick_us))

  none_at : (n : ℕ) (x : ℕ × (ℕ × ℕ)) (xs : Words) → NeverFall (x.0 ∷ ticks_of xs) → n < tick_at from tick_us x.0 → filter (λ y. tick_at from tick_us y.0 == n) xs ≡ []
  unfolding NeverFall
  none_at n x [] order le = refl
  none_at n x (y ∷ ys) order le = rw (ne_eqb (tick_at from tick_us y.0) n (λ e. omega (arith, e, le, rises x.0 y.0 order.0))) (none_at n y ys order.1 (omega (arith, le, rises x.0 y.0 order.0)))

  last_late : (x : ℕ × (ℕ × ℕ)) (xs : Words) → NeverFall (x.0 ∷ ticks_of xs) → x.0 ≤ last_of x.0 xs
  unfolding NeverFall
  last_late x [] order = omega arith
  last_late x (y ∷ ys) order = omega (arith, order.0, last_late y ys order.1)

order_tail : (time : ℕ) (ts : List ℕ) → NeverFall (time ∷ ts) → NeverFall ts
unfolding NeverFall
order_tail time [] order = tt
order_tail time (s ∷ ts) order = order.1

-- ---- the run

module _ (t : TableRows) (some : 1 ≤ t.tick_us) (from : ℕ) where
  -- the tick of the last word, or this one where there is none
  abbrev last_tick_of : ℕ → Words → ℕ
  last_tick_of k [] = k
  last_tick_of k (x ∷ xs) = tick_at from t.tick_us (last_of x.0 xs)

  -- the first word is in this tick or later
  abbrev Begins : ℕ → Words → Type 0
  Begins k [] = Unit {0}
  Begins k (x ∷ xs) = k ≤ tick_at from t.tick_us x.0

  same_last : (x : ℕ × (ℕ × ℕ)) (xs : Words) → last_tick_of (tick_at from t.tick_us x.0) xs ≡ tick_at from t.tick_us (last_of x.0 xs)
  same_last x [] = refl
  same_last x (y ∷ ys) = refl

  begins_next : (x : ℕ × (ℕ × ℕ)) (xs : Words) → NeverFall (x.0 ∷ ticks_of xs) → Begins (tick_at from t.tick_us x.0) xs
  unfolding NeverFall
  begins_next x [] order = tt
  begins_next x (y ∷ ys) order = rises from t.tick_us some x.0 y.0 order.0

  -- a tick before that of the first word has steps alone
  steps_alone : (x : ℕ × (ℕ × ℕ)) (xs : Words) (n : ℕ) → NeverFall (x.0 ∷ ticks_of xs) → n < tick_at from t.tick_us x.0 → traced_tick t from (x ∷ xs) n ≡ steady_tick t n
  steps_alone x xs n order before = rw (ne_eqb (tick_at from t.tick_us x.0) n (λ e. omega (arith, e, before)), none_at from t.tick_us some n x xs order before) refl

  word_first : (x : ℕ × (ℕ × ℕ)) (xs : Words) (n : ℕ) → tick_at from t.tick_us x.0 ≡ n → traced_tick t from (x ∷ xs) n ≡ arrive x ∷ traced_tick t from xs n
  word_first x xs n is = rw (eq-eqb (tick_at from t.tick_us x.0) n is) refl

  word_before : (x : ℕ × (ℕ × ℕ)) (xs : Words) (n : ℕ) → tick_at from t.tick_us x.0 < n → traced_tick t from (x ∷ xs) n ≡ traced_tick t from xs n
  word_before x xs n before = rw (ne_eqb (tick_at from t.tick_us x.0) n (λ e. omega (arith, e, before))) refl

  by_words : (k d : ℕ) (xs : Words) → NeverFall (ticks_of xs) → Begins k xs → last_tick_of k xs ≡ k + d → run_from t from k xs ≡ each_below (λ i. traced_tick t from xs (k + i)) (suc d)
  by_words k d [] order begins last =
      let none : d ≡ 0 = omega (arith, last) in
      rw none (ap (steady_tick t) (sym (add-zero k)))
  by_words k d (x ∷ xs) order begins last =
      let kx = tick_at from t.tick_us x.0 in
      let a = kx - k in
      let late : kx ≤ tick_at from t.tick_us (last_of x.0 xs) = rises from t.tick_us some x.0 (last_of x.0 xs) (last_late from t.tick_us some x xs order) in
      let e = d - a in
      let all : suc d ≡ a + suc e = omega (arith, late, last, begins) in
      let rest : run_from t from kx xs ≡ each_below (λ i. traced_tick t from xs (kx + i)) (suc e) =
      by_words kx e xs (order_tail x.0 (ticks_of xs) order) (begins_next x xs order) (same_last x xs ∙ omega (arith, late, last, begins)) in
      let f : ℕ → List Event = λ i. traced_tick t from (x ∷ xs) (k + i) in
      let before : each_below f a ≡ steady_from t k a = ext f (λ i. steady_tick t (k + i)) a (λ i l. steps_alone x xs (k + i) order (omega (arith, l, begins))) in
      let at_word : f (a + 0) ≡ arrive x ∷ traced_tick t from xs (kx + 0) =
      ap (traced_tick t from (x ∷ xs)) (omega (arith, begins)) ∙ word_first x xs (kx + 0) (sym (add-zero kx)) in
      let after : (i : ℕ) → f (a + suc i) ≡ traced_tick t from xs (kx + suc i) = λ i.
      ap (traced_tick t from (x ∷ xs)) (omega (arith, begins)) ∙ word_before x xs (kx + suc i) (omega arith) in
      let second : each_below (λ i. f (a + i)) (suc e) ≡ arrive x ∷ each_below (λ i. traced_tick t from xs (kx + i)) (suc e) =
      in_first (λ i. f (a + i)) (λ i. traced_tick t from xs (kx + i)) (arrive x) at_word after e in
      sym (ap (each_below f) all ∙ parts f a (suc e) ∙ ap (λ l. l ++ each_below (λ i. f (a + i)) (suc e)) before ∙ ap (λ l. steady_from t k a ++ l) (second ∙ ap (λ l. arrive x ∷ l) (sym rest)))

  all_words : (x : ℕ × (ℕ × ℕ)) (xs : Words) → NeverFall (x.0 ∷ ticks_of xs) → traced t from (x ∷ xs) ≡ run_from t from 0 (x ∷ xs)
  unfolding traced
  all_words x xs order =
      ext (traced_tick t from (x ∷ xs)) (λ i. traced_tick t from (x ∷ xs) (0 + i)) (suc (tick_at from t.tick_us (last_of x.0 xs))) (λ i l. ap (traced_tick t from (x ∷ xs)) (from_0 i))
      ∙ sym (by_words 0 (tick_at from t.tick_us (last_of x.0 xs)) (x ∷ xs) order (omega arith) (omega arith))
    where
      from_0 : (i : ℕ) → i ≡ 0 + i
      from_0 i = omega arith

-- where tick 0 begins as was said, or with the first word
pub traced_words : (t : TableRows) → 1 ≤ t.tick_us → (from : Option ℕ) (words : Words) → NeverFall (ticks_of words) → traced t (begin_of from words) words ≡ run_ahead t from None words
unfolding traced
traced_words t some None [] order = refl
traced_words t some (Some from) [] order = refl
traced_words t some None (x ∷ xs) order = all_words t some x.0 x xs order
traced_words t some (Some from) (x ∷ xs) order = all_words t some from x xs order

-- ---- the times of a capture never fall

abbrev time_in : Result CapturedWord CaptureRule → ℕ
time_in (Ok x) = x.time
time_in (Err rule) = 0

not_before : (time latest : ℕ) → nat_lt time latest ≡ false → latest ≤ time
not_before time latest h = grind (arith, nat_tests)

judged_late : (latest : ℕ) (time bus word : Option ℕ) (x : CapturedWord) → judged latest time bus word ≡ Ok x → latest ≤ x.time
judged_late latest None bus word x h = cc
judged_late latest (Some k) None word x h = cc
judged_late latest (Some k) (Some b) None x h = cc
judged_late latest (Some k) (Some b) (Some w) x h =
    let told : CapturedWord = record { time = k; bus = b; word = w } in
    elim (nat_lt k latest) as (λ falls. nat_lt k latest ≡ falls → (let r : Result CapturedWord CaptureRule = cond falls (Err TimeFalls) (Ok told) in r ≡ Ok x) → latest ≤ x.time) [
      | true ↦ λ is h. cc
      | false ↦ λ is h. omega (arith, not_before k latest is, ap time_in h)
    ] refl h

line_late : (t : TableRows) (latest : ℕ) (line : List ℕ) (x : CapturedWord) → line_word t latest line ≡ Ok x → latest ≤ x.time
unfolding line_word
line_late t latest line x h = fields_late (fields_of line) h where
  fields_late : (fields : List (List ℕ)) → fields_word t latest fields ≡ Ok x → latest ≤ x.time
  fields_late [] h = cc
  fields_late (a ∷ []) h = cc
  fields_late (a ∷ b ∷ []) h = cc
  fields_late (a ∷ b ∷ c ∷ []) h = judged_late latest (time_of a) (number_named t.names.buses b) (word_of c) x h
  fields_late (a ∷ b ∷ c ∷ d ∷ rest) h = cc

ended_order : (number latest : ℕ) (rest : List ℕ) → NeverFall (latest ∷ ticks_of (ended_by number rest).words)
unfolding NeverFall
ended_order number latest [] = tt
ended_order number latest (c ∷ cs) = tt

front_order : (number latest : ℕ) (read : Result CapturedWord CaptureRule) (rest : Capture) → ((x : CapturedWord) → read ≡ Ok x → latest ≤ x.time) → NeverFall (latest_after latest read ∷ ticks_of rest.words)
    → NeverFall (latest ∷ ticks_of (in_front number read rest).words)
unfolding NeverFall
front_order number latest (Ok x) rest late order = (late x refl, order)
front_order number latest (Err rule) rest late order = tt

lines_order : (t : TableRows) (room number latest : ℕ) (ls : List (List ℕ)) (rest : List ℕ) → NeverFall (latest ∷ ticks_of (capture_lines t room number latest ls rest).words)
unfolding NeverFall
lines_order t room number latest [] rest =
    elim (too_long room (length rest) (length rest)) as (λ b. NeverFall (latest ∷ ticks_of (cond b (faulty LineTooLong number) (ended_by number rest)).words)) [
      | true ↦ tt
      | false ↦ ended_order number latest rest
    ]
lines_order t room number latest (l ∷ ls) rest =
    let next = capture_lines t (room - (length l + 1)) (number + 1) (latest_after latest (line_word t latest l)) ls rest in
    elim (too_long room (length l) (length l + 1)) as (λ b. NeverFall (latest ∷ ticks_of (cond b (faulty LineTooLong number) (in_front number (line_word t latest l) next)).words)) [
      | true ↦ tt
      | false ↦ front_order number latest (line_word t latest l) next (line_late t latest l) (lines_order t (room - (length l + 1)) (number + 1) (latest_after latest (line_word t latest l)) ls rest)
    ]

pub recorded_order : (t : TableRows) (from : Option ℕ) (text : List ℕ) → NeverFall (ticks_of (recorded t from text).words)
recorded_order t from text = order_tail (least_time from) (ticks_of (recorded t from text).words) (lines_order t CAPTURE_LIMIT 1 (least_time from) (lines_of text).0 (lines_of text).1)
