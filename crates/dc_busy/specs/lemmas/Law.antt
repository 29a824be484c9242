-- The busy-window law.
use Rattle.std.proofs.Common.{◌≡◌, ℕ, ◌+◌, ◌-◌, ◌<◌, ◌≤◌, zero, suc, List, [], ◌∷◌, ◌++◌, length, refl, ap, ◌∙◌, subst, arith, inl, inr, append_assoc}
use Rattle.std.proofs.lemmas.Bool.{cases_lt}
use Rattle.dc_bound.specs.Window.{count_in, ticks_of}
use Rattle.dc_bound.specs.Run.{ticks, picks}
use Rattle.dc_bound.specs.Moves.{Move, move_ends, tag_of, visit_of, ticks_in, visits, entries, visit_ticks, ins, passed}
use Rattle.dc_bound.specs.Moves.Move.{Tick, In, Visit}
use Rattle.dc_bound.specs.lemmas.Segments.{segment_in, segment_holds, ticks-append, picks-append}
use Rattle.dc_bound.specs.lemmas.Queued.{ins-count, le-passed}
use Rattle.dc_busy.specs.BusyWindow.{Serves, Closes, BacklogBounded, DelayBounded, QueueBacklog, QueueDelay, QueueInTime}
use Rattle.dc_bound.specs.lemmas.QueueTimes.{split_sides, hands_on-in_time}

-- how many came
abbrev arrivals : List Move → ℕ
arrivals ms = picks tag_of ms

-- the moves before the Tick that move_ends tick k of them, that Tick, and those after it
pub split_at_tick : (ms : List Move) (k : ℕ) → k < ticks_in ms → (x : List Move) × (y : List Move) × (ms ≡ x ++ (Tick ∷ y)) × (ticks_in x ≡ k)
unfolding ticks
split_at_tick [] k h = absurd (omega arith)
split_at_tick (Tick ∷ ms) zero h = ([], ms, refl, refl)
split_at_tick (Tick ∷ ms) (suc k) h = let r = split_at_tick ms k (omega arith) in (Tick ∷ r.0, r.1, ap (λ z. Tick ∷ z) r.2, omega (arith, r.3))
split_at_tick (In g ∷ ms) k h = let r = split_at_tick ms k (omega arith) in (In g ∷ r.0, r.1, ap (λ z. In g ∷ z) r.2, omega (arith, r.3))
split_at_tick (Visit ∷ ms) k h = let r = split_at_tick ms k (omega arith) in (Visit ∷ r.0, r.1, ap (λ z. Visit ∷ z) r.2, omega (arith, r.3))

-- what each segment of a run keeps, if its entries and visits keep a and s
pub record Bounded (a s : ℕ → ℕ) (ms : List Move) : Type 0 where
  pub arrivals : (pre mid post : List Move) → ms ≡ pre ++ (mid ++ post) → arrivals mid ≤ a (suc (ticks_in mid))
  pub service : (pre mid post : List Move) → ms ≡ pre ++ (mid ++ post) → (d : ℕ) → d ≤ 1000000 → d < ticks_in mid → s d ≤ visits mid

pub bounded : (a s : ℕ → ℕ) (ms : List Move) → ((u d : ℕ) → count_in u d (ticks_of (entries ms)) ≤ a d) → Serves s ms → Bounded a s ms
bounded a s ms ha hs = record {
  arrivals = λ pre mid post e.
      let P : List Move → Type 0 = λ z. count_in (ticks_in pre) (suc (ticks_in mid)) (ticks_of (entries z)) ≤ a (suc (ticks_in mid)) in
      omega (arith, segment_in move_ends tag_of pre mid post, subst P e (ha (ticks_in pre) (suc (ticks_in mid))));
  service = λ pre mid post e d small inside.
      let P : List Move → Type 0 = λ z. s d ≤ count_in (suc (ticks_in pre)) d (visit_ticks z) in
      let whole : suc (ticks_in pre) + d ≤ ticks_in ms = omega (arith, ap ticks_in e, ticks-append move_ends tag_of pre (mid ++ post), ticks-append move_ends tag_of mid post) in
      omega (arith, segment_holds move_ends visit_of pre mid post d inside, subst P e (hs (suc (ticks_in pre)) d small whole));
}

-- the counts of two parts with a Tick between them
ins_parts : (x y : List Move) → arrivals (x ++ (Tick ∷ y)) ≡ arrivals x + arrivals y
unfolding picks
ins_parts x y = omega (arith, picks-append move_ends tag_of x (Tick ∷ y))

visits_parts : (x y : List Move) → visits (x ++ (Tick ∷ y)) ≡ visits x + visits y
unfolding picks
visits_parts x y = omega (arith, picks-append move_ends visit_of x (Tick ∷ y))

len_parts : (x y : List Move) → ticks_in (x ++ (Tick ∷ y)) ≡ suc (ticks_in x + ticks_in y)
unfolding ticks
len_parts x y = omega (arith, ticks-append move_ends tag_of x (Tick ∷ y))

module _ (a s : ℕ → ℕ) (window : ℕ) (least : 1 ≤ window) (most : window ≤ 100000) (closes : Closes a s window) (ms : List Move) (b : Bounded a s ms) where
  -- as many visits as entries in the first `window` ticks of a longer segment, up to its Tick
  pub first_part : (pre x y post : List Move) → ms ≡ pre ++ ((x ++ (Tick ∷ y)) ++ post) → suc (ticks_in x) ≡ window → arrivals x ≤ visits x
  unfolding picks ticks
  first_part pre x y post e h =
      let came = b.arrivals pre x ((Tick ∷ y) ++ post) (e ∙ simp append_assoc) in
      let nil : visits [] ≡ 0 = refl in
      let gone = b.service pre (x ++ (Tick ∷ [])) (y ++ post) (e ∙ simp append_assoc) (window - 1) (omega arith) (omega (arith, len_parts x [])) in
      omega (arith, came, gone, closes, ap a h, visits_parts x [])

  short_backlog : (backlog : ℕ) → s 0 ≡ 0 → BacklogBounded a s window backlog →
      (pre mid post : List Move) → ms ≡ pre ++ (mid ++ post) → (k : ℕ) → ticks_in mid ≡ k → k < window → arrivals mid ≤ backlog + visits mid
  short_backlog backlog z h pre mid post e zero f g =
      omega (arith, b.arrivals pre mid post e, h 1 (omega arith) least, ap (λ x. a (suc x)) f, z)
  short_backlog backlog z h pre mid post e (suc k) f g =
      let two : suc (suc k) - 2 ≡ k = omega arith in
      omega (arith, b.arrivals pre mid post e, h (suc (suc k)) (omega arith) g, ap s two, ap (λ x. a (suc x)) f, b.service pre mid post e k (omega arith) (omega arith))

  pub backlog_segment : (backlog : ℕ) → s 0 ≡ 0 → BacklogBounded a s window backlog →
      (n : ℕ) (pre mid post : List Move) → ticks_in mid ≤ n → ms ≡ pre ++ (mid ++ post) → arrivals mid ≤ backlog + visits mid
  backlog_segment backlog z h zero pre mid post f e = short_backlog backlog z h pre mid post e (ticks_in mid) refl (omega arith)
  backlog_segment backlog z h (suc n) pre mid post f e =
      elim (cases_lt (ticks_in mid) window) [
        | inl k ↦ short_backlog backlog z h pre mid post e (ticks_in mid) refl k
        | inr k ↦
            let r = split_at_tick mid (window - 1) (omega arith) in
            let there : ms ≡ pre ++ ((r.0 ++ (Tick ∷ r.1)) ++ post) = e ∙ ap (λ m. pre ++ (m ++ post)) r.2 in
            let rest = backlog_segment backlog z h n (pre ++ (r.0 ++ (Tick ∷ []))) r.1 post (omega (arith, ap ticks_in r.2, len_parts r.0 r.1)) (there ∙ simp append_assoc) in
            omega (arith, first_part pre r.0 r.1 post there (omega (arith, r.3)), rest, ap arrivals r.2, ap visits r.2, ins_parts r.0 r.1, visits_parts r.0 r.1)
      ]

  short_delay : (delay : ℕ) → delay ≤ 100000 → DelayBounded a s window delay →
      (pre mid after post : List Move) → ms ≡ pre ++ ((mid ++ after) ++ post) → delay < ticks_in after → ticks_in mid < window → arrivals mid ≤ visits (mid ++ after)
  short_delay delay small h pre mid after post e f g =
      omega (
        arith,
        b.arrivals pre mid (after ++ post) (e ∙ simp append_assoc),
        h (suc (ticks_in mid)) (omega arith) g,
        b.service pre (mid ++ after) post e (suc (ticks_in mid) - 1 + delay) (omega arith) (omega (arith, ticks-append move_ends tag_of mid after)),
      )

  pub delay_segment : (delay : ℕ) → delay ≤ 100000 → DelayBounded a s window delay →
      (n : ℕ) (pre mid after post : List Move) → ticks_in mid ≤ n → ms ≡ pre ++ ((mid ++ after) ++ post) → delay < ticks_in after → arrivals mid ≤ visits (mid ++ after)
  delay_segment delay small h zero pre mid after post f e g = short_delay delay small h pre mid after post e g (omega arith)
  delay_segment delay small h (suc n) pre mid after post f e g =
      elim (cases_lt (ticks_in mid) window) [
        | inl k ↦ short_delay delay small h pre mid after post e g k
        | inr k ↦
            let r = split_at_tick mid (window - 1) (omega arith) in
            let there : ms ≡ pre ++ ((r.0 ++ (Tick ∷ (r.1 ++ after))) ++ post) = e ∙ ap (λ m. pre ++ ((m ++ after) ++ post)) r.2 ∙ simp append_assoc in
            let rest = delay_segment delay small h n (pre ++ (r.0 ++ (Tick ∷ []))) r.1 after post (omega (arith, ap ticks_in r.2, len_parts r.0 r.1)) (there ∙ simp append_assoc) g in
            let same : mid ++ after ≡ r.0 ++ (Tick ∷ (r.1 ++ after)) = ap (λ m. m ++ after) r.2 ∙ simp append_assoc in
            omega (arith, first_part pre r.0 (r.1 ++ after) post there (omega (arith, r.3)), rest, ap arrivals r.2, ap visits same, ins_parts r.0 r.1, visits_parts r.0 (r.1 ++ after))
      ]

module _ (a s : ℕ → ℕ) (allows : List (ℕ × ℕ) → Type 0) (holds : (xs : List (ℕ × ℕ)) (u d : ℕ) → allows xs → count_in u d (ticks_of xs) ≤ a d)
    (window : ℕ) (least : 1 ≤ window) (most : window ≤ 100000) where
  pub queue_backlog : (backlog : ℕ) → s 0 ≡ 0 → QueueBacklog a allows s window backlog
  queue_backlog backlog z closes h ms ok served pre post at =
      let b : Bounded a s ms = bounded a s ms (λ u d. holds (entries ms) u d ok) served in
      let n : arrivals pre - backlog ≤ passed pre = le-passed pre (arrivals pre - backlog) (λ x y e.
      omega (
        arith,
        backlog_segment a s window least most closes ms b backlog z h (ticks_in y) x y post (omega arith) (at ∙ ap (λ r. r ++ post) e ∙ simp append_assoc),
        ap arrivals e,
        ins-count x,
        picks-append move_ends tag_of x y,
      )) in
      omega (arith, ins-count pre)

  pub queue_delay : (delay : ℕ) → delay ≤ 100000 → QueueDelay a allows s window delay
  queue_delay delay small closes h ms ok served pre mid post at late =
      let b : Bounded a s ms = bounded a s ms (λ u d. holds (entries ms) u d ok) served in
      le-passed (pre ++ mid) (length (ins pre)) (λ x y e.
      elim (split_sides pre mid x y e) [
        | inl (q, f, g) ↦
            omega (
              arith,
              delay_segment a s window least most closes ms b delay small h (ticks_in q) x q mid post (omega arith) (at ∙ ap (λ r. r ++ (mid ++ post)) f ∙ simp append_assoc) late,
              ap arrivals f,
              ins-count pre,
              ins-count x,
              picks-append move_ends tag_of x q,
              ap visits g,
            )
        | inr (q, f, g) ↦ omega (arith, ap arrivals f, ins-count pre, ins-count x, picks-append move_ends tag_of pre q)
      ])

  pub queue_in_time : (delay : ℕ) → delay ≤ 100000 → QueueInTime a allows s window delay
  queue_in_time delay small closes h ms ok served pre post at n came late =
      hands_on-in_time delay pre
      (λ x y z e inside. queue_delay delay small closes h ms ok served x y (z ++ post) (at ∙ ap (λ r. r ++ post) e ∙ simp append_assoc) inside)
      n came late
