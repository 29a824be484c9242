-- Which conditions a margin stands for: its test is that of the verdict.
use Rattle.std.proofs.Common.{◌≡◌, ℕ, ◌+◌, ◌-◌, ◌≤◌, ◌<◌, Bool, true, false, ◌&&◌, zero, suc, pos, Option, Some, None, is_none, inl, inr, refl, sym, ap, ◌∙◌, arith}
use Rattle.std.specs.Prelude.{not, nat_le, int_lt, if◌then◌else◌}
use Rattle.std.proofs.lemmas.Bool.{cases_lt, le-leb, lt-leb, leb-true}
use Rattle.std.specs.Int.{int_min}
use Rattle.std.proofs.lemmas.Int.{ints, clamps}
use Rattle.dc_check.specs.Verdict.{is_window, is_delay, is_closing, backlog_failure, delay_failure}
use Rattle.dc_check.specs.lemmas.Exact.{backlog-none, none-backlog, delay-none, none-delay}
use Rattle.dc_margin.specs.Margins.{room, has_room, is_kept, window_margin_of, delay_margin_of, soon_margin_of, late_margin_of, age_limit_margin_of, closing_margin_of, backlog_margin_of, queue_margin_of, delay_limit_margin_of}
use Rattle.dc_margin.specs.Peaks.{peak, waiting, least_below, needed}
use Rattle.dc_margin.specs.lemmas.Heights.{there-is, enough}

pub same-test : (a b : Bool) → (a ≡ true → b ≡ true) → (b ≡ true → a ≡ true) → a ≡ b
same-test true b f g = sym (f refl)
same-test false true f g = g refl
same-test false false f g = refl

below-zero : (x y : ℕ) → x < y → int_lt (room x y) (pos 0) ≡ true
below-zero x y h = grind (arith, ints)

not-below-zero : (x y : ℕ) → y ≤ x → int_lt (room x y) (pos 0) ≡ false
not-below-zero x y h = grind (arith, ints)

-- there is room exactly where the one is at least the other
pub room-test : (x y : ℕ) → nat_le y x ≡ not (int_lt (room x y) (pos 0))
room-test x y =
    elim (cases_lt x y) [
      | inl l ↦ lt-leb y x l ∙ sym (ap not (below-zero x y l))
      | inr g ↦ le-leb y x g ∙ sym (ap not (not-below-zero x y g))
    ]

-- C03
pub closing-kept : (cap floor : ℕ → ℕ) (window : ℕ) → is_closing cap floor window ≡ is_kept (Some (closing_margin_of cap floor window))
unfolding is_kept
closing-kept cap floor window = room-test (floor (window - 1)) (cap window)

-- C05
pub queue-kept : (queue backlog : ℕ) → nat_le backlog queue ≡ is_kept (Some (queue_margin_of queue backlog))
unfolding is_kept
queue-kept queue backlog = room-test queue backlog

-- C07
pub delay_limit-kept : (delay : ℕ) → is_delay delay ≡ is_kept (Some (delay_limit_margin_of delay))
unfolding is_kept
delay_limit-kept delay = room-test 100000 delay

-- C04
none-there : (o : Option ℕ) → is_none o ≡ true → o ≡ None
none-there None h = refl
none-there (Some w) h = absurd cc

pub backlog-kept : (cap floor : ℕ → ℕ) (window backlog : ℕ) → 1 ≤ window → is_none (backlog_failure cap floor window backlog) ≡ is_kept (Some (backlog_margin_of cap floor window backlog))
unfolding is_kept backlog_margin_of
backlog-kept cap floor window backlog some =
    let p = there-is (waiting cap floor) window some in
    same-test (is_none (backlog_failure cap floor window backlog)) (nat_le (waiting cap floor (peak (waiting cap floor) window)) backlog)
    (λ none. le-leb _ _ (backlog-none cap floor window backlog (none-there _ none) (peak (waiting cap floor) window) p.some p.within))
    (λ fits. ap is_none (none-backlog cap floor window backlog (λ v low high. omega (arith, p.greatest v low high, leb-true _ _ fits))))
    ∙ room-test backlog (waiting cap floor (peak (waiting cap floor) window))

-- C02
low-window : (window : ℕ) → window < 1 → int_lt (int_min (room window 1) (room 100000 window)) (pos 0) ≡ true
low-window window h = grind (arith, ints, clamps)

high-window : (window : ℕ) → 100000 < window → int_lt (int_min (room window 1) (room 100000 window)) (pos 0) ≡ true
high-window window h = grind (arith, ints, clamps)

good-window : (window : ℕ) → 1 ≤ window → window ≤ 100000 → int_lt (int_min (room window 1) (room 100000 window)) (pos 0) ≡ false
good-window window low high = grind (arith, ints, clamps)

pub window-kept : (window : ℕ) → is_window window ≡ is_kept (Some (window_margin_of window))
unfolding is_kept
window-kept window =
    elim (cases_lt window 1) [
      | inl l ↦ ap (λ b. b && nat_le window 100000) (lt-leb 1 window l) ∙ sym (ap not (low-window window l))
      | inr some ↦ elim (cases_lt 100000 window) [
        | inl l ↦ ap (λ b. b && nat_le window 100000) (le-leb 1 window some) ∙ lt-leb window 100000 l ∙ sym (ap not (high-window window l))
        | inr g ↦ ap (λ b. b && nat_le window 100000) (le-leb 1 window some) ∙ le-leb window 100000 g ∙ sym (ap not (good-window window some g))
      ]
    ]

-- C06
passes-least : (n : ℕ) (test : ℕ → Bool) → least_below n test < n → test (least_below n test) ≡ true
unfolding least_below
passes-least zero test h = absurd (omega (arith, h))
passes-least (suc n) test h =
    elim (test 0) as (λ b. test 0 ≡ b → (if b then 0 else suc (least_below n (λ d. test (suc d)))) < suc n → test (if b then 0 else suc (least_below n (λ d. test (suc d)))) ≡ true) [
      | true ↦ λ e l. e
      | false ↦ λ e l. passes-least n (λ d. test (suc d)) (omega (arith, l))
    ] refl h

slack-kept : (n delay : ℕ) → delay ≤ 100000 → nat_le n delay ≡ has_room (if nat_le n 100000 then Some (room delay n) else None)
slack-kept n delay short =
    elim (cases_lt 100000 n) [
      | inl l ↦ rw (lt-leb n 100000 l) (lt-leb n delay (omega (arith, l, short)))
      | inr g ↦ rw (le-leb n 100000 g) (room-test delay n)
    ]

pub delay-kept : (cap floor : ℕ → ℕ) → ((d e : ℕ) → d ≤ e → floor d ≤ floor e) → (window delay : ℕ) → 1 ≤ window → delay ≤ 100000 →
    is_none (delay_failure cap floor window delay) ≡ is_kept (Some (delay_margin_of cap floor window delay))
unfolding is_kept delay_margin_of
delay-kept cap floor grows window delay some short =
    let p = there-is (needed cap floor) window some in
    same-test (is_none (delay_failure cap floor window delay)) (nat_le (needed cap floor (peak (needed cap floor) window)) delay)
    (λ none. le-leb _ _ (enough cap floor grows (peak (needed cap floor) window) delay short (delay-none cap floor window delay (none-there _ none) (peak (needed cap floor) window) p.some p.within)))
    (λ fits. ap is_none (none-delay cap floor window delay (λ v low high.
    let most : needed cap floor v ≤ delay = omega (arith, p.greatest v low high, leb-true _ _ fits) in
    let at = leb-true _ _ (passes-least 100001 (λ d. nat_le (cap v) (floor (v - 1 + d))) (omega (arith, most, short))) in
    omega (arith, at, grows (v - 1 + needed cap floor v) (v - 1 + delay) (omega (arith, most))))))
    ∙ slack-kept (needed cap floor (peak (needed cap floor) window)) delay short

-- C08, C09, C11
pub soon-kept : (gap minimum delay : ℕ) → nat_le (minimum + delay) gap ≡ is_kept (Some (soon_margin_of gap minimum delay))
unfolding is_kept
soon-kept gap minimum delay = room-test gap (minimum + delay)

pub late-kept : (gap maximum delay : ℕ) → nat_le (gap + delay) maximum ≡ is_kept (Some (late_margin_of gap maximum delay))
unfolding is_kept
late-kept gap maximum delay = room-test maximum (gap + delay)

pub age_limit-kept : (limit age : ℕ) → nat_le age limit ≡ is_kept (Some (age_limit_margin_of limit age))
unfolding is_kept
age_limit-kept limit age = room-test limit age
