-- The first fault of some rules, as a loop finds it; first windows that fail; tests.
use Rattle.std.proofs.Common.{◌≡◌, ℕ, zero, suc, ◌+◌, ◌-◌, ◌<◌, ◌≤◌, ◌↔◌, leb, inl, inr, Bool, true, false, Option, Some, None, is_some, List, [], ◌∷◌, length, get_or, take, refl, sym, ap, ◌∙◌, arith, add-one}
use Rattle.std.specs.Prelude.{not, nat_le, IsTrue, MatchOption}
use Rattle.std.specs.Option.{option_or}
use Rattle.std.proofs.lemmas.Bool.{cases_lt, le-leb, lt-leb}
use Rattle.dc_bound.specs.Places.{when, or_else}
use Rattle.dc_busy.specs.BusyWindow.{BacklogAt, BacklogBounded, DelayAt, DelayBounded, IsLeastFailing}
use Rattle.dc_check.specs.lemmas.Exact.{or-none, none-or, none-backlog, none-delay, first_fails}
use Rattle.dc_check.specs.Verdict.{unless, first_of, range_rules, first_failing, is_closing, backlog_failure, delay_failure}
use Rattle.dc_check.specs.declared.fault.CheckFault.{CheckFault}
use Rattle.dc_check.specs.declared.fault.CertificateList.{CertificateList}

-- one that finds a fault is the answer
pub at_front : (x rest : Option CheckFault) → is_some x ≡ true → x ≡ option_or x rest
at_front None rest s = absurd cc
at_front (Some f) rest s = refl

-- after rules that find nothing, one that finds a fault is the answer
pub first_of-found : (rules : List (Option CheckFault)) (k : ℕ) → k < length rules → first_of (take k rules) ≡ None → is_some (get_or rules k None) ≡ true → get_or rules k None ≡ first_of rules
first_of-found [] k l before found = absurd (omega arith)
first_of-found (x ∷ xs) zero l before found = at_front x (first_of xs) found
first_of-found (x ∷ xs) (suc k) l before found =
    let h = or-none x (first_of (take k xs)) before in
    first_of-found xs k (omega arith) h.1 found ∙ ap (λ o. option_or o (first_of xs)) (sym h.0)

-- one that finds none is none
pub nothing : (r : Option CheckFault) → is_some r ≡ false → r ≡ None
nothing None h = refl
nothing (Some f) h = absurd cc

-- one more rule that finds nothing
first_of-suc : (rules : List (Option CheckFault)) (k : ℕ) → k < length rules → first_of (take k rules) ≡ None → is_some (get_or rules k None) ≡ false → first_of (take (suc k) rules) ≡ None
first_of-suc [] k l before none = absurd (omega arith)
first_of-suc (x ∷ xs) zero l before none = none-or x None (nothing x none) refl
first_of-suc (x ∷ xs) (suc k) l before none =
    let h = or-none x (first_of (take k xs)) before in
    none-or x (first_of (take (suc k) xs)) h.0 (first_of-suc xs k (omega arith) h.1 none)

pub first_of-more : (rules : List (Option CheckFault)) (k : ℕ) → k < length rules → first_of (take k rules) ≡ None → is_some (get_or rules k None) ≡ false → first_of (take (k + 1) rules) ≡ None
first_of-more rules k l before none = ap (λ n. first_of (take n rules)) (add-one k) ∙ first_of-suc rules k l before none

-- ---- windows

fails : (a b : ℕ) → ¬ (a ≤ b) → leb a b ≡ false
fails a b h = elim (cases_lt b a) [ inl l ↦ lt-leb a b l | inr g ↦ absurd (h g) ]

-- the least window that fails for a backlog is the first one
pub backlog_failure-is : (cap floor : ℕ → ℕ) (window backlog : ℕ) (r : Option ℕ) → MatchOption r (BacklogBounded cap floor window backlog) (λ w. IsLeastFailing (BacklogAt cap floor backlog) window w) → r ≡ backlog_failure cap floor window backlog
unfolding backlog_failure
backlog_failure-is cap floor window backlog None h = sym (none-backlog cap floor window backlog h)
backlog_failure-is cap floor window backlog (Some w) h =
    sym (first_fails (λ v. nat_le (cap v - floor (v - 2)) backlog) window w h.0 h.1 (fails _ _ h.2) (λ v low below. le-leb _ _ (h.3 v low below)))

-- and so is that for a delay
pub delay_failure-is : (cap floor : ℕ → ℕ) (window delay : ℕ) (r : Option ℕ) → MatchOption r (DelayBounded cap floor window delay) (λ w. IsLeastFailing (DelayAt cap floor delay) window w) → r ≡ delay_failure cap floor window delay
unfolding delay_failure
delay_failure-is cap floor window delay None h = sym (none-delay cap floor window delay h)
delay_failure-is cap floor window delay (Some w) h =
    sym (first_fails (λ v. nat_le (cap v) (floor (v - 1 + delay))) window w h.0 h.1 (fails _ _ h.2) (λ v low below. le-leb _ _ (h.3 v low below)))

-- a test that tells an order is that order's
pub reported : (r : Bool) (a b : ℕ) → (IsTrue r ↔ (a ≤ b)) → r ≡ leb a b
reported true a b h = sym (le-leb a b (h.0 refl))
reported false a b h = sym (fails a b (λ l. let bad : false ≡ true = h.1 l in absurd cc))

-- ---- rules, one by one

-- the same test and the same fault
pub rule-same : (r : Option CheckFault) (h k : Bool) (f g : CheckFault) → r ≡ unless h f → h ≡ k → f ≡ g → r ≡ unless k g
rule-same r h k f g at test fault = at ∙ ap (λ b. unless b f) test ∙ ap (unless k) fault

-- lists of the same answers are the same
pub rules-same : (a b : Option CheckFault) (xs ys : List (Option CheckFault)) → a ≡ b → xs ≡ ys → (a ∷ xs) ≡ (b ∷ ys)
rules-same a b xs ys first rest = ap (λ o. o ∷ xs) first ∙ ap (λ l. b ∷ l) rest

-- ---- the same bounds

-- tests that agree fail first at the same place
first_failing-same : (p q : ℕ → Bool) (n : ℕ) → ((w : ℕ) → p w ≡ q w) → first_failing p n ≡ first_failing q n
first_failing-same p q zero h = refl
first_failing-same p q (suc n) h =
    ap (λ o. or_else o (when (not (p (suc n))) (suc n))) (first_failing-same p q n h) ∙ ap (λ b. or_else (first_failing q n) (when (not b) (suc n))) (h (suc n))

module _ (cap floor own_cap own_floor : ℕ → ℕ) (same_cap : (d : ℕ) → cap d ≡ own_cap d) (same_floor : (d : ℕ) → floor d ≡ own_floor d) where
  pub closing-same : (window : ℕ) → is_closing cap floor window ≡ is_closing own_cap own_floor window
  closing-same window = ap (λ n. nat_le n (floor (window - 1))) (same_cap window) ∙ ap (nat_le (own_cap window)) (same_floor (window - 1))

  pub backlog_failure-same : (window backlog : ℕ) → backlog_failure cap floor window backlog ≡ backlog_failure own_cap own_floor window backlog
  unfolding backlog_failure
  backlog_failure-same window backlog =
      first_failing-same (λ w. nat_le (cap w - floor (w - 2)) backlog) (λ w. nat_le (own_cap w - own_floor (w - 2)) backlog) window
      (λ w. ap (λ n. nat_le (n - floor (w - 2)) backlog) (same_cap w) ∙ ap (λ n. nat_le (own_cap w - n) backlog) (same_floor (w - 2)))

  pub delay_failure-same : (window delay : ℕ) → delay_failure cap floor window delay ≡ delay_failure own_cap own_floor window delay
  unfolding delay_failure
  delay_failure-same window delay =
      first_failing-same (λ w. nat_le (cap w) (floor (w - 1 + delay))) (λ w. nat_le (own_cap w) (own_floor (w - 1 + delay))) window
      (λ w. ap (λ n. nat_le n (floor (w - 1 + delay))) (same_cap w) ∙ ap (nat_le (own_cap w)) (same_floor (w - 1 + delay)))

  -- and at equal windows, backlogs, delays
  pub backlog-read : (window backlog own_window own_backlog : ℕ) (r : Option ℕ) → r ≡ backlog_failure cap floor window backlog → window ≡ own_window → backlog ≡ own_backlog
      → r ≡ backlog_failure own_cap own_floor own_window own_backlog
  backlog-read window backlog own_window own_backlog r at w b =
      at ∙ backlog_failure-same window backlog ∙ ap (λ n. backlog_failure own_cap own_floor n backlog) w ∙ ap (backlog_failure own_cap own_floor own_window) b

  pub delay-read : (window delay own_window own_delay : ℕ) (r : Option ℕ) → r ≡ delay_failure cap floor window delay → window ≡ own_window → delay ≡ own_delay
      → r ≡ delay_failure own_cap own_floor own_window own_delay
  delay-read window delay own_window own_delay r at w d =
      at ∙ delay_failure-same window delay ∙ ap (λ n. delay_failure own_cap own_floor n delay) w ∙ ap (delay_failure own_cap own_floor own_window) d

-- ranges at equal windows and delays
pub ranges-read : (list : CertificateList) (index window delay own_window own_delay : ℕ) (r : Option CheckFault) → r ≡ first_of (range_rules list index window delay) → window ≡ own_window → delay ≡ own_delay
    → r ≡ first_of (range_rules list index own_window own_delay)
ranges-read list index window delay own_window own_delay r at w d =
    at ∙ ap (λ n. first_of (range_rules list index n delay)) w ∙ ap (λ n. first_of (range_rules list index own_window n)) d
