-- There is no fault exactly where the certificate is accepted.
use Rattle.std.proofs.Common.{◌≡◌, ℕ, zero, suc, ◌+◌, ◌-◌, ◌≤◌, ◌<◌, ◌↔◌, Bool, true, false, ◌&&◌, eqb, leb, Option, Some, None, List, [], ◌∷◌, length, map, refl, sym, ap, ◌∙◌, arith, inl, inr}
use Rattle.std.specs.Prelude.{not, nat_le, nat_lt, slice_index, IfNone}
use Rattle.std.specs.Bool.{Decides}
use Rattle.std.specs.Cmp.Lexicographic.{pointwise}
use Rattle.std.specs.List.{All, list_all}
use Rattle.std.specs.Option.{option_or}
use Rattle.std.specs.Str.{bytes_eq}
use Rattle.std.proofs.lemmas.Bool.{cases_lt, eq-eqb, eqb-true, le-leb, leb-true, lt-ltb, le-ltb}
use Rattle.std.proofs.lemmas.List.{length-map}
use Rattle.std.proofs.lemmas.List.Sums.{AllPass-from_list_all, list_all-from_AllPass}
use Rattle.std.proofs.lemmas.Slice.Eq.{slice_eq-Decides, bytes_eq-Decides}
use Rattle.dc_bound.specs.Places.{when, or_else}
use Rattle.dc_busy.specs.BusyWindow.{BacklogBounded, DelayBounded}
use Rattle.dc_cert.specs.Bounds.{InputBound, OutputBound, CertificateRows, input_bound, output_bound, input_numbers, output_numbers, numbers_of}
use Rattle.dc_cert.specs.NamedRows.{NamedRows}
use Rattle.dc_check.specs.Accepts.{AcceptsInput, AcceptsOutput, AcceptsLabel, AcceptsNumbers, IsNamed, AreNamed, Accepts, gaps_of, label_delay, source_delay}
use Rattle.dc_check.specs.Verdict.{unless, at_window, first_of, is_window, first_failing, backlog_failure, delay_failure, is_named, IsSized, name_rules, misnaming, range_rules, input_rules, output_rules, label_rules, job_count, job_verdict, first_job_fault, verdict_of}
use Rattle.dc_check.specs.declared.fault.CheckFault.{CheckFault}
use Rattle.dc_check.specs.declared.fault.Condition.{Condition}
use Rattle.dc_check.specs.declared.fault.CertificateList.{CertificateList}
use Rattle.dc_check.specs.declared.fault.CertificateList.TheVariants.{Inputs, Outputs}
use Rattle.dc_document.specs.Names.{text_of}
use Rattle.dc_tables.specs.TableRows.{TableRows, stream_row, label_row, bus_cap, bus_floor, output_cap, output_floor}

-- ---- one rule after another

pub or-none : (a b : Option CheckFault) → option_or a b ≡ None → (a ≡ None) × (b ≡ None)
or-none None b h = (refl, h)
or-none (Some x) b h = absurd cc

pub none-or : (a b : Option CheckFault) → a ≡ None → b ≡ None → option_or a b ≡ None
none-or None b g h = h
none-or (Some x) b g h = absurd cc

pub unless-none : (holds : Bool) (fault : CheckFault) → unless holds fault ≡ None → holds ≡ true
unfolding unless
unless-none true fault h = refl
unless-none false fault h = absurd cc

pub none-unless : (holds : Bool) (fault : CheckFault) → holds ≡ true → unless holds fault ≡ None
unfolding unless
none-unless true fault h = refl
none-unless false fault h = absurd cc

at_window-none : (list : CertificateList) (index : ℕ) (condition : Condition) (o : Option ℕ) → at_window list index condition o ≡ None → o ≡ None
unfolding at_window
at_window-none list index condition None h = refl
at_window-none list index condition (Some w) h = absurd cc

none-at_window : (list : CertificateList) (index : ℕ) (condition : Condition) (o : Option ℕ) → o ≡ None → at_window list index condition o ≡ None
unfolding at_window
none-at_window list index condition None h = refl
none-at_window list index condition (Some w) h = absurd cc

-- ---- windows

or_else-none : (a b : Option ℕ) → or_else a b ≡ None → (a ≡ None) × (b ≡ None)
or_else-none None b h = (refl, h)
or_else-none (Some x) b h = absurd cc

when-none : (b : Bool) (n : ℕ) → when (not b) n ≡ None → b ≡ true
when-none true n h = refl
when-none false n h = absurd cc

-- where none fails, each passes
pub passes_each : (test : ℕ → Bool) (n : ℕ) → first_failing test n ≡ None → (w : ℕ) → 1 ≤ w → w ≤ n → test w ≡ true
passes_each test zero h w low high = absurd (omega arith)
passes_each test (suc n) h w low high =
    let both = or_else-none (first_failing test n) (when (not (test (suc n))) (suc n)) h in
    elim (cases_lt w (suc n)) [
      | inl l ↦ passes_each test n both.0 w low (omega arith)
      | inr g ↦ let e : w ≡ suc n = omega arith in ap test e ∙ when-none (test (suc n)) (suc n) both.1
    ]

-- where each passes, none fails
pub none_fails : (test : ℕ → Bool) (n : ℕ) → ((w : ℕ) → 1 ≤ w → w ≤ n → test w ≡ true) → first_failing test n ≡ None
none_fails test zero h = refl
none_fails test (suc n) h =
    let before = none_fails test n (λ w low high. h w low (omega arith)) in
    let here : test (suc n) ≡ true = h (suc n) (omega arith) (omega arith) in
    ap (λ o. or_else o (when (not (test (suc n))) (suc n))) before ∙ ap (λ b. when (not b) (suc n)) here

-- the least that fails is the first
pub first_fails : (test : ℕ → Bool) (n w : ℕ) → 1 ≤ w → w ≤ n → test w ≡ false → ((v : ℕ) → 1 ≤ v → v < w → test v ≡ true) → first_failing test n ≡ Some w
first_fails test zero w low high fails passes = absurd (omega arith)
first_fails test (suc n) w low high fails passes =
    elim (cases_lt w (suc n)) [
      | inl l ↦ ap (λ o. or_else o (when (not (test (suc n))) (suc n))) (first_fails test n w low (omega arith) fails passes)
      | inr g ↦
          let e : suc n ≡ w = omega arith in
          let here : test (suc n) ≡ false = ap test e ∙ fails in
          ap (λ o. or_else o (when (not (test (suc n))) (suc n))) (none_fails test n (λ v l h. passes v l (omega arith)))
          ∙ ap (λ b. when (not b) (suc n)) here
          ∙ ap (λ k. Some k) e
    ]

module _ (cap floor : ℕ → ℕ) where
  pub backlog-none : (window backlog : ℕ) → backlog_failure cap floor window backlog ≡ None → BacklogBounded cap floor window backlog
  unfolding backlog_failure
  backlog-none window backlog h = λ w low high. leb-true _ _ (passes_each (λ w. nat_le (cap w - floor (w - 2)) backlog) window h w low high)

  pub none-backlog : (window backlog : ℕ) → BacklogBounded cap floor window backlog → backlog_failure cap floor window backlog ≡ None
  unfolding backlog_failure
  none-backlog window backlog h = none_fails (λ w. nat_le (cap w - floor (w - 2)) backlog) window (λ w low high. le-leb _ _ (h w low high))

  pub delay-none : (window delay : ℕ) → delay_failure cap floor window delay ≡ None → DelayBounded cap floor window delay
  unfolding delay_failure
  delay-none window delay h = λ w low high. leb-true _ _ (passes_each (λ w. nat_le (cap w) (floor (w - 1 + delay))) window h w low high)

  pub none-delay : (window delay : ℕ) → DelayBounded cap floor window delay → delay_failure cap floor window delay ≡ None
  unfolding delay_failure
  none-delay window delay h = none_fails (λ w. nat_le (cap w) (floor (w - 1 + delay))) window (λ w low high. le-leb _ _ (h w low high))

-- ---- ranges

window-is : (window : ℕ) → is_window window ≡ true → (1 ≤ window) × (window ≤ 100000)
window-is window h =
    elim (leb 1 window) as (λ b. leb 1 window ≡ b → b && leb window 100000 ≡ true → (1 ≤ window) × (window ≤ 100000)) [
      | true ↦ λ is h. (leb-true 1 window is, leb-true window 100000 h)
      | false ↦ λ is h. absurd cc
    ] refl h

is-window : (window : ℕ) → 1 ≤ window → window ≤ 100000 → is_window window ≡ true
is-window window low high = ap (λ b. b && leb window 100000) (le-leb 1 window low) ∙ le-leb window 100000 high

-- ---- all of a list

module _ (f g : ℕ → ℕ) where
  pub all-le : (xs : List ℕ) → list_all (λ x. nat_le (f x) (g x)) xs ≡ true → All (λ x. f x ≤ g x) xs
  all-le xs h = λ k d l. leb-true _ _ (AllPass-from_list_all (λ x. nat_le (f x) (g x)) xs h k d l)

  pub le-all : (xs : List ℕ) → All (λ x. f x ≤ g x) xs → list_all (λ x. nat_le (f x) (g x)) xs ≡ true
  le-all xs h = list_all-from_AllPass (λ x. nat_le (f x) (g x)) xs (λ k d l. le-leb _ _ (h k d l))

-- ---- names

same-names : (names keys : List (List ℕ)) → Decides (pointwise bytes_eq names (map text_of keys)) (names ≡ map text_of keys)
same-names names keys = slice_eq-Decides bytes_eq-Decides names (map text_of keys) (pointwise bytes_eq names (map text_of keys)) refl

pub named-is : (count : ℕ) (names keys : List (List ℕ)) → is_named count names keys ≡ true → IsNamed count names keys
named-is count names keys h =
    elim (eqb (length names) count) as (λ b. eqb (length names) count ≡ b → (b && pointwise bytes_eq names (map text_of keys)) ≡ true → IsNamed count names keys) [
      | true ↦ λ is h. record { sized = eqb-true (length names) count is; same = (same-names names keys).0 h }
      | false ↦ λ is h. absurd cc
    ] refl h

pub is-named : (count : ℕ) (names keys : List (List ℕ)) → IsNamed count names keys → is_named count names keys ≡ true
is-named count names keys ok =
    ap (λ b. b && pointwise bytes_eq names (map text_of keys)) (eq-eqb (length names) count ok.sized) ∙ (same-names names keys).1 ok.same

-- ---- the rules of one job

-- each rule finds nothing
abbrev AllNone : List (Option CheckFault) → Type 0
AllNone [] = Unit {0}
AllNone (rule ∷ rules) = (rule ≡ None) × AllNone rules

first_of-none : (rules : List (Option CheckFault)) → first_of rules ≡ None → AllNone rules
first_of-none [] h = tt
first_of-none (rule ∷ rules) h = let r = or-none rule (first_of rules) h in (r.0, first_of-none rules r.1)

none-first_of : (rules : List (Option CheckFault)) → AllNone rules → first_of rules ≡ None
none-first_of [] h = refl
none-first_of (rule ∷ rules) h = none-or rule (first_of rules) h.0 (none-first_of rules h.1)

pub ranges-none : (list : CertificateList) (index window delay : ℕ) → first_of (range_rules list index window delay) ≡ None → (1 ≤ window) × (window ≤ 100000) × (delay ≤ 100000)
ranges-none list index window delay h =
    let r = first_of-none (range_rules list index window delay) h in
    let w = window-is window (unless-none _ _ r.0) in
    (w.0, w.1, leb-true delay 100000 (unless-none _ _ r.1.0))

none-ranges : (list : CertificateList) (index window delay : ℕ) → 1 ≤ window → window ≤ 100000 → delay ≤ 100000 → first_of (range_rules list index window delay) ≡ None
none-ranges list index window delay low high short =
    none-first_of (range_rules list index window delay) (none-unless _ _ (is-window window low high), (none-unless _ _ (le-leb delay 100000 short), tt))

module _ (t : TableRows) where
  input-none : (b : ℕ) (c : InputBound) → first_of (range_rules Inputs b c.window c.delay) ≡ None → first_of (input_rules t b c) ≡ None → AcceptsInput t b c
  input-none b c ranges rules =
      let r = ranges-none Inputs b c.window c.delay ranges in
      let h = first_of-none (input_rules t b c) rules in
      record {
        window = record { some = r.0; most = r.1; closes = leb-true _ _ (unless-none _ _ h.0) };
        backlog = record { bounded = backlog-none (bus_cap t b) (bus_floor t b) c.window c.backlog (at_window-none _ _ _ _ h.1.0); fits = leb-true _ _ (unless-none _ _ h.1.1.0) };
        delay = record { short = r.2; bounded = delay-none (bus_cap t b) (bus_floor t b) c.window c.delay (at_window-none _ _ _ _ h.1.1.1.0) };
      }

  none-input : (b : ℕ) (c : InputBound) → AcceptsInput t b c → (first_of (range_rules Inputs b c.window c.delay) ≡ None) × (first_of (input_rules t b c) ≡ None)
  none-input b c ok = (
    none-ranges Inputs b c.window c.delay ok.window.some ok.window.most ok.delay.short,
    none-first_of (input_rules t b c) (
      none-unless _ _ (le-leb _ _ ok.window.closes),
      (
        none-at_window _ _ _ _ (none-backlog (bus_cap t b) (bus_floor t b) c.window c.backlog ok.backlog.bounded),
        (
          none-unless _ _ (le-leb _ _ ok.backlog.fits),
          (none-at_window _ _ _ _ (none-delay (bus_cap t b) (bus_floor t b) c.window c.delay ok.delay.bounded), tt),
        ),
      ),
    ),
  )

  output-none : (o : ℕ) (c : OutputBound) → first_of (range_rules Outputs o c.window c.delay) ≡ None → first_of (output_rules t o c) ≡ None → AcceptsOutput t o c
  output-none o c ranges rules =
      let r = ranges-none Outputs o c.window c.delay ranges in
      let h = first_of-none (output_rules t o c) rules in
      record {
        window = record { some = r.0; most = r.1; closes = leb-true _ _ (unless-none _ _ h.0) };
        delay = record { short = r.2; bounded = delay-none (output_cap t o) (output_floor t o) c.window c.delay (at_window-none _ _ _ _ h.1.0) };
      }

  none-output : (o : ℕ) (c : OutputBound) → AcceptsOutput t o c → (first_of (range_rules Outputs o c.window c.delay) ≡ None) × (first_of (output_rules t o c) ≡ None)
  none-output o c ok = (
    none-ranges Outputs o c.window c.delay ok.window.some ok.window.most ok.delay.short,
    none-first_of (output_rules t o c) (
      none-unless _ _ (le-leb _ _ ok.window.closes),
      (none-at_window _ _ _ _ (none-delay (output_cap t o) (output_floor t o) c.window c.delay ok.delay.bounded), tt),
    ),
  )

  module _ (c : CertificateRows) where
    pub label-none : (x : ℕ) → first_of (label_rules t x c) ≡ None → AcceptsLabel t x c
    label-none x rules =
        let h = first_of-none (label_rules t x c) rules in
        record {
          gaps = record {
            not_soon = all-le (λ g. (label_row t x).minimum + label_delay t c x) (λ g. g) (gaps_of t x) (unless-none _ _ h.0);
            not_late = all-le (λ g. g + label_delay t c x) (λ g. (label_row t x).maximum) (gaps_of t x) (unless-none _ _ h.1.0);
          };
          age = record {
            aged = all-le (λ s. (label_row t x).stale + source_delay t c s) (λ s. slice_index c.ages x) (label_row t x).sources (unless-none _ _ h.1.1.0);
            limited = leb-true _ _ (unless-none _ _ h.1.1.1.0);
          };
          fresh = all-le (λ s. source_delay t c s + (stream_row t s).maximum) (λ s. (label_row t x).stale) (label_row t x).sources (unless-none _ _ h.1.1.1.1.0);
        }

    none-label : (x : ℕ) → AcceptsLabel t x c → first_of (label_rules t x c) ≡ None
    none-label x ok =
        none-first_of (label_rules t x c) (
          none-unless _ _ (le-all (λ g. (label_row t x).minimum + label_delay t c x) (λ g. g) (gaps_of t x) ok.gaps.not_soon),
          (
            none-unless _ _ (le-all (λ g. g + label_delay t c x) (λ g. (label_row t x).maximum) (gaps_of t x) ok.gaps.not_late),
            (
              none-unless _ _ (le-all (λ s. (label_row t x).stale + source_delay t c s) (λ s. slice_index c.ages x) (label_row t x).sources ok.age.aged),
              (
                none-unless _ _ (le-leb _ _ ok.age.limited),
                (none-unless _ _ (le-all (λ s. source_delay t c s + (stream_row t s).maximum) (λ s. (label_row t x).stale) (label_row t x).sources ok.fresh), tt),
              ),
            ),
          ),
        )

    -- ---- the jobs, by their place in the row

    is-below : (a b : ℕ) → a < b → nat_lt a b ≡ true
    is-below a b h = lt-ltb a b h

    not-below : (a b : ℕ) → b ≤ a → nat_lt a b ≡ false
    not-below a b h = le-ltb a b h

    -- an input's job
    pub job-input : (b : ℕ) → b < length t.buses → job_verdict t c b ≡ option_or (first_of (range_rules Inputs b (input_bound c b).window (input_bound c b).delay)) (first_of (input_rules t b (input_bound c b)))
    unfolding job_verdict
    job-input b h = rw (is-below b (length t.buses) h) refl

    -- an output's
    pub job-output : (o : ℕ) → o < length t.outputs →
        job_verdict t c (length t.buses + o) ≡ option_or (first_of (range_rules Outputs o (output_bound c o).window (output_bound c o).delay)) (first_of (output_rules t o (output_bound c o)))
    unfolding job_verdict
    job-output o h =
        let at : length t.buses + o - length t.buses ≡ o = omega arith in
        rw (not-below (length t.buses + o) (length t.buses) (omega arith), is-below (length t.buses + o) (length t.buses + length t.outputs) (omega arith), at) refl

    -- a label's
    pub job-label : (x : ℕ) → job_verdict t c (length t.buses + length t.outputs + x) ≡ first_of (label_rules t x c)
    unfolding job_verdict
    job-label x =
        let at : length t.buses + length t.outputs + x - (length t.buses + length t.outputs) ≡ x = omega arith in
        rw (not-below (length t.buses + length t.outputs + x) (length t.buses) (omega arith), not-below (length t.buses + length t.outputs + x) (length t.buses + length t.outputs) (omega arith), at) refl

-- ---- all jobs

pub jobs-none : (verdict : ℕ → Option CheckFault) (n : ℕ) → first_job_fault verdict n ≡ None → (k : ℕ) → k < n → verdict k ≡ None
unfolding first_job_fault
jobs-none verdict zero h k l = absurd (omega arith)
jobs-none verdict (suc n) h k l =
    let both = or-none (first_job_fault verdict n) (verdict n) h in
    elim (cases_lt k n) [
      | inl l ↦ jobs-none verdict n both.0 k l
      | inr g ↦ let e : k ≡ n = omega arith in ap verdict e ∙ both.1
    ]

pub none-jobs : (verdict : ℕ → Option CheckFault) (n : ℕ) → ((k : ℕ) → k < n → verdict k ≡ None) → first_job_fault verdict n ≡ None
unfolding first_job_fault
none-jobs verdict zero h = refl
none-jobs verdict (suc n) h = none-or (first_job_fault verdict n) (verdict n) (none-jobs verdict n (λ k l. h k (omega arith))) (h n (omega arith))

-- no job has a fault exactly where the numbers are accepted
pub numbers-accepted : (t : TableRows) (c : CertificateRows) → first_job_fault (job_verdict t c) (job_count t) ≡ None → AcceptsNumbers t c
numbers-accepted t c h = record {
  inputs = λ b l.
      let r = or-none _ _ (sym (job-input t c b l) ∙ jobs-none (job_verdict t c) (job_count t) h b (omega arith)) in
      input-none t b (input_bound c b) r.0 r.1;
  outputs = λ o l.
      let r = or-none _ _ (sym (job-output t c o l) ∙ jobs-none (job_verdict t c) (job_count t) h (length t.buses + o) (omega arith)) in
      output-none t o (output_bound c o) r.0 r.1;
  labels = λ x l. label-none t c x (sym (job-label t c x) ∙ jobs-none (job_verdict t c) (job_count t) h (length t.buses + length t.outputs + x) (omega arith));
}

job-none : (t : TableRows) (c : CertificateRows) → AcceptsNumbers t c → (k : ℕ) → k < job_count t → job_verdict t c k ≡ None
job-none t c ok k l =
    elim (cases_lt k (length t.buses)) [
      | inl in_buses ↦ let r = none-input t k (input_bound c k) (ok.inputs k in_buses) in job-input t c k in_buses ∙ none-or _ _ r.0 r.1
      | inr past_buses ↦ elim (cases_lt k (length t.buses + length t.outputs)) [
        | inl in_outputs ↦
            let o : ℕ = k - length t.buses in
            let there : k - length t.buses < length t.outputs = omega arith in
            let e : k ≡ length t.buses + (k - length t.buses) = omega arith in
            let r = none-output t (k - length t.buses) (output_bound c (k - length t.buses)) (ok.outputs (k - length t.buses) there) in
            ap (job_verdict t c) e ∙ job-output t c (k - length t.buses) there ∙ none-or _ _ r.0 r.1
        | inr past_outputs ↦
            let there : k - (length t.buses + length t.outputs) < length t.labels = omega arith in
            let e : k ≡ length t.buses + length t.outputs + (k - (length t.buses + length t.outputs)) = omega arith in
            ap (job_verdict t c) e ∙ job-label t c (k - (length t.buses + length t.outputs)) ∙ none-label t c (k - (length t.buses + length t.outputs)) (ok.labels (k - (length t.buses + length t.outputs)) there)
      ]
    ]

-- ---- the names, and the whole

names-none : (t : TableRows) (claims : NamedRows) → misnaming t claims ≡ None → AreNamed t claims
names-none t claims h =
    let r = first_of-none (name_rules t claims) h in
    record {
      inputs = named-is (length t.buses) (map (λ i. i.bus) claims.inputs) t.names.buses (unless-none _ _ r.0);
      outputs = named-is (length t.outputs) (map (λ o. o.output) claims.outputs) t.names.outputs (unless-none _ _ r.1.0);
      labels = named-is (length t.labels) (map (λ l. l.label) claims.labels) t.names.labels (unless-none _ _ r.1.1.0);
    }

none-names : (t : TableRows) (claims : NamedRows) → AreNamed t claims → misnaming t claims ≡ None
none-names t claims ok =
    none-first_of (name_rules t claims) (
      none-unless _ _ (is-named (length t.buses) (map (λ i. i.bus) claims.inputs) t.names.buses ok.inputs),
      (
        none-unless _ _ (is-named (length t.outputs) (map (λ o. o.output) claims.outputs) t.names.outputs ok.outputs),
        (none-unless _ _ (is-named (length t.labels) (map (λ l. l.label) claims.labels) t.names.labels ok.labels), tt),
      ),
    )

-- where no name is wrong, there are as many in each list as the tables have
pub sized-by_names : (t : TableRows) (claims : NamedRows) → misnaming t claims ≡ None → IsSized t (numbers_of claims)
sized-by_names t claims h =
    let ok = names-none t claims h in
    record {
      inputs = length-map claims.inputs input_numbers ∙ sym (length-map claims.inputs (λ i. i.bus)) ∙ ok.inputs.sized;
      outputs = length-map claims.outputs output_numbers ∙ sym (length-map claims.outputs (λ o. o.output)) ∙ ok.outputs.sized;
      labels = length-map claims.labels (λ l. l.age) ∙ sym (length-map claims.labels (λ l. l.label)) ∙ ok.labels.sized;
    }

-- the same of an answer
pub sized-answer : (t : TableRows) (claims : NamedRows) (answer : Option CheckFault) → answer ≡ misnaming t claims → IfNone answer (IsSized t (numbers_of claims))
sized-answer t claims None is = sized-by_names t claims (sym is)
sized-answer t claims (Some fault) is = tt

-- no fault exactly where the certificate is accepted
pub verdict-accepts : (t : TableRows) (claims : NamedRows) → (verdict_of t claims ≡ None) ↔ Accepts t claims
unfolding verdict_of
verdict-accepts t claims = (
  (λ h.
      let r = or-none _ _ h in
      record { named = names-none t claims r.0; numbers = numbers-accepted t (numbers_of claims) r.1 }),
  (λ ok. none-or _ _ (none-names t claims ok.named) (none-jobs (job_verdict t (numbers_of claims)) (job_count t) (job-none t (numbers_of claims) ok.numbers))),
)
