-- The verdict is the first negative margin: job by job, and over all of them.
use Rattle.std.proofs.Common.{◌≡◌, ℕ, zero, suc, ◌+◌, ◌-◌, ◌≤◌, ◌<◌, ◌↔◌, Bool, true, false, ◌&&◌, Option, Some, None, is_none, List, [], ◌∷◌, ◌++◌, length, map, inl, inr, refl, sym, ap, ◌∙◌, arith}
use Rattle.std.specs.Prelude.{nat_le, slice_index}
use Rattle.std.specs.Option.{option_or, option_map}
use Rattle.std.specs.List.{list_all}
use Rattle.std.proofs.lemmas.Bool.{cases_lt, le-leb, leb-true, lt-ltb, le-ltb}
use Rattle.dc_bound.specs.lemmas.Budget.{pace_mono}
use Rattle.dc_bound.specs.lemmas.Cycle.{fewest_visits_mono}
use Rattle.dc_cert.specs.Bounds.{InputBound, OutputBound, CertificateRows, input_bound, output_bound, numbers_of}
use Rattle.dc_cert.specs.NamedRows.{NamedRows}
use Rattle.dc_check.specs.Accepts.{AreNamed, Accepts, label_delay, source_delay}
use Rattle.dc_check.specs.Verdict.{fault_at, unless, at_window, first_of, is_window, is_delay, is_closing, backlog_failure, delay_failure, misnaming, range_rules, input_rules, output_rules, label_rules, job_count, job_verdict, first_job_fault, verdict_of}
use Rattle.dc_check.specs.declared.fault.CheckFault.{CheckFault}
use Rattle.dc_check.specs.declared.fault.Condition.{Condition}
use Rattle.dc_check.specs.declared.fault.Condition.TheVariants.{WindowOutOfRange, WindowDoesNotClose, BacklogTooSmall, QueueTooShort, DelayTooSmall, DelayOutOfRange, SentTooSoon, SentTooLate, AgeTooSmall, AgeOverLimit, SourceGoesStale}
use Rattle.dc_check.specs.declared.fault.CertificateList.{CertificateList}
use Rattle.dc_check.specs.declared.fault.CertificateList.TheVariants.{Inputs, Outputs, Labels}
use Rattle.dc_check.specs.lemmas.Exact.{or-none, none-or, none-unless, unless-none, is-named, ranges-none, job-input, job-output, job-label, jobs-none, verdict-accepts}
use Rattle.dc_check.specs.lemmas.Jobs.{verdict-jobs}
use Rattle.dc_margin.proofs.Greatest.{of-greatest, greatest-test}
use Rattle.dc_margin.proofs.LabelGaps.{soon-test, late-test}
use Rattle.dc_margin.proofs.Law.{window-kept, delay-kept, soon-kept, late-kept, age_limit-kept, closing-kept, backlog-kept, queue-kept, delay_limit-kept, room-test}
use Rattle.dc_margin.proofs.Told.{told-there}
use Rattle.dc_margin.specs.Lines.{windowless, line_fault, fault_of_lines, first_negative, input_lines_of, output_lines_of, label_lines_of, job_lines_of, lines_below}
use Rattle.dc_margin.specs.Margins.{told, is_kept, input_margins_of, output_margins_of, label_margins_of, slowest_source, rarest_source, silence, are_in_range, age_margin_of, fresh_margin_of, closing_margin_of, backlog_margin_of, delay_margin_of, soon_margin_of, late_margin_of}
use Rattle.dc_margin.specs.declared.lines.MarginLine.{MarginLine}
use Rattle.dc_margin.specs.declared.margin.Margin.{Margin}
use Rattle.dc_tables.specs.TableRows.{TableRows, AreValid, bus_row, stream_row, router_row, output_row, label_row, bus_cap, bus_floor, output_cap, output_floor}
use Rattle.dc_transmit.specs.Schedule.{schedule_of, least_label_gap, greatest_label_gap}

-- the first negative margin of a job
abbrev fault_of_job : TableRows → CertificateRows → ℕ → Option CheckFault
fault_of_job t c n = fault_of_lines (job_lines_of t c n)

-- ---- faults without their windows

-- the first of two
pub or-windowless : (a b x y : Option CheckFault) → option_map windowless a ≡ b → (a ≡ None → option_map windowless x ≡ y) → option_map windowless (option_or a x) ≡ option_or b y
or-windowless None b x y e h = h refl ∙ ap (λ o. option_or o y) e
or-windowless (Some z) b x y e h = ap (λ o. option_or o y) e

-- a rule that names no window, by a test that agrees
unless-windowless : (h k : Bool) (list : CertificateList) (index : ℕ) (condition : Condition) → h ≡ k → option_map windowless (unless h (fault_at list index condition 0)) ≡ unless k (fault_at list index condition 0)
unfolding unless
unless-windowless true k list index condition e = ap (λ b. unless b (fault_at list index condition 0)) e
unless-windowless false k list index condition e = ap (λ b. unless b (fault_at list index condition 0)) e

-- one that names the first window that fails
window-windowless : (o : Option ℕ) (k : Bool) (list : CertificateList) (index : ℕ) (condition : Condition) → is_none o ≡ k → option_map windowless (at_window list index condition o) ≡ unless k (fault_at list index condition 0)
unfolding at_window unless
window-windowless None k list index condition e = ap (λ b. unless b (fault_at list index condition 0)) e
window-windowless (Some w) k list index condition e = ap (λ b. unless b (fault_at list index condition 0)) e

or-assoc : (a b c : Option CheckFault) → option_or a (option_or b c) ≡ option_or (option_or a b) c
or-assoc None b c = refl
or-assoc (Some x) b c = refl

-- two rules before the others
two-first : (a b rest : Option CheckFault) → option_or (first_of (a ∷ b ∷ [])) rest ≡ option_or a (option_or b rest)
two-first None None rest = refl
two-first None (Some y) rest = refl
two-first (Some x) b rest = refl

-- ---- a margin that is told

-- a test that agrees with a margin agrees with it where it is told
told-kept : (in_range : Bool) (m : Margin) (test : Bool) → in_range ≡ true → test ≡ is_kept (Some m) → test ≡ is_kept (told in_range m)
told-kept in_range m test there same = same ∙ ap is_kept (told-there in_range m there)

both : (a b : Bool) → a ≡ true → b ≡ true → (a && b) ≡ true
both a b p q = ap (λ z. z && b) p ∙ q

window-some : (window : ℕ) → is_window window ≡ true → 1 ≤ window
window-some window h =
    elim (cases_lt window 1) [
      | inl l ↦ absurd (let none : window ≡ 0 = omega arith in let bad : false ≡ true = sym (ap is_window none) ∙ h in cc)
      | inr g ↦ g
    ]

-- ---- a queue

module _ (t : TableRows) (v : AreValid t) where
  bus-grows : (b : ℕ) → b < length t.buses → (d e : ℕ) → d ≤ e → bus_floor t b d ≤ bus_floor t b e
  unfolding bus_floor
  bus-grows b there d e h =
      let row = router_row t (bus_row t b).router in
      fewest_visits_mono (router_row t (bus_row t b).router).visits b (router_row t (bus_row t b).router).steps (router_row t (bus_row t b).router).within d e
      (v.routers_paced (bus_row t b).router (v.routers_of_buses b there)) h

  output-grows : (o : ℕ) → o < length t.outputs → (d e : ℕ) → d ≤ e → output_floor t o d ≤ output_floor t o e
  output-grows o there d e h = pace_mono (output_row t o).steps (output_row t o).within d e (v.outputs_paced o there) h

  -- an input
  input-same : (b : ℕ) → b < length t.buses → (c : InputBound) →
      option_map windowless (option_or (first_of (range_rules Inputs b c.window c.delay)) (first_of (input_rules t b c))) ≡ fault_of_lines (input_lines_of b (input_margins_of t b c))
  input-same b there c =
      let cap = bus_cap t b in
      let floor = bus_floor t b in
      ap (option_map windowless) (two-first (unless (is_window c.window) (fault_at Inputs b WindowOutOfRange 0)) (unless (is_delay c.delay) (fault_at Inputs b DelayOutOfRange 0)) (first_of (input_rules t b c)))
      ∙ or-windowless _ _ _ _ (unless-windowless (is_window c.window) _ Inputs b WindowOutOfRange (window-kept c.window))
      (λ n1. let w = unless-none (is_window c.window) _ n1 in
      or-windowless _ _ _ _ (unless-windowless (is_delay c.delay) _ Inputs b DelayOutOfRange (delay_limit-kept c.delay))
      (λ n2. let d = unless-none (is_delay c.delay) _ n2 in
      let some : 1 ≤ c.window = window-some c.window w in
      let short : c.delay ≤ 100000 = leb-true c.delay 100000 d in
      or-windowless _ _ _ _ (unless-windowless (is_closing cap floor c.window) _ Inputs b WindowDoesNotClose (told-kept (is_window c.window) (closing_margin_of cap floor c.window) _ w (closing-kept cap floor c.window)))
      (λ n3. or-windowless _ _ _ _ (window-windowless (backlog_failure cap floor c.window c.backlog) _ Inputs b BacklogTooSmall (told-kept (is_window c.window) (backlog_margin_of cap floor c.window c.backlog) _ w (backlog-kept cap floor c.window c.backlog some)))
      (λ n4. or-windowless _ _ _ _ (unless-windowless (nat_le c.backlog (bus_row t b).queue) _ Inputs b QueueTooShort (queue-kept (bus_row t b).queue c.backlog))
      (λ n5. or-windowless _ _ _ _ (window-windowless (delay_failure cap floor c.window c.delay) _ Inputs b DelayTooSmall
      (told-kept (is_window c.window && is_delay c.delay) (delay_margin_of cap floor c.window c.delay) _ (both _ _ w d) (delay-kept cap floor (bus-grows b there) c.window c.delay some short)))
      (λ n6. refl))))))

  -- an output
  output-same : (o : ℕ) → o < length t.outputs → (c : OutputBound) →
      option_map windowless (option_or (first_of (range_rules Outputs o c.window c.delay)) (first_of (output_rules t o c))) ≡ fault_of_lines (output_lines_of o (output_margins_of t o c))
  output-same o there c =
      let cap = output_cap t o in
      let floor = output_floor t o in
      ap (option_map windowless) (two-first (unless (is_window c.window) (fault_at Outputs o WindowOutOfRange 0)) (unless (is_delay c.delay) (fault_at Outputs o DelayOutOfRange 0)) (first_of (output_rules t o c)))
      ∙ or-windowless _ _ _ _ (unless-windowless (is_window c.window) _ Outputs o WindowOutOfRange (window-kept c.window))
      (λ n1. let w = unless-none (is_window c.window) _ n1 in
      or-windowless _ _ _ _ (unless-windowless (is_delay c.delay) _ Outputs o DelayOutOfRange (delay_limit-kept c.delay))
      (λ n2. let d = unless-none (is_delay c.delay) _ n2 in
      let some : 1 ≤ c.window = window-some c.window w in
      let short : c.delay ≤ 100000 = leb-true c.delay 100000 d in
      or-windowless _ _ _ _ (unless-windowless (is_closing cap floor c.window) _ Outputs o WindowDoesNotClose (told-kept (is_window c.window) (closing_margin_of cap floor c.window) _ w (closing-kept cap floor c.window)))
      (λ n3. or-windowless _ _ _ _ (window-windowless (delay_failure cap floor c.window c.delay) _ Outputs o DelayTooSmall
      (told-kept (is_window c.window && is_delay c.delay) (delay_margin_of cap floor c.window c.delay) _ (both _ _ w d) (delay-kept cap floor (output-grows o there) c.window c.delay some short)))
      (λ n4. refl))))

  -- ---- a label, where the delays that it rests on are in range

  module _ (c : CertificateRows) where
    aged-test : (x : ℕ) → x < length t.labels → (age : ℕ) →
        list_all (λ s. nat_le ((label_row t x).stale + source_delay t c s) age) (label_row t x).sources
        ≡ is_kept (Some (age_margin_of age (label_row t x).stale (source_delay t c (slowest_source t c x)) (slowest_source t c x)))
    unfolding is_kept
    aged-test x there age =
        greatest-test (source_delay t c) (λ s. nat_le ((label_row t x).stale + source_delay t c s) age)
        (λ s r l top. le-leb _ _ (omega (arith, l, leb-true _ _ top))) (label_row t x).sources (v.sources_some x there)
        ∙ room-test age ((label_row t x).stale + source_delay t c (slowest_source t c x))

    fresh-test : (x : ℕ) → x < length t.labels →
        list_all (λ s. nat_le (source_delay t c s + (stream_row t s).maximum) (label_row t x).stale) (label_row t x).sources
        ≡ is_kept (Some (fresh_margin_of (label_row t x).stale (silence t c (rarest_source t c x)) (rarest_source t c x)))
    unfolding is_kept
    fresh-test x there =
        greatest-test (silence t c) (λ s. nat_le (source_delay t c s + (stream_row t s).maximum) (label_row t x).stale)
        (λ s r l top. le-leb _ _ (omega (arith, l, leb-true _ _ top))) (label_row t x).sources (v.sources_some x there)
        ∙ room-test (label_row t x).stale (silence t c (rarest_source t c x))

    label-same : (x : ℕ) → x < length t.labels → is_delay (label_delay t c x) ≡ true → are_in_range t c x ≡ true →
        option_map windowless (first_of (label_rules t x c)) ≡ fault_of_lines (label_lines_of x (label_margins_of t x c))
    label-same x there short slow =
        let row = label_row t x in
        let delay = label_delay t c x in
        let s = schedule_of t (label_row t x).output in
        or-windowless _ _ _ _ (unless-windowless _ _ Labels x SentTooSoon
        (soon-test t v x there ((label_row t x).minimum + label_delay t c x) ∙ told-kept (is_delay delay) (soon_margin_of (least_label_gap s x) row.minimum delay) _ short (soon-kept (least_label_gap s x) row.minimum delay)))
        (λ n1. or-windowless _ _ _ _ (unless-windowless _ _ Labels x SentTooLate
        (late-test t v x there (label_row t x).maximum (label_delay t c x) ∙ told-kept (is_delay delay) (late_margin_of (greatest_label_gap s x) row.maximum delay) _ short (late-kept (greatest_label_gap s x) row.maximum delay)))
        (λ n2. or-windowless _ _ _ _ (unless-windowless _ _ Labels x AgeTooSmall (told-kept (are_in_range t c x) _ _ slow (aged-test x there (slice_index c.ages x))))
        (λ n3. or-windowless _ _ _ _ (unless-windowless _ _ Labels x AgeOverLimit (age_limit-kept row.age_limit (slice_index c.ages x)))
        (λ n4. or-windowless _ _ _ _ (unless-windowless _ _ Labels x SourceGoesStale (told-kept (are_in_range t c x) _ _ slow (fresh-test x there)))
        (λ n5. refl)))))

    -- ---- the jobs

    input-job : (b : ℕ) → b < length t.buses → option_map windowless (job_verdict t c b) ≡ fault_of_job t c b
    unfolding job_lines_of
    input-job b there =
        ap (option_map windowless) (job-input t c b there) ∙ input-same b there (input_bound c b) ∙ rw (lt-ltb b (length t.buses) there) refl

    output-job : (o : ℕ) → o < length t.outputs → option_map windowless (job_verdict t c (length t.buses + o)) ≡ fault_of_job t c (length t.buses + o)
    unfolding job_lines_of
    output-job o there =
        let at : length t.buses + o - length t.buses ≡ o = omega arith in
        ap (option_map windowless) (job-output t c o there) ∙ output-same o there (output_bound c o)
        ∙ rw (le-ltb (length t.buses + o) (length t.buses) (omega arith), lt-ltb (length t.buses + o) (length t.buses + length t.outputs) (omega arith), at) refl

    label-job : (x : ℕ) → x < length t.labels → is_delay (label_delay t c x) ≡ true → are_in_range t c x ≡ true →
        option_map windowless (job_verdict t c (length t.buses + length t.outputs + x)) ≡ fault_of_job t c (length t.buses + length t.outputs + x)
    unfolding job_lines_of
    label-job x there short slow =
        let at : length t.buses + length t.outputs + x - (length t.buses + length t.outputs) ≡ x = omega arith in
        ap (option_map windowless) (job-label t c x) ∙ label-same x there short slow
        ∙ rw (le-ltb (length t.buses + length t.outputs + x) (length t.buses) (omega arith), le-ltb (length t.buses + length t.outputs + x) (length t.buses + length t.outputs) (omega arith), at) refl

    -- where the jobs before the labels have no fault, the delays are in range
    input-short : (n b : ℕ) → length t.buses ≤ n → first_job_fault (job_verdict t c) n ≡ None → b < length t.buses → (input_bound c b).delay ≤ 100000
    input-short n b far none there =
        let r = or-none _ _ (sym (job-input t c b there) ∙ jobs-none (job_verdict t c) n none b (omega arith)) in
        (ranges-none Inputs b (input_bound c b).window (input_bound c b).delay r.0).2

    output-short : (n o : ℕ) → length t.buses + length t.outputs ≤ n → first_job_fault (job_verdict t c) n ≡ None → o < length t.outputs → (output_bound c o).delay ≤ 100000
    output-short n o far none there =
        let r = or-none _ _ (sym (job-output t c o there) ∙ jobs-none (job_verdict t c) n none (length t.buses + o) (omega arith)) in
        (ranges-none Outputs o (output_bound c o).window (output_bound c o).delay r.0).2

    job-same : (k : ℕ) → k < job_count t → first_job_fault (job_verdict t c) k ≡ None → option_map windowless (job_verdict t c k) ≡ fault_of_job t c k
    job-same k l none =
        elim (cases_lt k (length t.buses)) [
          | inl in_buses ↦ input-job k in_buses
          | inr past_buses ↦ elim (cases_lt k (length t.buses + length t.outputs)) [
            | inl in_outputs ↦
                let e : k ≡ length t.buses + (k - length t.buses) = omega arith in
                ap (λ n. option_map windowless (job_verdict t c n)) e ∙ output-job (k - length t.buses) (omega arith) ∙ ap (fault_of_job t c) (sym e)
            | inr past_outputs ↦
                let x : ℕ = k - (length t.buses + length t.outputs) in
                let there : k - (length t.buses + length t.outputs) < length t.labels = omega arith in
                let e : k ≡ length t.buses + length t.outputs + (k - (length t.buses + length t.outputs)) = omega arith in
                ap (λ n. option_map windowless (job_verdict t c n)) e
                ∙ label-job (k - (length t.buses + length t.outputs)) there
                (le-leb _ _ (output-short k (label_row t (k - (length t.buses + length t.outputs))).output past_outputs none (v.labels_on_outputs (k - (length t.buses + length t.outputs)) there)))
                (le-leb _ _ (of-greatest (source_delay t c) (λ s. source_delay t c s ≤ 100000) (label_row t (k - (length t.buses + length t.outputs))).sources (v.sources_some (k - (length t.buses + length t.outputs)) there)
                (λ i h. input-short k (stream_row t (slice_index (label_row t (k - (length t.buses + length t.outputs))).sources i)).bus past_buses none
                (v.streams_on_buses (slice_index (label_row t (k - (length t.buses + length t.outputs))).sources i) (v.sources_there (k - (length t.buses + length t.outputs)) i there h)))))
                ∙ ap (fault_of_job t c) (sym e)
          ]
        ]

-- ---- all jobs, and the whole

jobs-same : (f g : ℕ → Option CheckFault) (n : ℕ) → ((k : ℕ) → k < n → first_job_fault f k ≡ None → option_map windowless (f k) ≡ g k) → option_map windowless (first_job_fault f n) ≡ first_job_fault g n
unfolding first_job_fault
jobs-same f g zero h = refl
jobs-same f g (suc n) h =
    or-windowless (first_job_fault f n) (first_job_fault g n) (f n) (g n) (jobs-same f g n (λ k l none. h k (omega arith) none)) (λ none. h n (omega arith) none)

-- the first of two lists of lines
pub lines-append : (xs ys : List MarginLine) → fault_of_lines (xs ++ ys) ≡ option_or (fault_of_lines xs) (fault_of_lines ys)
lines-append [] ys = refl
lines-append (x ∷ xs) ys = ap (option_or (line_fault x)) (lines-append xs ys) ∙ or-assoc (line_fault x) (fault_of_lines xs) (fault_of_lines ys)

-- job by job
lines-jobs : (lines : ℕ → List MarginLine) (n : ℕ) → first_job_fault (λ k. fault_of_lines (lines k)) n ≡ fault_of_lines (lines_below lines n)
unfolding first_job_fault lines_below
lines-jobs lines zero = refl
lines-jobs lines (suc n) = ap (λ o. option_or o (fault_of_lines (lines n))) (lines-jobs lines n) ∙ sym (lines-append (lines_below lines n) (lines n))

named-none : (t : TableRows) (claims : NamedRows) → AreNamed t claims → misnaming t claims ≡ None
named-none t claims ok =
    none-or _ _ (none-unless _ _ (is-named (length t.buses) (map (λ i. i.bus) claims.inputs) t.names.buses ok.inputs))
    (none-or _ _ (none-unless _ _ (is-named (length t.outputs) (map (λ o. o.output) claims.outputs) t.names.outputs ok.outputs))
    (none-or _ _ (none-unless _ _ (is-named (length t.labels) (map (λ l. l.label) claims.labels) t.names.labels ok.labels)) refl))

-- the verdict on right names is the first negative margin
pub verdict-by_lines : (t : TableRows) → AreValid t → (claims : NamedRows) → misnaming t claims ≡ None → option_map windowless (verdict_of t claims) ≡ first_negative t (numbers_of claims)
verdict-by_lines t v claims named =
    ap (option_map windowless) (verdict-jobs t claims (first_job_fault (job_verdict t (numbers_of claims)) (job_count t)) named refl)
    ∙ jobs-same (job_verdict t (numbers_of claims)) (fault_of_job t (numbers_of claims)) (job_count t) (λ k l none. job-same t v (numbers_of claims) k l none)
    ∙ lines-jobs (job_lines_of t (numbers_of claims)) (job_count t)

pub verdict-same : (t : TableRows) → AreValid t → (claims : NamedRows) → AreNamed t claims → option_map windowless (verdict_of t claims) ≡ first_negative t (numbers_of claims)
verdict-same t v claims named = verdict-by_lines t v claims (named-none t claims named)

pub map-none : (o : Option CheckFault) → option_map windowless o ≡ None → o ≡ None
map-none None h = refl
map-none (Some fault) h = absurd cc

-- so none is negative exactly where the certificate is accepted
pub accepted-same : (t : TableRows) → AreValid t → (claims : NamedRows) → AreNamed t claims → (first_negative t (numbers_of claims) ≡ None) ↔ Accepts t claims
accepted-same t v claims named = (
  (λ none. (verdict-accepts t claims).0 (map-none _ (verdict-same t v claims named ∙ none))),
  (λ ok. sym (verdict-same t v claims named) ∙ ap (option_map windowless) ((verdict-accepts t claims).1 ok)),
)
