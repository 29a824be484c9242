-- A label's rule that the least numbers break.
use Rattle.std.proofs.Common.{◌≡◌, ℕ, ◌+◌, ◌≤◌, ◌<◌, Bool, true, false, Option, Some, None, List, length, get_or, ◌-◌, [], ◌∷◌, ◌⊎◌, inl, inr, refl, sym, ap, subst, ◌∙◌, arith}
use Rattle.std.specs.Prelude.{slice_index, nat_le}
use Rattle.std.specs.List.{All, list_all}
use Rattle.std.proofs.lemmas.Bool.{cases_lt, le-leb, leb-true}
use Rattle.std.proofs.lemmas.List.{get_or_default}
use Rattle.dc_cert.specs.Bounds.{CertificateRows, output_bound, numbers_of}
use Rattle.dc_cert.specs.NamedRows.{NamedRows}
use Rattle.dc_check.specs.Accepts.{AcceptsLabel, gaps_of, label_delay, source_delay}
use Rattle.dc_check.specs.Verdict.{fault_at, unless, first_of, label_rules, job_verdict}
use Rattle.dc_check.specs.declared.fault.CertificateList.TheVariants.{Labels}
use Rattle.dc_check.specs.declared.fault.CheckFault.{CheckFault}
use Rattle.dc_check.specs.declared.fault.Condition.{Condition}
use Rattle.dc_check.specs.declared.fault.Condition.TheVariants.{NamesDiffer, WindowOutOfRange, WindowDoesNotClose, BacklogTooSmall, QueueTooShort, DelayTooSmall, DelayOutOfRange, SentTooSoon, SentTooLate, AgeTooSmall, AgeOverLimit, SourceGoesStale}
use Rattle.dc_check.specs.lemmas.Exact.{all-le, le-all, label-none, job-label}
use Rattle.dc_find.proofs.Claimed.{input-row, output-row, label-row, queues-accepted, inputs-clear, outputs-clear}
use Rattle.dc_find.proofs.Jobs.{label-clear, first-of_all}
use Rattle.dc_find.specs.Rows.{AreInputRows, AreOutputRows, AreLabelRows, IsOldEnough}
use Rattle.dc_find.specs.Ways.{AcceptsQueues, KeepsRule, code_rank, rank_of, job_of, StandsInTheWay, IsFirstOfJob, IsFirstInTheWay, IsClearBelow}
use Rattle.dc_find.specs.declared.fault.FindFault.{FindFault}
use Rattle.dc_find.specs.declared.fault.FindFault.TheVariants.{WindowNeverCloses, QueueTooShort, LabelRule, Memory}
use Rattle.dc_find.specs.declared.fault.Queue.TheVariants.{Input, Output}
use Rattle.dc_tables.specs.TableRows.{TableRows, AreValid, stream_row, label_row}

-- ---- greater delays keep no more rules

module _ (t : TableRows) (v : AreValid t) (claims : NamedRows) (inputs : AreInputRows t claims.inputs) (outputs : AreOutputRows t claims.outputs) (other : CertificateRows) (queues : AcceptsQueues t other) where
  label_delay-least : (x : ℕ) → x < length t.labels → label_delay t (numbers_of claims) x ≤ label_delay t other x
  label_delay-least x there =
      let o = v.labels_on_outputs x there in
      ((output-row t claims outputs (label_row t x).output o).least (output_bound other (label_row t x).output) (queues.outputs (label_row t x).output o)).delay

  source_delay-least : (x : ℕ) → x < length t.labels → (k d : ℕ) → k < length (label_row t x).sources →
      source_delay t (numbers_of claims) (get_or (label_row t x).sources k d) ≤ source_delay t other (get_or (label_row t x).sources k d)
  source_delay-least x there k d inside =
      let s : ℕ = get_or (label_row t x).sources k d in
      let known : get_or (label_row t x).sources k d < length t.streams = subst (λ i. i < length t.streams) (get_or_default (label_row t x).sources k 0 d inside) (v.sources_there x k there inside) in
      let b = v.streams_on_buses (get_or (label_row t x).sources k d) known in
      ((input-row t claims inputs (stream_row t (get_or (label_row t x).sources k d)).bus b).least _ (queues.inputs (stream_row t (get_or (label_row t x).sources k d)).bus b)).delay

  -- an age that is long enough with greater delays is so with the least
  pub age-older : (x : ℕ) → x < length t.labels → (age : ℕ) → IsOldEnough t x other age → IsOldEnough t x (numbers_of claims) age
  age-older x there age enough k d inside = omega (arith, enough k d inside, source_delay-least x there k d inside)

  pub rule-kept : AreLabelRows t claims.inputs claims.labels → (x : ℕ) → x < length t.labels → (condition : Condition) → KeepsRule t x other condition → KeepsRule t x (numbers_of claims) condition
  rule-kept labels x there NamesDiffer kept = tt
  rule-kept labels x there WindowOutOfRange kept = tt
  rule-kept labels x there WindowDoesNotClose kept = tt
  rule-kept labels x there BacklogTooSmall kept = tt
  rule-kept labels x there QueueTooShort kept = tt
  rule-kept labels x there DelayTooSmall kept = tt
  rule-kept labels x there DelayOutOfRange kept = tt
  rule-kept labels x there SentTooSoon kept = λ k d inside. omega (arith, kept k d inside, label_delay-least x there)
  rule-kept labels x there SentTooLate kept = λ k d inside. omega (arith, kept k d inside, label_delay-least x there)
  rule-kept labels x there AgeTooSmall kept = tt
  rule-kept labels x there AgeOverLimit kept =
      let own = label-row t claims labels x there in
      record { aged = own.0; limited = omega (arith, kept.limited, own.1 _ (age-older x there _ kept.aged)) }
  rule-kept labels x there SourceGoesStale kept = λ k d inside. omega (arith, kept k d inside, source_delay-least x there k d inside)

-- ---- the first rule that is broken

-- a rule of the list, and those after it
front : (holds : Bool) (fault f : CheckFault) (rest : List (Option CheckFault)) → first_of (unless holds fault ∷ rest) ≡ Some f → ((holds ≡ false) × (f ≡ fault)) ⊎ ((holds ≡ true) × (first_of rest ≡ Some f))
unfolding unless
front true fault f rest h = inr (refl, h)
front false fault f rest h = inl (refl, cc)

-- orders as tests
module _ (f g : ℕ → ℕ) (xs : List ℕ) where
  one-fails : list_all (λ n. nat_le (f n) (g n)) xs ≡ false → ¬ All (λ n. f n ≤ g n) xs
  one-fails h all = let bad : true ≡ false = sym (le-all f g xs all) ∙ h in absurd cc

over : (a b : ℕ) → nat_le a b ≡ false → ¬ (a ≤ b)
over a b h le = let bad : true ≡ false = sym (le-leb a b le) ∙ h in absurd cc

-- a rule that is broken, and those before it that are kept
pub record IsBroken (t : TableRows) (x : ℕ) (c : CertificateRows) (condition : Condition) : Type 0 where
  pub breaks : ¬ KeepsRule t x c condition
  pub earlier : (other : Condition) → code_rank other < code_rank condition → KeepsRule t x c other

module _ (t : TableRows) (x : ℕ) (c : CertificateRows) where
  -- the rules of a lower rank, where those of them that say something are kept
  lower-rules : (n : ℕ) → (1 < n → KeepsRule t x c SentTooSoon) → (2 < n → KeepsRule t x c SentTooLate) → (3 < n → KeepsRule t x c AgeOverLimit) → (4 < n → KeepsRule t x c SourceGoesStale) →
      (other : Condition) → code_rank other < n → KeepsRule t x c other
  lower-rules n soon late age fresh NamesDiffer l = tt
  lower-rules n soon late age fresh WindowOutOfRange l = tt
  lower-rules n soon late age fresh WindowDoesNotClose l = tt
  lower-rules n soon late age fresh BacklogTooSmall l = tt
  lower-rules n soon late age fresh QueueTooShort l = tt
  lower-rules n soon late age fresh DelayTooSmall l = tt
  lower-rules n soon late age fresh DelayOutOfRange l = tt
  lower-rules n soon late age fresh SentTooSoon l = soon l
  lower-rules n soon late age fresh SentTooLate l = late l
  lower-rules n soon late age fresh AgeTooSmall l = tt
  lower-rules n soon late age fresh AgeOverLimit l = age l
  lower-rules n soon late age fresh SourceGoesStale l = fresh l

  broken-at : (condition own : Condition) → own ≡ condition → IsBroken t x c condition → IsBroken t x c own
  broken-at condition own is h = subst (IsBroken t x c) (sym is) h

  -- the rules after the first one, the second ..
  abbrev behind_fresh : List (Option CheckFault)
  behind_fresh = []

  abbrev behind_limit : List (Option CheckFault)
  behind_limit = unless (list_all (λ s. nat_le (source_delay t c s + (stream_row t s).maximum) (label_row t x).stale) (label_row t x).sources) (fault_at Labels x SourceGoesStale 0) ∷ behind_fresh

  abbrev behind_aged : List (Option CheckFault)
  behind_aged = unless (nat_le (slice_index c.ages x) (label_row t x).age_limit) (fault_at Labels x AgeOverLimit 0) ∷ behind_limit

  abbrev behind_late : List (Option CheckFault)
  behind_late = unless (list_all (λ s. nat_le ((label_row t x).stale + source_delay t c s) (slice_index c.ages x)) (label_row t x).sources) (fault_at Labels x AgeTooSmall 0) ∷ behind_aged

  abbrev behind_soon : List (Option CheckFault)
  behind_soon = unless (list_all (λ g. nat_le (g + label_delay t c x) (label_row t x).maximum) (gaps_of t x)) (fault_at Labels x SentTooLate 0) ∷ behind_late

  -- the first fault of a label, whose age is long enough
  pub broken-first : (f : CheckFault) → IsOldEnough t x c (slice_index c.ages x) → first_of (label_rules t x c) ≡ Some f → IsBroken t x c f.condition
  broken-first f aged h =
      elim (front (list_all (λ g. nat_le ((label_row t x).minimum + label_delay t c x) g) (gaps_of t x)) (fault_at Labels x SentTooSoon 0) f behind_soon h) [
        | inl e ↦ broken-at SentTooSoon f.condition (ap (λ (e : CheckFault). e.condition) e.1) (record {
          breaks = one-fails (λ g. (label_row t x).minimum + label_delay t c x) (λ g. g) (gaps_of t x) e.0;
          earlier = lower-rules 1 (λ l. absurd (omega (arith, l))) (λ l. absurd (omega (arith, l))) (λ l. absurd (omega (arith, l))) (λ l. absurd (omega (arith, l)));
        })
        | inr soon ↦ elim (front (list_all (λ g. nat_le (g + label_delay t c x) (label_row t x).maximum) (gaps_of t x)) (fault_at Labels x SentTooLate 0) f behind_late soon.1) [
          | inl e ↦ broken-at SentTooLate f.condition (ap (λ (e : CheckFault). e.condition) e.1) (record {
            breaks = one-fails (λ g. g + label_delay t c x) (λ g. (label_row t x).maximum) (gaps_of t x) e.0;
            earlier = lower-rules 2 (λ l. all-le (λ g. (label_row t x).minimum + label_delay t c x) (λ g. g) (gaps_of t x) soon.0) (λ l. absurd (omega (arith, l))) (λ l. absurd (omega (arith, l))) (λ l. absurd (omega (arith, l)));
          })
          | inr late ↦ elim (front (list_all (λ s. nat_le ((label_row t x).stale + source_delay t c s) (slice_index c.ages x)) (label_row t x).sources) (fault_at Labels x AgeTooSmall 0) f behind_aged late.1) [
            | inl e ↦ absurd (one-fails (λ s. (label_row t x).stale + source_delay t c s) (λ s. slice_index c.ages x) (label_row t x).sources e.0 aged)
            | inr old ↦ elim (front (nat_le (slice_index c.ages x) (label_row t x).age_limit) (fault_at Labels x AgeOverLimit 0) f behind_limit old.1) [
              | inl e ↦ broken-at AgeOverLimit f.condition (ap (λ (e : CheckFault). e.condition) e.1) (record {
                breaks = λ kept. over _ _ e.0 kept.limited;
                earlier = lower-rules 3 (λ l. all-le (λ g. (label_row t x).minimum + label_delay t c x) (λ g. g) (gaps_of t x) soon.0)
                    (λ l. all-le (λ g. g + label_delay t c x) (λ g. (label_row t x).maximum) (gaps_of t x) late.0) (λ l. absurd (omega (arith, l))) (λ l. absurd (omega (arith, l)));
              })
              | inr limit ↦ elim (front (list_all (λ s. nat_le (source_delay t c s + (stream_row t s).maximum) (label_row t x).stale) (label_row t x).sources) (fault_at Labels x SourceGoesStale 0) f behind_fresh limit.1) [
                | inl e ↦ broken-at SourceGoesStale f.condition (ap (λ (e : CheckFault). e.condition) e.1) (record {
                  breaks = one-fails (λ s. source_delay t c s + (stream_row t s).maximum) (λ s. (label_row t x).stale) (label_row t x).sources e.0;
                  earlier = lower-rules 4 (λ l. all-le (λ g. (label_row t x).minimum + label_delay t c x) (λ g. g) (gaps_of t x) soon.0)
                      (λ l. all-le (λ g. g + label_delay t c x) (λ g. (label_row t x).maximum) (gaps_of t x) late.0)
                      (λ l. record { aged = aged; limited = leb-true _ _ limit.0 }) (λ l. absurd (omega (arith, l)));
                })
                | inr none ↦ absurd (let bad : None ≡ Some f = none.1 in cc)
              ]
            ]
          ]
        ]
      ]

-- ---- a label of the least rows

module _ (t : TableRows) (v : AreValid t) (claims : NamedRows) (inputs : AreInputRows t claims.inputs) (outputs : AreOutputRows t claims.outputs) (labels : AreLabelRows t claims.inputs claims.labels) where
  -- a rule that it breaks stands in the way, and none before it
  broken-of_job : (x : ℕ) → x < length t.labels → (condition : Condition) → IsBroken t x (numbers_of claims) condition → IsFirstOfJob t (length t.buses + length t.outputs + x) (LabelRule x condition)
  broken-of_job x there condition broken = record {
    here = refl;
    stands = (there, λ other queues kept. broken.breaks (rule-kept t v claims inputs outputs other queues labels x there condition kept));
    first = before;
  } where
    before : (other : FindFault) → job_of t other ≡ length t.buses + length t.outputs + x → rank_of other < code_rank condition → ¬ StandsInTheWay t other
    before (WindowNeverCloses (Input i)) at l stands = absurd (omega (arith, at, stands.0))
    before (WindowNeverCloses (Output o)) at l stands = absurd (omega (arith, at, stands.0))
    before (QueueTooShort i) at l stands = absurd (omega (arith, at, stands.0))
    before (LabelRule y other) at l stands =
        let same : x ≡ y = omega (arith, at) in
        stands.1 (numbers_of claims) (queues-accepted t claims inputs outputs) (subst (λ k. KeepsRule t k (numbers_of claims) other) same (broken.earlier other l))
    before Memory at l stands = stands

  -- no label before it stands in the way, where these are accepted
  labels-clear : (n : ℕ) → n ≤ length t.labels → ((x : ℕ) → x < n → AcceptsLabel t x (numbers_of claims)) → IsClearBelow t (length t.buses + length t.outputs + n)
  labels-clear n few kept job below other at =
      elim (cases_lt job (length t.buses + length t.outputs)) [
        | inl l ↦ outputs-clear t (length t.outputs) claims.outputs (omega arith) (inputs-clear t (length t.buses) claims.inputs (omega arith) (record { count = inputs.count; each = inputs.each })) (record { count = outputs.count; each = outputs.each }) job l other at
        | inr g ↦
            let x : ℕ = job - (length t.buses + length t.outputs) in
            label-clear t (job - (length t.buses + length t.outputs)) (omega arith) (numbers_of claims) (queues-accepted t claims inputs outputs) (kept (job - (length t.buses + length t.outputs)) (omega arith)) other (at ∙ omega arith)
      ]

  pub label-broken : (x : ℕ) → x < length t.labels → ((y : ℕ) → y < x → AcceptsLabel t y (numbers_of claims)) → (f : CheckFault) →
      job_verdict t (numbers_of claims) (length t.buses + length t.outputs + x) ≡ Some f → IsFirstInTheWay t (LabelRule x f.condition)
  label-broken x there kept f reported =
      first-of_all t (length t.buses + length t.outputs + x) (LabelRule x f.condition) (labels-clear x (omega arith) kept)
      (broken-of_job x there f.condition (broken-first t x (numbers_of claims) f (label-row t claims labels x there).0 (sym (job-label t (numbers_of claims) x) ∙ reported)))

  pub label-kept : (x : ℕ) → job_verdict t (numbers_of claims) (length t.buses + length t.outputs + x) ≡ None → AcceptsLabel t x (numbers_of claims)
  label-kept x reported = label-none t (numbers_of claims) x (sym (job-label t (numbers_of claims) x) ∙ reported)
