-- The first fault of the jobs, as a loop finds it.
use Rattle.std.proofs.Common.{◌≡◌, ℕ, zero, suc, ◌+◌, ◌-◌, ◌<◌, true, false, Option, Some, None, is_some, length, inl, inr, refl, sym, ap, ◌∙◌, arith, add-one}
use Rattle.std.specs.Option.{option_or}
use Rattle.std.proofs.lemmas.Bool.{cases_lt, lt-ltb, le-ltb}
use Rattle.dc_cert.specs.Bounds.{CertificateRows, input_bound, output_bound, numbers_of}
use Rattle.dc_cert.specs.NamedRows.{NamedRows}
use Rattle.dc_check.specs.lemmas.Exact.{none-or}
use Rattle.dc_check.specs.lemmas.Firsts.{at_front, nothing}
use Rattle.dc_check.specs.Verdict.{first_of, misnaming, range_rules, input_rules, output_rules, label_rules, input_backlog_failure, input_delay_failure, output_delay_failure, job_count, job_ranges, job_rules, job_backlog_failure, job_delay_failure, job_verdict, first_job_fault, verdict_of}
use Rattle.dc_check.specs.declared.fault.CheckFault.{CheckFault}
use Rattle.dc_check.specs.declared.fault.CertificateList.TheVariants.{Inputs, Outputs}
use Rattle.dc_tables.specs.TableRows.{TableRows}

-- a job in whose ranges there is no fault
pub job-in_range : (t : TableRows) (c : CertificateRows) (job : ℕ) → job_ranges t c job ≡ None → job_verdict t c job ≡ job_rules t c job
unfolding job_verdict
job-in_range t c job h = ap (λ o. option_or o (job_rules t c job)) h

-- what is left of a number without those before it
own : (before n : ℕ) → before + n - before ≡ n
own before n = omega arith

-- what the rules say of an input, and which windows they name
module _ (t : TableRows) (c : CertificateRows) (b : ℕ) (there : b < length t.buses) where
  pub ranges-input : job_ranges t c b ≡ first_of (range_rules Inputs b (input_bound c b).window (input_bound c b).delay)
  ranges-input = rw (lt-ltb b (length t.buses) there) refl

  pub rules-input : job_rules t c b ≡ first_of (input_rules t b (input_bound c b))
  rules-input = rw (lt-ltb b (length t.buses) there) refl

  pub backlog-input : job_backlog_failure t c b ≡ input_backlog_failure t b (input_bound c b)
  backlog-input = rw (lt-ltb b (length t.buses) there) refl

  pub delay-input : job_delay_failure t c b ≡ input_delay_failure t b (input_bound c b)
  delay-input = rw (lt-ltb b (length t.buses) there) refl

-- of an output
module _ (t : TableRows) (c : CertificateRows) (o : ℕ) (there : o < length t.outputs) where
  pub ranges-output : job_ranges t c (length t.buses + o) ≡ first_of (range_rules Outputs o (output_bound c o).window (output_bound c o).delay)
  ranges-output = rw (le-ltb (length t.buses + o) (length t.buses) (omega arith), lt-ltb (length t.buses + o) (length t.buses + length t.outputs) (omega arith), own (length t.buses) o) refl

  pub rules-output : job_rules t c (length t.buses + o) ≡ first_of (output_rules t o (output_bound c o))
  rules-output = rw (le-ltb (length t.buses + o) (length t.buses) (omega arith), lt-ltb (length t.buses + o) (length t.buses + length t.outputs) (omega arith), own (length t.buses) o) refl

  pub delay-output : job_delay_failure t c (length t.buses + o) ≡ output_delay_failure t o (output_bound c o)
  delay-output = rw (le-ltb (length t.buses + o) (length t.buses) (omega arith), lt-ltb (length t.buses + o) (length t.buses + length t.outputs) (omega arith), own (length t.buses) o) refl

-- of a label
pub rules-label : (t : TableRows) (c : CertificateRows) (x : ℕ) → job_rules t c (length t.buses + length t.outputs + x) ≡ first_of (label_rules t x c)
rules-label t c x =
    rw (le-ltb (length t.buses + length t.outputs + x) (length t.buses) (omega arith), le-ltb (length t.buses + length t.outputs + x) (length t.buses + length t.outputs) (omega arith), own (length t.buses + length t.outputs) x) refl

-- a loop over the jobs
pub jobs-zero : (f : ℕ → Option CheckFault) → first_job_fault f 0 ≡ None
unfolding first_job_fault
jobs-zero f = refl

jobs-suc : (f : ℕ → Option CheckFault) (k : ℕ) → first_job_fault f k ≡ None → is_some (f k) ≡ false → first_job_fault f (suc k) ≡ None
unfolding first_job_fault
jobs-suc f k before none = none-or (first_job_fault f k) (f k) before (nothing (f k) none)

pub jobs-more : (f : ℕ → Option CheckFault) (k : ℕ) → first_job_fault f k ≡ None → is_some (f k) ≡ false → first_job_fault f (k + 1) ≡ None
jobs-more f k before none = ap (first_job_fault f) (add-one k) ∙ jobs-suc f k before none

pub jobs-found : (f : ℕ → Option CheckFault) (n k : ℕ) → k < n → first_job_fault f k ≡ None → is_some (f k) ≡ true → f k ≡ first_job_fault f n
unfolding first_job_fault
jobs-found f zero k l before found = absurd (omega arith)
jobs-found f (suc n) k l before found =
    elim (cases_lt k n) [
      | inl low ↦
          let here = jobs-found f n k low before found in
          here ∙ at_front (first_job_fault f n) (f n) (ap is_some (sym here) ∙ found)
      | inr high ↦
          let e : n ≡ k = omega arith in
          ap f (sym e) ∙ sym (ap (λ o. option_or o (f n)) (ap (first_job_fault f) e ∙ before))
    ]

-- ---- the verdict, of the names and then of the jobs

module _ (t : TableRows) (claims : NamedRows) where
  -- a name is wrong
  pub verdict-names : (fault : CheckFault) → misnaming t claims ≡ Some fault → verdict_of t claims ≡ Some fault
  unfolding verdict_of
  verdict-names fault h = ap (λ o. option_or o (first_job_fault (job_verdict t (numbers_of claims)) (job_count t))) h

  -- no name is wrong, so it is what the jobs say
  pub verdict-jobs : (found : Option CheckFault) → misnaming t claims ≡ None → first_job_fault (job_verdict t (numbers_of claims)) (job_count t) ≡ found → verdict_of t claims ≡ found
  unfolding verdict_of
  verdict-jobs found h e = ap (λ o. option_or o (first_job_fault (job_verdict t (numbers_of claims)) (job_count t))) h ∙ e
