-- The rules of a job whose ranges are met; the verdict of a case.
use Rattle.std.proofs.Common.{◌≡◌, ℕ, ◌+◌, ◌-◌, ◌<◌, ◌≤◌, None, Option, length, refl, sym, subst}
use Rattle.std.proofs.lemmas.Bool.{le-leb, lt-ltb, le-ltb}
use Rattle.dc_cert.specs.Bounds.{CertificateRows, input_bound, output_bound, certificate_rows}
use Rattle.dc_cert.specs.declared.certificate.Certificate.{Certificate}
use Rattle.dc_check.specs.Verdict.{unless, first_of, range_rules, input_backlog_failure, input_delay_failure, output_delay_failure, job_count, job_ranges, job_backlog_failure, job_delay_failure, job_verdict, first_job_fault}
use Rattle.dc_check.specs.declared.fault.CheckFault.{CheckFault}
use Rattle.dc_check.specs.declared.fault.CertificateList.{CertificateList}
use Rattle.dc_check.specs.declared.fault.CertificateList.TheVariants.{Inputs, Outputs}
use Rattle.dc_tables.specs.TableRows.{TableRows}

ranges-met : (list : CertificateList) (index window delay : ℕ) → 1 ≤ window → window ≤ 100000 → delay ≤ 100000 → first_of (range_rules list index window delay) ≡ None
unfolding unless
ranges-met list index window delay least most short = rw (le-leb 1 window least, le-leb window 100000 most, le-leb delay 100000 short) refl

module _ (t : TableRows) (c : CertificateRows) (b : ℕ) (there : b < length t.buses) where
  pub ranges-input : 1 ≤ (input_bound c b).window → (input_bound c b).window ≤ 100000 → (input_bound c b).delay ≤ 100000 → job_ranges t c b ≡ None
  ranges-input least most short = rw (lt-ltb b (length t.buses) there) (ranges-met Inputs b (input_bound c b).window (input_bound c b).delay least most short)

  pub backlog-input : input_backlog_failure t b (input_bound c b) ≡ job_backlog_failure t c b
  backlog-input = rw (lt-ltb b (length t.buses) there) refl

  pub delay-input : input_delay_failure t b (input_bound c b) ≡ job_delay_failure t c b
  delay-input = rw (lt-ltb b (length t.buses) there) refl

module _ (t : TableRows) (c : CertificateRows) (job : ℕ) (low : length t.buses ≤ job) (high : job < length t.buses + length t.outputs) where
  pub ranges-output : 1 ≤ (output_bound c (job - length t.buses)).window → (output_bound c (job - length t.buses)).window ≤ 100000 → (output_bound c (job - length t.buses)).delay ≤ 100000 → job_ranges t c job ≡ None
  ranges-output least most short =
      rw (le-ltb job (length t.buses) low, lt-ltb job (length t.buses + length t.outputs) high)
      (ranges-met Outputs (job - length t.buses) (output_bound c (job - length t.buses)).window (output_bound c (job - length t.buses)).delay least most short)

  pub delay-output : output_delay_failure t (job - length t.buses) (output_bound c (job - length t.buses)) ≡ job_delay_failure t c job
  delay-output = rw (le-ltb job (length t.buses) low, lt-ltb job (length t.buses + length t.outputs) high) refl

-- the verdict of what a case holds
pub case-same : (t own : TableRows) (certificate own_certificate : Certificate) (found : Option CheckFault) → own ≡ t → own_certificate ≡ certificate
    → found ≡ first_job_fault (job_verdict own (certificate_rows own_certificate)) (job_count own)
    → first_job_fault (job_verdict t (certificate_rows certificate)) (job_count t) ≡ found
case-same t own certificate own_certificate found tables same is =
    let P : TableRows → Certificate → Type 0 = λ u k. first_job_fault (job_verdict u (certificate_rows k)) (job_count u) ≡ found in
    subst (λ u. P u certificate) tables (subst (λ k. P own k) same (sym is))
