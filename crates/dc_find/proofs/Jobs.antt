-- What stands in the way, job by job.
use Rattle.std.proofs.Common.{◌≡◌, ℕ, ◌+◌, ◌<◌, length, refl, sym, subst, ◌∙◌, arith, inl, inr}
use Rattle.dc_cert.specs.Bounds.{InputBound, OutputBound, CertificateRows, numbers_of}
use Rattle.dc_check.specs.Accepts.{AcceptsInput, AcceptsOutput, AcceptsLabel}
use Rattle.dc_check.specs.declared.fault.Condition.{Condition}
use Rattle.dc_check.specs.declared.fault.Condition.TheVariants.{NamesDiffer, WindowOutOfRange, WindowDoesNotClose, BacklogTooSmall, QueueTooShort, DelayTooSmall, DelayOutOfRange, SentTooSoon, SentTooLate, AgeTooSmall, AgeOverLimit, SourceGoesStale}
use Rattle.dc_find.specs.Least.{NoneAccepted}
use Rattle.dc_find.specs.Ways.{AcceptsQueues, KeepsRule, StandsInTheWay, job_of, NothingAt, IsClearBelow, IsFirstOfJob, IsFirstInTheWay}
use Rattle.dc_find.specs.declared.fault.FindFault.{FindFault}
use Rattle.dc_find.specs.declared.fault.FindFault.TheVariants.{WindowNeverCloses, QueueTooShort, LabelRule, Memory}
use Rattle.dc_find.specs.declared.fault.Queue.TheVariants.{Input, Output}
use Rattle.dc_tables.specs.TableRows.{TableRows}

-- an accepted label keeps each rule
pub keeps-each : (t : TableRows) (x : ℕ) (c : CertificateRows) → AcceptsLabel t x c → (condition : Condition) → KeepsRule t x c condition
keeps-each t x c ok NamesDiffer = tt
keeps-each t x c ok WindowOutOfRange = tt
keeps-each t x c ok WindowDoesNotClose = tt
keeps-each t x c ok BacklogTooSmall = tt
keeps-each t x c ok QueueTooShort = tt
keeps-each t x c ok DelayTooSmall = tt
keeps-each t x c ok DelayOutOfRange = tt
keeps-each t x c ok SentTooSoon = ok.gaps.not_soon
keeps-each t x c ok SentTooLate = ok.gaps.not_late
keeps-each t x c ok AgeTooSmall = tt
keeps-each t x c ok AgeOverLimit = ok.age
keeps-each t x c ok SourceGoesStale = ok.fresh

module _ (t : TableRows) where
  -- at an accepted input nothing stands in the way
  pub input-clear : (b : ℕ) → b < length t.buses → (c : InputBound) → AcceptsInput t b c → NothingAt t b
  input-clear b there c ok (WindowNeverCloses (Input i)) here stands =
      let own : AcceptsInput t i c = subst (λ k. AcceptsInput t k c) (sym here) ok in stands.1 c.window own.window
  input-clear b there c ok (WindowNeverCloses (Output o)) here stands = absurd (omega (arith, here))
  input-clear b there c ok (QueueTooShort i) here stands =
      let own : AcceptsInput t i c = subst (λ k. AcceptsInput t k c) (sym here) ok in stands.1 c.window c.backlog own.window own.backlog
  input-clear b there c ok (LabelRule x condition) here stands = absurd (omega (arith, here))
  input-clear b there c ok Memory here stands = stands

  pub output-clear : (o : ℕ) → o < length t.outputs → (c : OutputBound) → AcceptsOutput t o c → NothingAt t (length t.buses + o)
  output-clear o there c ok (WindowNeverCloses (Input i)) here stands = absurd (omega (arith, here, stands.0))
  output-clear o there c ok (WindowNeverCloses (Output i)) here stands =
      let same : o ≡ i = omega (arith, here) in
      let own : AcceptsOutput t i c = subst (λ k. AcceptsOutput t k c) same ok in stands.1 c.window own.window
  output-clear o there c ok (QueueTooShort i) here stands = absurd (omega (arith, here, stands.0))
  output-clear o there c ok (LabelRule x condition) here stands = absurd (omega (arith, here))
  output-clear o there c ok Memory here stands = stands

  pub label-clear : (x : ℕ) → x < length t.labels → (c : CertificateRows) → AcceptsQueues t c → AcceptsLabel t x c → NothingAt t (length t.buses + length t.outputs + x)
  label-clear x there c queues ok (WindowNeverCloses (Input i)) here stands = absurd (omega (arith, here, stands.0))
  label-clear x there c queues ok (WindowNeverCloses (Output o)) here stands = absurd (omega (arith, here, stands.0))
  label-clear x there c queues ok (QueueTooShort i) here stands = absurd (omega (arith, here, stands.0))
  label-clear x there c queues ok (LabelRule y condition) here stands =
      let same : x ≡ y = omega (arith, here) in
      stands.1 c queues (keeps-each t y c (subst (λ k. AcceptsLabel t k c) same ok) condition)
  label-clear x there c queues ok Memory here stands = stands

  -- the first of its job, where nothing stands in the way before it
  pub first-of_all : (job : ℕ) (fault : FindFault) → IsClearBelow t job → IsFirstOfJob t job fault → IsFirstInTheWay t fault
  first-of_all job fault clear f = record {
    stands = f.stands;
    first = λ other before.
        elim before [
          | inl l ↦ clear (job_of t other) (omega (arith, l, f.here)) other refl
          | inr e ↦ f.first other (e.0 ∙ f.here) e.1
        ];
  }

  -- where something stands in the way, no certificate is accepted
  pub none-accepted : (fault : FindFault) → StandsInTheWay t fault → NoneAccepted t
  none-accepted (WindowNeverCloses (Input b)) stands claims ok = stands.1 _ (ok.numbers.inputs b stands.0).window
  none-accepted (WindowNeverCloses (Output o)) stands claims ok = stands.1 _ (ok.numbers.outputs o stands.0).window
  none-accepted (QueueTooShort b) stands claims ok = let own = ok.numbers.inputs b stands.0 in stands.1 _ _ own.window own.backlog
  none-accepted (LabelRule x condition) stands claims ok =
      stands.1 (numbers_of claims) (record { inputs = ok.numbers.inputs; outputs = ok.numbers.outputs }) (keeps-each t x (numbers_of claims) (ok.numbers.labels x stands.0) condition)
  none-accepted Memory stands claims ok = stands
