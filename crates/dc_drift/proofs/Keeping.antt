-- What accepted certificates keep under clocks that drift.
use Rattle.std.proofs.Common.{ℕ, ◌+◌, ◌*◌, ◌≤◌, Option, Some, None, List, ap, arith, inl, inr}
use Rattle.std.specs.Prelude.{IfSome, slice_index}
use Rattle.dc_cert.specs.Bounds.{numbers_of}
use Rattle.dc_drift.specs.Drift.{millionths, drifting_intervals, oldest_of}
use Rattle.dc_drift.specs.Laws.{NoneAreBetter, AgesAre, AcceptedKeepUnderDrift}
use Rattle.dc_event.specs.declared.event.Event.{Event}
use Rattle.dc_event.specs.Emissions.{emission}
use Rattle.dc_in_time.specs.InTime.{AcceptedKeepTime}
use Rattle.dc_tables.specs.TableRows.{TableRows}
use Rattle.dc_time.specs.Claims.{IsYoungInTime}
use Rattle.dc_time.specs.Timed.{events}

if_some : {A : Type 0} (P Q : A → Type 0) (o : Option A) → ((x : A) → P x → Q x) → IfSome o P → IfSome o Q
if_some P Q None f p = tt
if_some P Q (Some x) f p = f x p

-- what is younger than a limit is younger than a greater one
younger : (t : TableRows) (x limit greater : ℕ) (past : List (ℕ × Event)) (e : ℕ × Event) → limit ≤ greater → IsYoungInTime t x limit past e → IsYoungInTime t x greater past e
younger t x limit greater past e le (inl fallback) = inl fallback
younger t x limit greater past e le (inr (c, came, copies)) = inr (c, came, record { copied = copies.copied; arrived = copies.arrived; before = copies.before; aged = omega (arith, copies.aged, le) })

pub under_drift : (t : TableRows) → AcceptedKeepTime t → NoneAreBetter t → AgesAre → AcceptedKeepUnderDrift t
under_drift t keep best ages_are claims accepted ppm clock paced drifts run is =
    let hold = keep claims accepted (millionths (drifting_intervals t ppm)) clock paced ((best ppm).fit clock drifts) run is in
    record {
      claims = hold;
      young = λ past rest e at.
          let old : ℕ → ℕ = λ x. slice_index (numbers_of claims).ages x in
          if_some _ _ (emission t (events past) e.1)
          (λ x. younger t x ((old x + 1) * clock.longest) (oldest_of t ppm (old x) * 1000000) past e (omega (arith, (ages_are t ppm (old x)).covers, ap (λ k. (old x + 1) * k) drifts.longest)))
          (hold past rest e at).young;
    }
