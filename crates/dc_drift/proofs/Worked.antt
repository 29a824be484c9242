-- The numbers of the small tables.
use Rattle.std.proofs.Common.{ℕ, zero, suc, ◌<◌, refl, arith}
use Rattle.dc_check.specs.Small.{small_tables}
use Rattle.dc_drift.specs.Drift.{drifting_intervals}
use Rattle.dc_drift.specs.Laws.{AreSame, small_at_50, small_at_1000}
use Rattle.dc_in_time.specs.Oldest.{small_intervals}

-- what holds of the first number holds of each below 1; of the first two, of each below 2
only_first : (P : ℕ → Type 0) → P 0 → (k : ℕ) → k < 1 → P k
only_first P p zero h = p
only_first P p (suc k) h = absurd (omega arith)

first_two : (P : ℕ → Type 0) → P 0 → P 1 → (k : ℕ) → k < 2 → P k
first_two P p q zero h = p
first_two P p q (suc zero) h = q
first_two P p q (suc (suc k)) h = absurd (omega arith)

pub none : AreSame small_tables (drifting_intervals small_tables 0) small_intervals
none = record {
  spacings = only_first _ refl;
  stream_leasts = first_two _ refl refl;
  stream_mosts = first_two _ refl refl;
  stream_jitters = first_two _ refl refl;
  label_leasts = only_first _ refl;
  label_mosts = only_first _ refl;
}

pub fifty : AreSame small_tables (drifting_intervals small_tables 50) small_at_50
fifty = record {
  spacings = only_first _ refl;
  stream_leasts = first_two _ refl refl;
  stream_mosts = first_two _ refl refl;
  stream_jitters = first_two _ refl refl;
  label_leasts = only_first _ refl;
  label_mosts = only_first _ refl;
}

pub thousand : AreSame small_tables (drifting_intervals small_tables 1000) small_at_1000
thousand = record {
  spacings = only_first _ refl;
  stream_leasts = first_two _ refl refl;
  stream_mosts = first_two _ refl refl;
  stream_jitters = first_two _ refl refl;
  label_leasts = only_first _ refl;
  label_mosts = only_first _ refl;
}
