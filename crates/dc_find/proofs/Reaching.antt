-- What is reached before a fault.
use Rattle.std.proofs.Common.{ℕ, ◌+◌, ◌<◌, ◌⊎◌, length, sym, subst, arith, inl, inr}
use Rattle.std.proofs.lemmas.Bool.{cases_lt}
use Rattle.std.proofs.lemmas.List.{get_or-map}
use Rattle.dc_cert.specs.Bounds.{input_numbers, output_numbers}
use Rattle.dc_cert.specs.NamedRows.{NamedRows}
use Rattle.dc_find.proofs.Claimed.{no_input, no_output, are-named, label-row}
use Rattle.dc_find.specs.Found.{IsFound, AreFoundInputs, AreFoundOutputs, IsInputFound, IsOutputFound}
use Rattle.dc_find.specs.Reached.{jobs_reached, CloseBelow, IsReached}
use Rattle.dc_find.specs.Rows.{AreLabelRows}
use Rattle.dc_find.specs.Ways.{NeverCloses, IsFirstInTheWay}
use Rattle.dc_find.specs.declared.fault.FindFault.{FindFault}
use Rattle.dc_find.specs.declared.fault.FindFault.TheVariants.{WindowNeverCloses, QueueTooShort, LabelRule, Memory}
use Rattle.dc_find.specs.declared.fault.Queue.TheVariants.{Input, Output}
use Rattle.dc_tables.specs.Named.{HaveNames}
use Rattle.dc_tables.specs.TableRows.{TableRows, bus_cap, bus_floor, output_cap, output_floor}

module _ (t : TableRows) where
  inputs-close : (fault : FindFault) → IsFirstInTheWay t fault → (b : ℕ) → b < length t.buses → b < jobs_reached t fault → ¬ NeverCloses (bus_cap t b) (bus_floor t b)
  inputs-close (WindowNeverCloses (Input i)) f b there l never = f.first (WindowNeverCloses (Input b)) (inl l) (there, never)
  inputs-close (WindowNeverCloses (Output o)) f b there l never = f.first (WindowNeverCloses (Input b)) (inl l) (there, never)
  inputs-close (QueueTooShort i) f b there l never =
      elim (cases_lt b i) [
        | inl before ↦ f.first (WindowNeverCloses (Input b)) (inl before) (there, never)
        | inr g ↦ f.first (WindowNeverCloses (Input b)) (inr (omega (arith, l, g), omega arith)) (there, never)
      ]
  inputs-close (LabelRule x condition) f b there l never = f.first (WindowNeverCloses (Input b)) (inl (omega (arith, there))) (there, never)
  inputs-close Memory f b there l never = absurd (omega (arith, l))

  outputs-close : (fault : FindFault) → IsFirstInTheWay t fault → (o : ℕ) → o < length t.outputs → length t.buses + o < jobs_reached t fault → ¬ NeverCloses (output_cap t o) (output_floor t o)
  outputs-close (WindowNeverCloses (Input i)) f o there l never = absurd (omega (arith, l, f.stands.0))
  outputs-close (WindowNeverCloses (Output p)) f o there l never = f.first (WindowNeverCloses (Output o)) (inl l) (there, never)
  outputs-close (QueueTooShort i) f o there l never = absurd (omega (arith, l, f.stands.0))
  outputs-close (LabelRule x condition) f o there l never = f.first (WindowNeverCloses (Output o)) (inl (omega (arith, there))) (there, never)
  outputs-close Memory f o there l never = absurd (omega (arith, l))

  -- a window closes in each of the jobs before the first thing that stands in the way
  pub close-below : (fault : FindFault) → IsFirstInTheWay t fault → CloseBelow t (jobs_reached t fault)
  close-below fault f = record { inputs = inputs-close fault f; outputs = outputs-close fault f }

  -- the rows of what is found, as a certificate
  pub found : (claims : NamedRows) → HaveNames t → AreFoundInputs t claims.inputs → AreFoundOutputs t claims.outputs → AreLabelRows t claims.inputs claims.labels → IsFound t claims
  found claims has_names inputs outputs labels = record {
    named = are-named t claims has_names inputs.count (λ k d l. (inputs.each k d l).named) outputs.count (λ k d l. (outputs.each k d l).named) labels.count (λ k d l. (labels.each k d l).named);
    inputs = λ b there.
        let inside : b < length claims.inputs = omega (arith, inputs.count, there) in
        subst (IsInputFound t b) (sym (get_or-map input_numbers claims.inputs b no_input (record { window = 0; backlog = 0; delay = 0 }) inside)) (inputs.each b no_input inside).found;
    outputs = λ o there.
        let inside : o < length claims.outputs = omega (arith, outputs.count, there) in
        subst (IsOutputFound t o) (sym (get_or-map output_numbers claims.outputs o no_output (record { window = 0; delay = 0 }) inside)) (outputs.each o no_output inside).found;
    labels = label-row t claims labels;
  }

  -- what is found where a window closes
  only : {P Q R : Type 0} → P ⊎ (Q × R) → ¬ Q → P
  only (inl p) not = p
  only (inr both) not = absurd (not both.0)

  -- the first jobs, in each of which a window closes, have their least numbers
  pub reached : (jobs : ℕ) (claims : NamedRows) → CloseBelow t jobs → IsFound t claims → IsReached t jobs claims
  reached jobs claims closes f = record {
    named = f.named;
    inputs = λ b there below. only (f.inputs b there) (closes.inputs b there below);
    outputs = λ o there below. only (f.outputs o there) (closes.outputs o there below);
    labels = f.labels;
  }
