-- What the lines are of is there, and so are the sources that decide.
use Rattle.std.proofs.Common.{ℕ, zero, suc, ◌<◌, Bool, true, false, List, [], ◌∷◌, length, arith}
use Rattle.std.specs.Prelude.{IfSome}
use Rattle.std.specs.List.{All}
use Rattle.dc_cert.specs.Bounds.{CertificateRows, input_bound, output_bound}
use Rattle.dc_check.specs.Accepts.{source_delay}
use Rattle.dc_margin.proofs.Greatest.{of-greatest}
use Rattle.dc_margin.specs.Lines.{IsDeciderThere, IsLinePlaced, input_lines_of, output_lines_of, label_lines_of}
use Rattle.dc_margin.specs.Margins.{told, silence, slowest_source, rarest_source, input_margins_of, output_margins_of, label_margins_of, backlog_margin_of, delay_margin_of}
use Rattle.dc_margin.specs.declared.lines.MarginLine.{MarginLine}
use Rattle.dc_margin.specs.declared.margin.Margin.{Margin}
use Rattle.dc_tables.specs.TableRows.{TableRows, AreValid, label_row}

module _ (P : MarginLine → Type 0) where
  abbrev OfEach : List MarginLine → Type 0
  OfEach [] = Unit {0}
  OfEach (x ∷ xs) = P x × OfEach xs

  each-all : (xs : List MarginLine) → OfEach xs → All P xs
  each-all [] h k d l = absurd (omega arith)
  each-all (x ∷ xs) h zero d l = h.0
  each-all (x ∷ xs) h (suc k) d l = each-all xs h.1 k d (omega arith)

-- a margin that is told or not
told-there : (t : TableRows) (b : Bool) (m : Margin) → IsDeciderThere t m.decider → IfSome (told b m) (λ n. IsDeciderThere t n.decider)
told-there t true m h = h
told-there t false m h = tt

backlog-there : (t : TableRows) (cap floor : ℕ → ℕ) (window backlog : ℕ) → IsDeciderThere t (backlog_margin_of cap floor window backlog).decider
unfolding backlog_margin_of
backlog-there t cap floor window backlog = tt

delay-there : (t : TableRows) (cap floor : ℕ → ℕ) (window delay : ℕ) → IsDeciderThere t (delay_margin_of cap floor window delay).decider
unfolding delay_margin_of
delay-there t cap floor window delay = tt

module _ (t : TableRows) (c : CertificateRows) where
  pub input-placed : (b : ℕ) → b < length t.buses → All (IsLinePlaced t) (input_lines_of b (input_margins_of t b (input_bound c b)))
  input-placed b there =
      each-all (IsLinePlaced t) (input_lines_of b (input_margins_of t b (input_bound c b))) (record { there = there; decider = tt }, (record { there = there; decider = tt }, (record { there = there; decider = told-there t _ _ tt }, (record { there = there; decider = told-there t _ _ (backlog-there t _ _ _ _) }, (record { there = there; decider = tt }, (record { there = there; decider = told-there t _ _ (delay-there t _ _ _ _) }, tt))))))

  pub output-placed : (o : ℕ) → o < length t.outputs → All (IsLinePlaced t) (output_lines_of o (output_margins_of t o (output_bound c o)))
  output-placed o there =
      each-all (IsLinePlaced t) (output_lines_of o (output_margins_of t o (output_bound c o))) (record { there = there; decider = tt }, (record { there = there; decider = tt }, (record { there = there; decider = told-there t _ _ tt }, (record { there = there; decider = told-there t _ _ (delay-there t _ _ _ _) }, tt))))

  pub label-placed : AreValid t → (x : ℕ) → x < length t.labels → All (IsLinePlaced t) (label_lines_of x (label_margins_of t x c))
  label-placed v x there =
      let slow : slowest_source t c x < length t.streams = of-greatest (source_delay t c) (λ s. s < length t.streams) (label_row t x).sources (v.sources_some x there) (λ k l. v.sources_there x k there l) in
      let rare : rarest_source t c x < length t.streams = of-greatest (silence t c) (λ s. s < length t.streams) (label_row t x).sources (v.sources_some x there) (λ k l. v.sources_there x k there l) in
      each-all (IsLinePlaced t) (label_lines_of x (label_margins_of t x c)) (record { there = there; decider = told-there t _ _ tt }, (record { there = there; decider = told-there t _ _ tt }, (record { there = there; decider = told-there t _ _ slow }, (record { there = there; decider = tt }, (record { there = there; decider = told-there t _ _ rare }, tt)))))
