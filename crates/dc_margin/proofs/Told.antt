-- A margin that is told, by the peak that was found.
use Rattle.std.proofs.Common.{◌≡◌, ℕ, Bool, true, false, ℤ, Option, Some, None, refl, ap, ◌∙◌}
use Rattle.std.specs.Prelude.{nat_le, if◌then◌else◌}
use Rattle.std.proofs.Math.Path.{fun_ext}
use Rattle.dc_cert.specs.Bounds.{InputBound, OutputBound}
use Rattle.dc_margin.specs.Margins.{room, told, margin_by, by_window, backlog_margin_of, delay_margin_of, input_margins_given, output_margins_given}
use Rattle.dc_margin.specs.Peaks.{IsPeak, waiting, needed}
use Rattle.dc_margin.specs.lemmas.Heights.{peak-is}
use Rattle.dc_margin.specs.declared.margin.Margin.{Margin}
use Rattle.dc_margin.specs.declared.margin.Decider.TheVariants.{Window}

-- where the test holds it is told
pub told-there : (b : Bool) (m : Margin) → b ≡ true → Some m ≡ told b m
told-there true m h = refl
told-there false m h = absurd cc

module _ (cap floor : ℕ → ℕ) (window : ℕ) where
  pub backlog-told : (backlog w h : ℕ) (slack : ℤ) → slack ≡ room backlog h → IsPeak (waiting cap floor) window w h → margin_by slack (Window w) ≡ backlog_margin_of cap floor window backlog
  unfolding backlog_margin_of
  backlog-told backlog w h slack is p =
      let at = peak-is (waiting cap floor) window w h p in
      ap (λ z. margin_by z (Window w)) (is ∙ ap (room backlog) p.height)
      ∙ ap (λ v. margin_by (room backlog (waiting cap floor v)) (Window v)) at

  pub delay-told : (delay w h : ℕ) (slack : Option ℤ) → slack ≡ (if nat_le h 100000 then Some (room delay h) else None) → IsPeak (needed cap floor) window w h →
      by_window slack w ≡ delay_margin_of cap floor window delay
  unfolding delay_margin_of
  delay-told delay w h slack is p =
      let at = peak-is (needed cap floor) window w h p in
      ap (λ s. by_window s w) (is ∙ ap (λ n. if nat_le n 100000 then Some (room delay n) else None) p.height)
      ∙ ap (λ v. by_window (if nat_le (needed cap floor v) 100000 then Some (room delay (needed cap floor v)) else None) v) at

-- ---- the same numbers and bounds

pub input-same : (cap own_cap : ℕ → ℕ) → ((d : ℕ) → cap d ≡ own_cap d) → (floor own_floor : ℕ → ℕ) → ((d : ℕ) → floor d ≡ own_floor d) →
    (queue own_queue : ℕ) → queue ≡ own_queue → (n own : InputBound) → n ≡ own →
    input_margins_given cap floor queue n ≡ input_margins_given own_cap own_floor own_queue own
input-same cap own_cap same_cap floor own_floor same_floor queue own_queue same_queue n own same =
    ap (λ f. input_margins_given f floor queue n) (fun_ext same_cap)
    ∙ ap (λ f. input_margins_given own_cap f queue n) (fun_ext same_floor)
    ∙ ap (λ q. input_margins_given own_cap own_floor q n) same_queue
    ∙ ap (input_margins_given own_cap own_floor own_queue) same

pub output-same : (cap own_cap : ℕ → ℕ) → ((d : ℕ) → cap d ≡ own_cap d) → (floor own_floor : ℕ → ℕ) → ((d : ℕ) → floor d ≡ own_floor d) →
    (n own : OutputBound) → n ≡ own → output_margins_given cap floor n ≡ output_margins_given own_cap own_floor own
output-same cap own_cap same_cap floor own_floor same_floor n own same =
    ap (λ f. output_margins_given f floor n) (fun_ext same_cap)
    ∙ ap (λ f. output_margins_given own_cap f n) (fun_ext same_floor)
    ∙ ap (output_margins_given own_cap own_floor) same
