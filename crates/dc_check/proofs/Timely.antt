-- Entries leave in time, by the queue law.
use Rattle.std.proofs.Common.{◌≡◌, ℕ, zero, suc, ◌-◌, ◌*◌, ◌/◌, ◌≤◌, ◌<◌, List, [], ◌∷◌, ◌++◌, length, get_or, Option, refl, ap, ◌∙◌, arith, append_assoc}
use Rattle.std.proofs.lemmas.List.{append-nil}
use Rattle.dc_bound.specs.lemmas.Dues.{IsDueCount}
use Rattle.dc_bound.specs.Moves.{Move, move_ends, tag_of, ticks_in, visits, entries, passed}
use Rattle.dc_bound.specs.lemmas.Queued.{passed-le}
use Rattle.dc_bound.specs.Run.{ticks, picks, stamped}
use Rattle.dc_bound.specs.lemmas.Segments.{ticks-append}
use Rattle.dc_bound.specs.Window.{HoldAtLeast, ticks_of}
use Rattle.dc_busy.specs.BusyWindow.{Closes, DelayBounded, QueueDelay}
use Rattle.dc_check.proofs.Intervals.{IsTimely}
use Rattle.dc_check.proofs.OutputMoves.{AreOutputMoves, CountsDues, sent_of, moves-begin, moves-ticks, moves-serve, moves-came, moves-due, moves-passed}
use Rattle.dc_check.proofs.OutputMoves.Sees.{ended, turned, idle}

-- the ticks of these entries are the first due ticks
abbrev pub AreDue : (ℕ → ℕ) → List (ℕ × ℕ) → Type 0
AreDue due xs = (k : ℕ) → k < length (ticks_of xs) → get_or (ticks_of xs) k 0 ≡ due k

-- a beginning of a run that ends just so many ticks
pub split_ticks : {E : Type 0} (ends : E → ℕ) → ((e : E) → ends e ≤ 1) → (es : List E) (k : ℕ) → k ≤ ticks ends es → (a : List E) × (b : List E) × (es ≡ a ++ b) × (ticks ends a ≡ k)
unfolding ticks
split_ticks ends one [] k h = ([], [], refl, omega arith)
split_ticks ends one (e ∷ es) zero h = ([], e ∷ es, refl, refl)
split_ticks ends one (e ∷ es) (suc k) h =
    let r = split_ticks ends one es (suc k - ends e) (omega arith) in
    (e ∷ r.0, r.1, ap (λ z. e ∷ z) r.2, omega (arith, r.3, one e))

no_visits : visits [] ≡ 0
unfolding picks
no_visits = refl

module _ {E X : Type 0} (ends : E → ℕ) (send : E → Option X) (dues : ℕ → List (ℕ × ℕ)) (move : List E → E → List Move) (moves : List E → List Move) (is : AreOutputMoves ends send dues move moves)
    (due count : ℕ → ℕ) (counted : IsDueCount due count) (counts : CountsDues dues count) where
  ends_small : (e : E) → ends e ≤ 1
  ends_small e = elim (is.sees [] e) [ ended m a b ↦ omega arith | turned m a b ↦ omega arith | idle m a b ↦ omega arith ]

  -- what has been sent was due
  pub sent_due : (run : List E) (n : ℕ) → n < sent_of ends send count run → due n ≤ ticks ends run
  sent_due run n h =
      (counted n (ticks ends run)).0 (omega (
        arith,
        moves-passed ends send dues move moves is due count counted counts run,
        moves-came ends send dues move moves is due count counted counts run,
        passed-le (moves run) [],
        ap passed (append-nil (moves run)),
        no_visits,
      ))

  -- where the window closes and the delays are bounded, sends that keep the pace are in time
  pub timely : (cap : ℕ → ℕ) (allows : List (ℕ × ℕ) → Type 0) (steps within window delay : ℕ) →
      QueueDelay cap allows (λ d. steps * (d / within)) window delay → ((xs : List (ℕ × ℕ)) → AreDue due xs → allows xs) →
      Closes cap (λ d. steps * (d / within)) window → DelayBounded cap (λ d. steps * (d / within)) window delay →
      (run : List E) → HoldAtLeast steps within (ticks ends run) (ticks_of (stamped ends send 0 run)) → IsTimely (ticks ends) (sent_of ends send count) due delay run
  timely cap allows steps within window delay law ok closes delays run paced = record {
    never_early = λ past rest e n h. sent_due past n h;
    in_time = λ past rest e n late.
        let cut = split_ticks ends ends_small past (due n) (omega arith) in
        let mid = moves-begin ends send dues move moves is cut.0 cut.1 in
        let post = moves-begin ends send dues move moves is past rest in
        let here : moves past ≡ moves cut.0 ++ mid.0 = ap moves cut.2 ∙ mid.1 in
        let all : moves run ≡ moves cut.0 ++ (mid.0 ++ post.0) = ap moves e ∙ post.1 ∙ ap (λ z. z ++ post.0) here ∙ append_assoc (moves cut.0) mid.0 post.0 in
        let long : delay < ticks_in mid.0 =
        omega (
          arith,
          moves-ticks ends send dues move moves is past,
          moves-ticks ends send dues move moves is cut.0,
          ap ticks_in here,
          ticks-append move_ends tag_of (moves cut.0) mid.0,
          cut.3,
        ) in
        let due_now = moves-due ends send dues move moves is due count counted counts run in
        let allowed : allows (entries (moves run)) = ok (entries (moves run)) (λ k l. due_now.1 k (omega (arith, due_now.0))) in
        let came = law closes delays (moves run) allowed (moves-serve ends send dues move moves is steps within run paced) (moves cut.0) mid.0 post.0 all long in
        omega (
          arith,
          came,
          moves-came ends send dues move moves is due count counted counts cut.0,
          moves-passed ends send dues move moves is due count counted counts past,
          ap passed here,
          ap count cut.3,
          (counted n (due n)).1 (omega arith),
        );
  }
