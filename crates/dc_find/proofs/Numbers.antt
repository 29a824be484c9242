-- The least numbers of a queue, as those of the tables.
use Rattle.std.proofs.Common.{◌≡◌, ℕ, ◌+◌, ◌-◌, ◌≤◌, ◌<◌, length, Option, Some, None, refl, sym, subst, arith}
use Rattle.std.specs.Prelude.{IfSome, MatchOption}
use Rattle.dc_busy.specs.BusyWindow.{BacklogBounded, DelayBounded}
use Rattle.dc_busy.specs.Least.{IsLeast, IsLeastUpToLongest, ClosesWithin}
use Rattle.dc_busy.specs.declared.numbers.LeastNumbers.{LeastNumbers}
use Rattle.dc_busy.specs.lemmas.Least.{shorter-backlog, shorter-delay}
use Rattle.dc_check.specs.Accepts.{WindowCloses, DelayHolds}
use Rattle.dc_find.specs.Rows.{AreLeastTimes, IsLeastInput, IsLeastOutput}
use Rattle.dc_find.specs.Ways.{NeverCloses, NeverFits, StandsInTheWay, job_of, rank_of, IsFirstOfJob}
use Rattle.dc_find.specs.declared.fault.FindFault.{FindFault}
use Rattle.dc_find.specs.declared.fault.FindFault.TheVariants.{WindowNeverCloses, QueueTooShort, LabelRule, Memory}
use Rattle.dc_find.specs.declared.fault.Queue.TheVariants.{Input, Output}
use Rattle.dc_tables.specs.TableRows.{TableRows, bus_row, bus_cap, bus_floor, output_cap, output_floor}

-- what the searches find
pub least-times : (cap floor : ℕ → ℕ) (window delay : ℕ) → IsLeastUpToLongest (ClosesWithin cap floor) (Some window) → IsLeastUpToLongest (DelayBounded cap floor window) (Some delay) → AreLeastTimes cap floor window delay
least-times cap floor window delay w d = record {
  closes = record { some = w.1.0.0; most = w.0; closes = w.1.0.1 };
  holds = record { short = d.0; bounded = d.1.0 };
  least_window = λ v ok. w.1.1 v (ok.some, ok.closes);
  least_delay = λ v e ok holds. d.1.1 e (shorter-delay cap floor window v e (w.1.1 v (ok.some, ok.closes)) holds.bounded);
}

-- what one walk finds
pub times-of : (cap floor : ℕ → ℕ) (found : Option LeastNumbers) → MatchOption found ((w : ℕ) → w ≤ 100000 → ¬ ClosesWithin cap floor w) (λ n. (n.window ≤ 100000) × IsLeast (ClosesWithin cap floor) n.window) →
    IfSome found (λ n. IsLeastUpToLongest (DelayBounded cap floor n.window) (Some n.delay)) → MatchOption found (NeverCloses cap floor) (λ n. AreLeastTimes cap floor n.window n.delay)
times-of cap floor None never delay = λ window ok. never window ok.most (ok.some, ok.closes)
times-of cap floor (Some n) window delay = least-times cap floor n.window n.delay window delay

-- two bounds and two floors that agree
module _ (a s cap floor : ℕ → ℕ) (same_cap : (d : ℕ) → a d ≡ cap d) (same_floor : (d : ℕ) → s d ≡ floor d) where
  pub window-there : (window : ℕ) → WindowCloses a s window → WindowCloses cap floor window
  window-there window ok = record { some = ok.some; most = ok.most; closes = omega (arith, ok.closes, same_cap window, same_floor (window - 1)) }

  pub window-back : (window : ℕ) → WindowCloses cap floor window → WindowCloses a s window
  window-back window ok = record { some = ok.some; most = ok.most; closes = omega (arith, ok.closes, same_cap window, same_floor (window - 1)) }

  pub backlog-there : (window backlog : ℕ) → BacklogBounded a s window backlog → BacklogBounded cap floor window backlog
  backlog-there window backlog h w some inside = omega (arith, h w some inside, same_cap w, same_floor (w - 2))

  pub backlog-back : (window backlog : ℕ) → BacklogBounded cap floor window backlog → BacklogBounded a s window backlog
  backlog-back window backlog h w some inside = omega (arith, h w some inside, same_cap w, same_floor (w - 2))

  pub delay-there : (window delay : ℕ) → DelayHolds a s window delay → DelayHolds cap floor window delay
  delay-there window delay ok = record { short = ok.short; bounded = λ w some inside. omega (arith, ok.bounded w some inside, same_cap w, same_floor (w - 1 + delay)) }

  pub delay-back : (window delay : ℕ) → DelayHolds cap floor window delay → DelayHolds a s window delay
  delay-back window delay ok = record { short = ok.short; bounded = λ w some inside. omega (arith, ok.bounded w some inside, same_cap w, same_floor (w - 1 + delay)) }

  pub times-there : (window delay : ℕ) → AreLeastTimes a s window delay → AreLeastTimes cap floor window delay
  times-there window delay times = record {
    closes = window-there window times.closes;
    holds = delay-there window delay times.holds;
    least_window = λ w ok. times.least_window w (window-back w ok);
    least_delay = λ w d ok holds. times.least_delay w d (window-back w ok) (delay-back w d holds);
  }

  pub most-there : (window backlog : ℕ) → IsLeast (BacklogBounded a s window) backlog → IsLeast (BacklogBounded cap floor window) backlog
  most-there window backlog most = (backlog-there window backlog most.0, λ m bounded. most.1 m (backlog-back window m bounded))

-- no more wait than may come in the window, and no more come than are taken in it
pub waiting-few : (a s : ℕ → ℕ) (window backlog limit : ℕ) → ((d e : ℕ) → d ≤ e → a d ≤ a e) → WindowCloses a s window → IsLeast (BacklogBounded a s window) backlog → s (window - 1) ≤ limit → backlog ≤ limit
waiting-few a s window backlog limit grows closes most few = most.1 limit (λ w some inside. omega (arith, grows w window inside, closes.closes, few))

-- an input's
pub input-least : (t : TableRows) (b : ℕ) (a s : ℕ → ℕ) → ((d : ℕ) → a d ≡ bus_cap t b d) → ((d : ℕ) → s d ≡ bus_floor t b d) →
    (window backlog delay : ℕ) → AreLeastTimes a s window delay → IsLeast (BacklogBounded a s window) backlog → backlog ≤ (bus_row t b).queue →
    IsLeastInput t b (record { window = window; backlog = backlog; delay = delay })
input-least t b a s same_cap same_floor window backlog delay times most fits = record {
  accepted = record {
    window = window-there a s (bus_cap t b) (bus_floor t b) same_cap same_floor window times.closes;
    backlog = record { bounded = backlog-there a s (bus_cap t b) (bus_floor t b) same_cap same_floor window backlog most.0; fits = fits };
    delay = delay-there a s (bus_cap t b) (bus_floor t b) same_cap same_floor window delay times.holds;
  };
  least = λ other ok.
      let closes = window-back a s (bus_cap t b) (bus_floor t b) same_cap same_floor other.window ok.window in
      record {
        window = times.least_window other.window closes;
        backlog = most.1 other.backlog (shorter-backlog a s window other.window other.backlog (times.least_window other.window closes)
            (backlog-back a s (bus_cap t b) (bus_floor t b) same_cap same_floor other.window other.backlog ok.backlog.bounded));
        delay = times.least_delay other.window other.delay closes (delay-back a s (bus_cap t b) (bus_floor t b) same_cap same_floor other.window other.delay ok.delay);
      };
}

-- where a window closes, nothing stands in the way before the queue
before-queue : (t : TableRows) (b window : ℕ) → WindowCloses (bus_cap t b) (bus_floor t b) window → b < length t.buses →
    (other : FindFault) → job_of t other ≡ b → rank_of other < 1 → ¬ StandsInTheWay t other
before-queue t b window closes there (WindowNeverCloses (Input i)) at before stands = stands.1 window (subst (λ k. WindowCloses (bus_cap t k) (bus_floor t k) window) (sym at) closes)
before-queue t b window closes there (WindowNeverCloses (Output o)) at before stands = absurd (omega (arith, at))
before-queue t b window closes there (QueueTooShort i) at before stands = absurd (omega (arith, before))
before-queue t b window closes there (LabelRule x condition) at before stands = absurd (omega (arith, at))
before-queue t b window closes there Memory at before stands = stands

-- no room for the least backlog is no room at all
pub input-never_fits : (t : TableRows) (b : ℕ) (a s : ℕ → ℕ) → ((d : ℕ) → a d ≡ bus_cap t b d) → ((d : ℕ) → s d ≡ bus_floor t b d) →
    (window backlog delay : ℕ) → AreLeastTimes a s window delay → IsLeast (BacklogBounded a s window) backlog → (bus_row t b).queue < backlog → NeverFits t b
input-never_fits t b a s same_cap same_floor window backlog delay times most over w k closes fits =
    let there = window-back a s (bus_cap t b) (bus_floor t b) same_cap same_floor w closes in
    omega (arith, over, fits.fits, most.1 k (shorter-backlog a s window w k (times.least_window w there) (backlog-back a s (bus_cap t b) (bus_floor t b) same_cap same_floor w k fits.bounded)))

-- an output's
pub output-least : (t : TableRows) (o : ℕ) (a s : ℕ → ℕ) → ((d : ℕ) → a d ≡ output_cap t o d) → ((d : ℕ) → s d ≡ output_floor t o d) →
    (window delay : ℕ) → AreLeastTimes a s window delay → IsLeastOutput t o (record { window = window; delay = delay })
output-least t o a s same_cap same_floor window delay times = record {
  accepted = record {
    window = window-there a s (output_cap t o) (output_floor t o) same_cap same_floor window times.closes;
    delay = delay-there a s (output_cap t o) (output_floor t o) same_cap same_floor window delay times.holds;
  };
  least = λ other ok.
      let closes = window-back a s (output_cap t o) (output_floor t o) same_cap same_floor other.window ok.window in
      record {
        window = times.least_window other.window closes;
        delay = times.least_delay other.window other.delay closes (delay-back a s (output_cap t o) (output_floor t o) same_cap same_floor other.window other.delay ok.delay);
      };
}

-- it is the first fault of the input, since a window closes
pub input-first_fault : (t : TableRows) (b : ℕ) → b < length t.buses → (a s : ℕ → ℕ) → ((d : ℕ) → a d ≡ bus_cap t b d) → ((d : ℕ) → s d ≡ bus_floor t b d) →
    (window backlog delay : ℕ) → AreLeastTimes a s window delay → IsLeast (BacklogBounded a s window) backlog → (bus_row t b).queue < backlog → IsFirstOfJob t b (QueueTooShort b)
input-first_fault t b there a s same_cap same_floor window backlog delay times most over =
    let closes = window-there a s (bus_cap t b) (bus_floor t b) same_cap same_floor window times.closes in
    record {
      here = refl;
      stands = (there, input-never_fits t b a s same_cap same_floor window backlog delay times most over);
      first = λ other at before. before-queue t b window closes there other at before;
    }
