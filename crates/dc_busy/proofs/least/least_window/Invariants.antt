use Rattle.std.proofs.Common.{ℕ, ◌-◌, ◌<◌, ◌≤◌}
use Rattle.dc_busy.specs.BusyWindow.{Closes}
use Rattle.dc_busy.proofs.least.least_window.Given as goal

abbrev pub invariant-loop-window : goal.invariant-loop-window
invariant-loop-window g l = record {
  some : 1 ≤ l.window;
  inside : l.window ≤ 100001;
  none : (v : ℕ) → 1 ≤ v → v < l.window → ¬ Closes (g.A.ArrivalBound.cap l.arrivals) (g.S.ServiceBound.floor l.service) v;
}

abbrev pub decreases-loop-window : goal.decreases-loop-window
decreases-loop-window g l = 100001 - l.window

abbrev pub ghosts-first_closing : goal.ghosts-first_closing
ghosts-first_closing g a = record { floor = g.S.ServiceBound.floor a.service.now; window = 100000 }
