use Rattle.std.proofs.Common.{ℕ, ◌≡◌, ◌<◌, List, get_or}
use Rattle.dc_event.specs.Time.{tick_after}
use Rattle.dc_event.specs.Alive.{IsAlive, AreUsable}
use Rattle.dc_event.specs.declared.event.Event.{Event}
use Rattle.dc_oracle.specs.Arrivals.{Follows}
use Rattle.dc_oracle.proofs.sent_word.any_good.Given as goal

abbrev pub invariant-loop-source : goal.invariant-loop-source
invariant-loop-source l =
    (now : List Event) → Follows l.tables l.arrivals now → l.tick ≡ tick_after now → (k : ℕ) → k < l.source-index → IsAlive l.tables l.label (get_or l.source-items k 0) now → AreUsable l.tables l.label (get_or l.source-items k 0) now → ⊥
