-- The run that a capture makes: its words, as (time, (bus, word)), in their ticks among the steps of the steady run.
use Rattle.std.specs.Prelude.{ℕ, suc, ◌-◌, ◌/◌, ◌==◌, Option, Some, None, List, [], ◌∷◌, ◌++◌, map, filter}
use Rattle.dc_tables.specs.TableRows.{TableRows}
use Rattle.dc_event.specs.Steady.{each_below, steady_tick}
use Rattle.dc_event.specs.declared.event.Event.{Event}
use Rattle.dc_event.specs.declared.event.Event.TheVariants.{Tick, Arrive, Route, Send}

-- the tick in which a time lies, where tick 0 begins at `from`
abbrev pub tick_at : (from tick_us time : ℕ) → ℕ
tick_at from tick_us time = (time - from) / tick_us

-- the event that a word is
abbrev pub arrive : ℕ × (ℕ × ℕ) → Event
arrive x = Arrive x.1.1 x.1.0

-- the words of tick k, in order
abbrev pub words_in : (from tick_us : ℕ) → List (ℕ × (ℕ × ℕ)) → ℕ → List Event
words_in from tick_us capture k = map arrive (filter (λ x. tick_at from tick_us x.0 == k) capture)

-- the events of tick k: its words, and then the steps of the steady run
abbrev pub traced_tick : TableRows → ℕ → List (ℕ × (ℕ × ℕ)) → ℕ → List Event
traced_tick t from capture k = words_in from t.tick_us capture k ++ steady_tick t k

-- the last time
abbrev pub last_of : ℕ → List (ℕ × (ℕ × ℕ)) → ℕ
last_of time [] = time
last_of time (x ∷ xs) = last_of x.0 xs

-- up to the tick of the last word; no tick, where there is no word
abbrev pub traced_ticks : (from tick_us : ℕ) → List (ℕ × (ℕ × ℕ)) → ℕ
traced_ticks from tick_us [] = 0
traced_ticks from tick_us (x ∷ xs) = suc (tick_at from tick_us (last_of x.0 xs))

unfoldable pub traced : TableRows → ℕ → List (ℕ × (ℕ × ℕ)) → List Event
traced t from capture = each_below (traced_tick t from capture) (traced_ticks from t.tick_us capture)

-- the word that an event brings, with its bus
abbrev pub brought : Event → Option (ℕ × ℕ)
brought Tick = None
brought (Arrive w b) = Some (b, w)
brought (Route r) = None
brought (Send o) = None
