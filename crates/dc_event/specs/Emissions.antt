-- The emissions of an output label.
use Rattle.std.specs.Prelude.{ℕ, cond, ◌==◌, nat_lt, Option, Some, None, List, [], ◌∷◌, ◌++◌}
use Rattle.std.specs.List.{flat_map}
use Rattle.dc_bound.specs.Places.{each_place}
use Rattle.dc_tables.specs.TableRows.{TableRows}
use Rattle.dc_event.specs.Time.{tick_after}
use Rattle.dc_event.specs.Outputs.{entry_label, sent}
use Rattle.dc_event.specs.declared.event.Event.{Event}
use Rattle.dc_event.specs.declared.event.Event.TheVariants.{Tick, Arrive, Route, Send}

-- the number of the label that the event emits, after the events of past
unfoldable pub emission : TableRows → List Event → Event → Option ℕ
emission t past Tick = None
emission t past (Arrive w b) = None
emission t past (Route r) = None
emission t past (Send o) = cond (nat_lt (sent t o past) (sent t o (past ++ Send o ∷ []))) (Some (entry_label t o (sent t o past))) None

-- the tick, where it is this label that is emitted
abbrev pub tick_if : ℕ → ℕ → Option ℕ → List ℕ
tick_if x now None = []
tick_if x now (Some y) = cond (y == x) (now ∷ []) []

-- the ticks in which the label was emitted, in order
unfoldable pub emission_ticks : TableRows → ℕ → List Event → List ℕ
emission_ticks t x run = flat_map (λ ts. ts) (each_place (λ past e. tick_if x (tick_after past) (emission t past e)) run)

-- the last of some ticks, 0 where there is none
abbrev pub last_or_zero : List ℕ → ℕ
last_or_zero [] = 0
last_or_zero (a ∷ []) = a
last_or_zero (a ∷ b ∷ ts) = last_or_zero (b ∷ ts)
