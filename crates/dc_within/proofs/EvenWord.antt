-- An even word may follow any admissible run: it is no arrival, no step, and ends no tick.
use Rattle.std.proofs.Common.{◌≡◌, ℕ, ◌<◌, false, List, [], ◌∷◌, ◌++◌, length, refl, sym, ap, subst}
use Rattle.std.proofs.lemmas.List.Elements.{All-push}
use Rattle.dc_bound.specs.Early.{HoldsCap}
use Rattle.dc_bound.specs.Window.{HoldsWire}
use Rattle.dc_event.specs.Admissible.{IsNumbered, KeepsSources, IsAdmissible}
use Rattle.dc_event.specs.Offers.{only, cap_of}
use Rattle.dc_event.specs.declared.event.Event.{Event}
use Rattle.dc_event.specs.declared.event.Event.TheVariants.{Arrive}
use Rattle.dc_event.specs.lemmas.Arrivals.{arrivals-other, bus_arrivals-other, even-none}
use Rattle.dc_event.specs.lemmas.BudgetsPush.{keeps-nothing}
use Rattle.dc_tables.specs.TableRows.{TableRows, bus_row, stream_row}
use Rattle.dc_word.specs.Word.{ones_in, is_odd}

none_odd : is_odd 0 ≡ false
unfolding ones_in is_odd
none_odd = refl

-- the word of no ones comes to the bus
abbrev pub even_word : ℕ → Event
even_word b = Arrive 0 b

module _ (t : TableRows) (b : ℕ) (there : b < length t.buses) (run : List Event) (keeps : IsAdmissible t run) where
  sources : KeepsSources t (run ++ even_word b ∷ [])
  sources = record {
    streams_rest = λ s h free. subst (λ ts. HoldsCap (cap_of t s) ts) (sym (arrivals-other t s run (even_word b) (ap (only s) (even-none t run b 0 none_odd (stream_row t s).bus)))) (keeps.sources.streams_rest s h free);
    wires_rest = λ a h free. subst (λ ts. HoldsWire t.tick_us (bus_row t a).spacing ts) (sym (bus_arrivals-other t a run (even_word b) (even-none t run b 0 none_odd a))) (keeps.sources.wires_rest a h free);
  }

  pub even_word-follows : IsAdmissible t (run ++ even_word b ∷ [])
  even_word-follows = record {
    numbers = All-push (IsNumbered t) run (even_word b) keeps.numbers there;
    sources = sources;
    budgets = keeps-nothing t run (even_word b) keeps.budgets refl (λ r. refl) (λ o. refl);
  }
