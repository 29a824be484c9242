-- Arrivals by ticks and by times.
use Rattle.std.proofs.Common.{◌≡◌, ℕ, Option, Some, None, List, [], ◌∷◌, ◌++◌, refl, sym, ap, ◌∙◌, subst}
use Rattle.std.proofs.lemmas.List.{append-nil}
use Rattle.dc_bound.specs.Window.{HoldsWire, ticks_of}
use Rattle.dc_bound.specs.Run.{stamp}
use Rattle.dc_bound.specs.Early.{HoldsCap}
use Rattle.dc_bound.specs.lemmas.FirstPlaces.{snoc_induction}
use Rattle.dc_bound.specs.lemmas.Steps.{ticks_of-append}
use Rattle.dc_spans.specs.Spans.{Clock, KeepsPace}
use Rattle.dc_spans.specs.lemmas.Scaling.{stream-scaled, wires-scaled}
use Rattle.dc_tables.specs.TableRows.{TableRows, AreValid, bus_row, stream_row}
use Rattle.dc_event.specs.Time.{tick_after}
use Rattle.dc_event.specs.Offers.{cap_of}
use Rattle.dc_event.specs.Buses.{arrivals, bus_arrivals, arrival_of}
use Rattle.dc_event.specs.Admissible.{KeepsSources}
use Rattle.dc_event.specs.lemmas.Arrivals.{with_one, ticks-more, bus_ticks-more, arrivals-nil, bus_arrivals-nil}
use Rattle.dc_event.specs.declared.event.Event.{Event}
use Rattle.dc_time.specs.Timed.{events, InTheirTicks, timed, ticked}
use Rattle.dc_time.specs.Intervals.{Intervals, FitsClock}
use Rattle.dc_time.specs.Sources.{stream_arrival, KeepsSourcesInTime}
use Rattle.dc_time.specs.lemmas.TimedRuns.{ticked-nil, ticked-push, ticked-timed}

-- the ticks of what is picked, one more event
pub more-picked : (f : List Event → Event → Option ℕ) (run : List Event) (e : Event) → ticks_of (ticked f (run ++ e ∷ [])) ≡ with_one (tick_after run) (f run e) (ticks_of (ticked f run))
more-picked f run e = ap (λ (z : List (ℕ × ℕ)). ticks_of z) (ticked-push f run e) ∙ ticks_of-append (ticked f run) (stamp (tick_after run) (f run e) []) ∙ with (f run e)
  where
    with : (o : Option ℕ) → ticks_of (ticked f run) ++ ticks_of (stamp (tick_after run) o []) ≡ with_one (tick_after run) o (ticks_of (ticked f run))
    with None = append-nil (ticks_of (ticked f run))
    with (Some x) = refl

pub nothing-picked : (f : List Event → Event → Option ℕ) → ticks_of (ticked f []) ≡ []
nothing-picked f = ap (λ (z : List (ℕ × ℕ)). ticks_of z) (ticked-nil f)

pub arrivals-picked : (t : TableRows) (s : ℕ) (run : List Event) → ticks_of (arrivals t s run) ≡ ticks_of (ticked (stream_arrival t s) run)
arrivals-picked t s run =
    snoc_induction (λ run. ticks_of (arrivals t s run) ≡ ticks_of (ticked (stream_arrival t s) run)) (arrivals-nil t s ∙ sym (nothing-picked (stream_arrival t s)))
    (λ run e rec. ticks-more t s run e ∙ ap (λ z. with_one (tick_after run) (stream_arrival t s run e) z) rec ∙ sym (more-picked (stream_arrival t s) run e)) run

pub bus_arrivals-picked : (t : TableRows) (b : ℕ) (run : List Event) → ticks_of (bus_arrivals t b run) ≡ ticks_of (ticked (arrival_of t b) run)
bus_arrivals-picked t b run =
    snoc_induction (λ run. ticks_of (bus_arrivals t b run) ≡ ticks_of (ticked (arrival_of t b) run)) (bus_arrivals-nil t b ∙ sym (nothing-picked (arrival_of t b)))
    (λ run e rec. bus_ticks-more t b run e ∙ ap (λ z. with_one (tick_after run) (arrival_of t b run e) z) rec ∙ sym (more-picked (arrival_of t b) run e)) run

pub sources-keep_ticks : (t : TableRows) → AreValid t → (us : Intervals) (clock : Clock) → KeepsPace clock → FitsClock t us clock → (run : List (ℕ × Event)) → InTheirTicks clock run → KeepsSourcesInTime t us run → KeepsSources t (events run)
sources-keep_ticks t valid us clock paced fits run placed keeps = record {
  streams_rest = λ s there free.
      let same = ticked-timed (stream_arrival t s) (λ past. refl) clock run placed in
      let P : List ℕ → Type 0 = λ z. HoldsCap (cap_of t s) z in
      subst P (sym (arrivals-picked t s (events run)))
      (stream-scaled clock (us.stream_least s) (us.stream_jitter s) (stream_row t s).minimum (stream_row t s).jitter (ticked (stream_arrival t s) (events run)) (timed (stream_arrival t s) run) paced (valid.minimums s there) (fits.stream_minimums s there) (fits.stream_jitters s there) same (keeps.streams_rest s there free));
  wires_rest = λ b there free.
      let same = ticked-timed (arrival_of t b) (λ past. refl) clock run placed in
      let P : List ℕ → Type 0 = λ z. HoldsWire t.tick_us (bus_row t b).spacing z in
      subst P (sym (bus_arrivals-picked t b (events run)))
      (wires-scaled clock (us.spacing b) t.tick_us (bus_row t b).spacing (ticked (arrival_of t b) (events run)) (timed (arrival_of t b) run) paced (fits.spacings_some b there) (valid.spacings b there) (fits.spacings b there) same (keeps.wires_rest b there free));
}
