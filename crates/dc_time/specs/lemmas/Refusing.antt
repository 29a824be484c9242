-- A stream that keeps its cap loses no word to a policed bus.
use Rattle.std.proofs.Common.{◌≡◌, ℕ, ◌-◌, ◌<◌, false, cond, Option, suc, List, [], ◌∷◌, ◌++◌, length, refl, sym, ap, ◌∙◌, subst, arith, inl, inr}
use Rattle.std.proofs.lemmas.Bool.{cases_Bool}
use Rattle.dc_bound.specs.Window.{ticks_of}
use Rattle.dc_bound.specs.Early.{HoldsCap, jitter_cap, would_pass, admitted}
use Rattle.dc_bound.specs.lemmas.FirstPlaces.{snoc_induction}
use Rattle.dc_bound.specs.lemmas.Steps.{count_in-push}
use Rattle.dc_bound.specs.lemmas.Earliness.{fits, admitted-nil, admitted-push}
use Rattle.dc_spans.specs.Spans.{Clock, KeepsPace}
use Rattle.dc_spans.specs.lemmas.Scaling.{stream-scaled}
use Rattle.dc_tables.specs.TableRows.{TableRows, AreValid, stream_row, is_policed}
use Rattle.dc_event.specs.Time.{tick_after}
use Rattle.dc_event.specs.Offers.{offer_on, offered, cap_of}
use Rattle.dc_event.specs.Buses.{arrivals}
use Rattle.dc_event.specs.lemmas.Arrivals.{offered-more, offered-nil, arrivals-unpoliced, arrivals-policed}
use Rattle.dc_event.specs.declared.event.Event.{Event}
use Rattle.dc_time.specs.Timed.{events, InTheirTicks, timed, ticked}
use Rattle.dc_time.specs.Intervals.{Intervals, FitsClock}
use Rattle.dc_time.specs.Sources.{offer_times}
use Rattle.dc_time.specs.lemmas.TimedRuns.{ticked-timed}
use Rattle.dc_time.specs.lemmas.Arriving.{more-picked, nothing-picked}

-- of ticks that keep the cap all are admitted
admitted-all : (cap : ℕ → ℕ) (ts : List ℕ) → HoldsCap cap ts → admitted cap ts ≡ ts
admitted-all cap ts =
    snoc_induction (λ ts. HoldsCap cap ts → admitted cap ts ≡ ts) (λ _. admitted-nil cap) (λ ts t rec h.
    let before : HoldsCap cap ts = λ d u. omega (arith, h d u, count_in-push u d ts t) in
    let same : admitted cap ts ≡ ts = rec before in
    let room : would_pass cap ts t ≡ false = fits cap ts t (λ d le. h d (suc t - d)) in
    admitted-push cap ts t ∙ ap (λ (z : List ℕ). cond (would_pass cap z t) z (z ++ t ∷ [])) same ∙ ap (λ b. cond b ts (ts ++ t ∷ [])) room) ts

-- what was offered, by ticks
offers-picked : (t : TableRows) (s : ℕ) (run : List Event) → offered t s run ≡ ticks_of (ticked (λ past e. offer_on t s e) run)
offers-picked t s run =
    let f : List Event → Event → Option ℕ = λ past e. offer_on t s e in
    snoc_induction (λ run. offered t s run ≡ ticks_of (ticked (λ past e. offer_on t s e) run)) (offered-nil t s ∙ sym (nothing-picked f))
    (λ run e rec. offered-more t s run e ∙ ap (λ z. Rattle.dc_event.specs.lemmas.Arrivals.with_one (tick_after run) (offer_on t s e) z) rec ∙ sym (more-picked f run e)) run

pub refuses-nothing : (t : TableRows) → AreValid t → (us : Intervals) (clock : Clock) → KeepsPace clock → FitsClock t us clock → (run : List (ℕ × Event)) → InTheirTicks clock run → (s : ℕ) → s < length t.streams
    → HoldsCap (jitter_cap (us.stream_least s) (us.stream_jitter s)) (offer_times t s run) → ticks_of (arrivals t s (events run)) ≡ offered t s (events run)
refuses-nothing t valid us clock paced fit run placed s there keeps =
    let f : List Event → Event → Option ℕ = λ past e. offer_on t s e in
    let same = ticked-timed f (λ past. refl) clock run placed in
    let scaled = stream-scaled clock (us.stream_least s) (us.stream_jitter s) (stream_row t s).minimum (stream_row t s).jitter (ticked f (events run)) (timed f run) paced (valid.minimums s there) (fit.stream_minimums s there) (fit.stream_jitters s there) same keeps in
    let P : List ℕ → Type 0 = λ z. HoldsCap (cap_of t s) z in
    let held : HoldsCap (cap_of t s) (offered t s (events run)) = subst P (sym (offers-picked t s (events run))) scaled in
    elim (cases_Bool (is_policed t (stream_row t s).bus)) [
      | inl policed ↦ arrivals-policed t s policed (events run) ∙ admitted-all (cap_of t s) (offered t s (events run)) held
      | inr free ↦ arrivals-unpoliced t s (events run) free
    ]
