-- The numbers of the streams of policed buses.
use Rattle.std.proofs.Common.{◌≡◌, ℕ, ◌+◌, ◌<◌, ◌&&◌, max, Bool, true, false, cond, ltb, Some, None, List, [], ◌∷◌, ◌++◌, length, get_or, set, refl, sym, ap, ◌∙◌, subst, arith, inl, inr}
use Rattle.std.proofs.lemmas.List.{get_or-set_same, get_or-set_other}
use Rattle.std.proofs.lemmas.Bool.{cases_Bool, cases_eq}
use Rattle.dc_bound.specs.Window.{ticks_of}
use Rattle.dc_bound.specs.Early.{pace_of}
use Rattle.dc_bound.specs.lemmas.Pacing.{pace_of-nil, pace_of-push}
use Rattle.dc_word.specs.Word.{is_odd}
use Rattle.dc_tables.specs.Declares.{stream_of}
use Rattle.dc_tables.specs.TableRows.{TableRows, AreValid, stream_row, is_policed}
use Rattle.dc_event.specs.Time.{tick_after}
use Rattle.dc_event.specs.Offers.{only, is_early, refuses_early}
use Rattle.dc_event.specs.Buses.{arrivals, arrival_of}
use Rattle.dc_event.specs.lemmas.Arrivals.{arrivals-other, arrivals-push, arrivals-nil, early-paced, stream_of-there, arrival-own, arrival-others}
use Rattle.dc_event.specs.declared.event.Event.{Event}
use Rattle.dc_event.specs.declared.event.Event.TheVariants.{Arrive}
use Rattle.dc_core.specs.Standing.{HoldsPaces, refuses_early_now, paces_after}

-- an event that is an arrival of no bus
pub paces-other : (t : TableRows) (paces : List ℕ) (run : List Event) (e : Event) → ((b : ℕ) → arrival_of t b run e ≡ None) → HoldsPaces t paces run → HoldsPaces t paces (run ++ e ∷ [])
paces-other t paces run e none h s l policed = h s l policed ∙ ap (pace_of (stream_row t s).minimum) (sym (arrivals-other t s run e (ap (only s) (none (stream_row t s).bus))))

pub paces-kept : (t : TableRows) (paces now : List ℕ) (run : List Event) → now ≡ paces → HoldsPaces t paces run → HoldsPaces t now run
paces-kept t paces now run same h = let P : List ℕ → Type 0 = λ xs. HoldsPaces t xs run in subst P (sym same) h

pub paces-new : (t : TableRows) (paces : List ℕ) → ((s : ℕ) → s < length t.streams → get_or paces s 0 ≡ 0) → HoldsPaces t paces []
paces-new t paces h s l policed = h s l ∙ sym (ap (pace_of (stream_row t s).minimum) (arrivals-nil t s) ∙ pace_of-nil (stream_row t s).minimum)

-- ---- the test, and a word that is let in

module _ (t : TableRows) (v : AreValid t) (paces : List ℕ) (run : List Event) (now b w k : ℕ) (clock : now ≡ tick_after run) (odd : is_odd w ≡ true) (some : stream_of t b w ≡ Some k) (h : HoldsPaces t paces run) where
  own : (k < length t.streams) × ((stream_row t k).bus ≡ b)
  own = stream_of-there t b w k some

  -- by the number, the bus refuses just the early words
  pub refuses_early-is : refuses_early_now t paces now b k ≡ refuses_early t b run (Some k)
  refuses_early-is = elim (cases_Bool (is_policed t b)) [
    | inl yes' ↦
        let policed : is_policed t (stream_row t k).bus ≡ true = ap (is_policed t) own.1 ∙ yes' in
        ap (λ n. is_policed t b && ltb (n + (stream_row t k).jitter) (get_or paces k 0)) clock
        ∙ ap (λ p. is_policed t b && ltb (tick_after run + (stream_row t k).jitter) p) (h k own.0 policed)
        ∙ ap (λ x. is_policed t b && x) (sym (early-paced t k policed (v.minimums k own.0) run))
    | inr no' ↦ ap (λ p. p && ltb (now + (stream_row t k).jitter) (get_or paces k 0)) no' ∙ sym (ap (λ p. p && is_early t k run) no')
  ]

  unchanged : (x : Bool) (s : ℕ) → (s ≡ k → ⊥) → get_or (cond x (set paces k (max now (get_or paces k 0) + (stream_row t k).minimum)) paces) s 0 ≡ get_or paces s 0
  unchanged true s ne = get_or-set_other paces k s (max now (get_or paces k 0) + (stream_row t k).minimum) 0 ne
  unchanged false s ne = refl

  pub paces-arrive : length paces ≡ length t.streams → refuses_early t b run (Some k) ≡ false → HoldsPaces t (paces_after t paces now b k) (run ++ Arrive w b ∷ [])
  paces-arrive sized free s l policed = elim (cases_eq k s) [
    | inl same ↦
        let P : ℕ → Type 0 = λ s. get_or (paces_after t paces now b k) s 0 ≡ pace_of (stream_row t s).minimum (ticks_of (arrivals t s (run ++ Arrive w b ∷ []))) in
        let yes' : is_policed t b ≡ true = ap (is_policed t) (sym own.1) ∙ ap (λ s. is_policed t (stream_row t s).bus) same ∙ policed in
        subst P same (
        ap (λ x. get_or (cond x (set paces k (max now (get_or paces k 0) + (stream_row t k).minimum)) paces) k 0) yes'
        ∙ get_or-set_same paces k (max now (get_or paces k 0) + (stream_row t k).minimum) 0 (omega (arith, own.0))
        ∙ ap (λ n. max n (get_or paces k 0) + (stream_row t k).minimum) clock
        ∙ ap (λ p. max (tick_after run) p + (stream_row t k).minimum) (h k own.0 (ap (is_policed t) own.1 ∙ yes'))
        ∙ sym (ap (pace_of (stream_row t k).minimum) (arrivals-push t k k run (Arrive w b) (arrival-own t run b w k odd some free)) ∙ pace_of-push (stream_row t k).minimum (ticks_of (arrivals t k run)) (tick_after run)))
    | inr other ↦
        let ne : s ≡ k → ⊥ = λ e. other (sym e) in
        unchanged (is_policed t b) s ne
        ∙ h s l policed ∙ ap (pace_of (stream_row t s).minimum) (sym (arrivals-other t s run (Arrive w b) (arrival-others t run b w k odd some free s other)))
  ]
