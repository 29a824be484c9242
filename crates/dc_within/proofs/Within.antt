-- What is observed of an admissible run stays within the numbers of an accepted certificate.
use Rattle.std.proofs.Common.{◌≡◌, ℕ, ◌+◌, ◌≤◌, ◌<◌, List, [], ◌∷◌, ◌++◌, length, get_or, ap, ◌∙◌, subst, append_assoc}
use Rattle.std.specs.Prelude.{IfSome}
use Rattle.std.proofs.lemmas.List.{append-nil}
use Rattle.dc_cert.specs.Bounds.{input_bound, output_bound, numbers_of}
use Rattle.dc_cert.specs.NamedRows.{NamedRows}
use Rattle.dc_check.specs.Accepts.{Accepts, source_delay}
use Rattle.dc_check.specs.Certified.{AcceptedKeepTheirClaims, KeepsItsClaims}
use Rattle.dc_check.specs.Numbers.{AcceptedKeepTheirNumbers, KeepsItsNumbers, AtEachPlace}
use Rattle.dc_event.specs.Admissible.{IsAdmissible}
use Rattle.dc_event.specs.Claims.{ClaimsHold}
use Rattle.dc_event.specs.Emissions.{emission_ticks, last_or_zero}
use Rattle.dc_event.specs.Time.{tick_after}
use Rattle.dc_event.specs.declared.event.Event.{Event}
use Rattle.dc_tables.specs.TableRows.{TableRows, AreValid, stream_row, label_row}
use Rattle.dc_within.proofs.Ages.{SourcesWithin, age-within}
use Rattle.dc_within.proofs.EvenWord.{even_word, even_word-follows}
use Rattle.dc_within.proofs.Inputs.{backlog-within, wait-within}
use Rattle.dc_within.proofs.Intervals.{EachSpaced, EachInTime, least-within, greatest-within}
use Rattle.dc_within.proofs.Outputs.{late-within}
use Rattle.dc_within.proofs.Routed.{routed_within}
use Rattle.dc_within.specs.Within.{InputsWithin, OutputsWithin, LabelsWithin, LabelWithin, AcceptedHave}

pub inputs-within : (t : TableRows) → AcceptedKeepTheirNumbers t → AcceptedHave InputsWithin t
inputs-within t numbers claims ok run keeps b there =
    let kept = (numbers claims ok run keeps).inputs b there in
    record { backlog = backlog-within t b (input_bound (numbers_of claims) b).backlog run kept.backlog; wait = wait-within t b (input_bound (numbers_of claims) b).delay run kept.delay }

pub outputs-within : (t : TableRows) → AcceptedKeepTheirNumbers t → AcceptedHave OutputsWithin t
outputs-within t numbers claims ok run keeps o there = late-within t o (output_bound (numbers_of claims) o).delay run ((numbers claims ok run keeps).outputs o there).delay

-- ---- labels

-- what holds at each place of a run holds at each place of its beginnings
at_beginnings : (P : List Event → Type 0) (run past rest : List Event) → run ≡ past ++ rest → AtEachPlace P run → AtEachPlace P past
at_beginnings P run past rest cut h a b is = h a (b ++ rest) (cut ∙ ap (λ z. z ++ rest) is ∙ append_assoc a b rest)

-- the bus of the label's source of this rank
abbrev source_bus : TableRows → (x k : ℕ) → ℕ
source_bus t x k = (stream_row t (get_or (label_row t x).sources k 0)).bus

module _ (t : TableRows) (valid : AreValid t) (claims : NamedRows) (ok : Accepts t claims) (claimed : KeepsItsClaims t claims) (numbers : KeepsItsNumbers t claims) (run : List Event) (keeps : IsAdmissible t run) (x : ℕ) (there : x < length t.labels) where
  on_bus : (k : ℕ) → k < length (label_row t x).sources → source_bus t x k < length t.buses
  on_bus k l = valid.streams_on_buses (get_or (label_row t x).sources k 0) (valid.sources_there x k there l)

  sources_within : (past rest : List Event) → run ≡ past ++ rest → SourcesWithin t x (get_or (numbers_of claims).ages x 0) past
  sources_within past rest cut k l =
      let delay : ℕ = source_delay t (numbers_of claims) (get_or (label_row t x).sources k 0) in
      let taken = ((numbers run keeps).inputs (source_bus t x k) (on_bus k l)).delay in
      (delay, routed_within t (source_bus t x k) delay past (at_beginnings _ run past rest cut taken), (ok.numbers.labels x there).age.aged k 0 l)

  spaced : EachSpaced t x (label_row t x).minimum run
  spaced past rest e cut emits some =
      let Apart : ℕ → Type 0 = λ y. 1 ≤ length (emission_ticks t y past) → last_or_zero (emission_ticks t y past) + (label_row t y).minimum ≤ tick_after past in
      subst (λ o. IfSome o Apart) emits (claimed run keeps past rest e cut).spaced some

  -- the claim at an even word after the run speaks of its end
  last : ClaimsHold t (numbers_of claims).ages (run ++ even_word (source_bus t x 0) ∷ [])
  last = claimed _ (even_word-follows t (source_bus t x 0) (on_bus 0 (valid.sources_some x there)) run keeps)

  in_time : EachInTime t x (label_row t x).maximum run
  in_time past [] cut = (last past [] (even_word (source_bus t x 0)) (ap (λ z. z ++ even_word (source_bus t x 0) ∷ []) (cut ∙ append-nil past))).in_time x there
  in_time past (e ∷ rest) cut = (claimed run keeps past rest e cut).in_time x there

  pub label-within : LabelWithin t x (get_or (numbers_of claims).ages x 0) run
  label-within = record {
    aged = age-within t x (get_or (numbers_of claims).ages x 0) run sources_within;
    least = least-within t x (label_row t x).minimum run spaced;
    greatest = greatest-within t x (label_row t x).maximum run in_time;
  }

pub labels-within : (t : TableRows) → AreValid t → AcceptedKeepTheirClaims t → AcceptedKeepTheirNumbers t → AcceptedHave LabelsWithin t
labels-within t valid claimed numbers claims ok run keeps x there = label-within t valid claims ok (claimed claims ok) (numbers claims ok) run keeps x there
