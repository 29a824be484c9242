-- The claims on ages and on live sources, at every event of every admissible run.
use Rattle.std.proofs.Common.{◌≡◌, ℕ, ◌%◌, ◌<◌, true, false, cond, ltb, Option, Some, None, List, [], ◌∷◌, ◌++◌, length, get_or, sym, subst, refl, arith, append_assoc}
use Rattle.std.specs.Prelude.{IfSome}
use Rattle.std.specs.List.{All}
use Rattle.std.proofs.lemmas.List.Elements.{All-head, All-tail}
use Rattle.std.proofs.Math.Nat.{mod-lt}
use Rattle.dc_cert.specs.Bounds.{CertificateRows}
use Rattle.dc_check.proofs.Ages.{BusesHold, SourcesOnBuses, young, live, first_live, any_live}
use Rattle.dc_check.proofs.Bus.{bus_keeps_up}
use Rattle.dc_check.specs.Accepts.{AcceptsNumbers}
use Rattle.dc_event.specs.Admissible.{IsNumbered, IsAdmissible}
use Rattle.dc_event.specs.Claims.{SendsYoung, UsesLive}
use Rattle.dc_event.specs.Emissions.{emission}
use Rattle.dc_event.specs.Outputs.{entry_label, sent}
use Rattle.dc_event.specs.declared.event.Event.{Event}
use Rattle.dc_event.specs.declared.event.Event.TheVariants.{Tick, Arrive, Route, Send}
use Rattle.dc_tables.specs.TableRows.{TableRows, AreValid, label_row, output_row}

-- what leaves is a label of the tables
pub emitted : (t : TableRows) (past : List Event) (e : Event) (x : ℕ) → AreValid t → IsNumbered t e → emission t past e ≡ Some x → x < length t.labels
unfolding emission
emitted t past Tick x valid there is = absurd cc
emitted t past (Arrive w b) x valid there is = absurd cc
emitted t past (Route r) x valid there is = absurd cc
emitted t past (Send o) x valid there is =
    let some = valid.entries_some o there in
    let small : sent t o past % length (output_row t o).entries < length (output_row t o).entries = mod-lt (sent t o past) (omega arith) in
    let ok = valid.entries_labelled o (sent t o past % length (output_row t o).entries) there small in
    elim (ltb (sent t o past) (sent t o (past ++ Send o ∷ []))) as (λ b. cond b (Some (entry_label t o (sent t o past))) None ≡ Some x → x < length t.labels) [
      | true ↦ λ is. (let e : entry_label t o (sent t o past) ≡ x = cc in omega (arith, ok.0))
      | false ↦ λ is. absurd cc
    ] is

-- a claim on the label that leaves
at_emission : (P : ℕ → Type 0) (o : Option ℕ) → ((x : ℕ) → o ≡ Some x → P x) → IfSome o P
at_emission P None h = tt
at_emission P (Some x) h = h x refl

module _ (t : TableRows) (c : CertificateRows) (valid : AreValid t) (ok : AcceptsNumbers t c) (past : List Event) (e : Event) (there : IsNumbered t e) (holds : BusesHold t c (past ++ e ∷ [])) where
  on_buses : (x : ℕ) → x < length t.labels → SourcesOnBuses t x
  on_buses x h k l = valid.streams_on_buses (get_or (label_row t x).sources k 0) (valid.sources_there x k h l)

  pub sends_young : SendsYoung t c.ages past e
  sends_young = at_emission _ (emission t past e) (λ x is.
      let h = emitted t past e x valid there is in
      young t c x (get_or c.ages x 0) (past ++ e ∷ []) holds (on_buses x h) (λ k l. (ok.labels x h).age.aged k 0 l))

  pub uses_live : UsesLive t past e
  uses_live = at_emission _ (emission t past e) (λ x is.
      let h = emitted t past e x valid there is in
      let some = valid.sources_some x h in
      let fit = valid.labels_fit x h in (
        (λ alive good. let r = live t c x (get_or (label_row t x).sources 0 0) (past ++ e ∷ []) holds (on_buses x h 0 some) ((ok.labels x h).fresh 0 0 some) alive good in
            (r.0, first_live t x (past ++ e ∷ []) r.0 r.1 some r.2)),
        (λ k l alive good. let r = live t c x (get_or (label_row t x).sources k 0) (past ++ e ∷ []) holds (on_buses x h k l) ((ok.labels x h).fresh k 0 l) alive good in
            any_live t x k (past ++ e ∷ []) r.0 r.1 l fit.1 r.2),
      ))

-- ---- every event of every admissible run

All-back : {X : Type 0} (P : X → Type 0) (xs ys : List X) → All P (xs ++ ys) → All P ys
All-back P [] ys h = h
All-back P (x ∷ xs) ys h = All-back P xs ys (All-tail P x (xs ++ ys) h)

-- where a certificate is accepted, ages and live sources are as claimed at each event of each admissible run
abbrev pub AgesHold : TableRows → Type 0
AgesHold t = (c : CertificateRows) → AcceptsNumbers t c → (past rest : List Event) (e : Event) → IsAdmissible t (past ++ (e ∷ rest)) → SendsYoung t c.ages past e × UsesLive t past e

pub ages_hold : (t : TableRows) → AreValid t → AgesHold t
ages_hold t valid c ok past rest e keeps =
    let there : IsNumbered t e = All-head (IsNumbered t) e rest (All-back (IsNumbered t) past (e ∷ rest) keeps.numbers) in
    let whole : IsAdmissible t ((past ++ e ∷ []) ++ rest) = subst (λ z. IsAdmissible t z) (sym (append_assoc past (e ∷ []) rest)) keeps in
    let now : BusesHold t c (past ++ e ∷ []) = (λ b h. bus_keeps_up t c valid ok (past ++ e ∷ []) rest whole b h) in
    (sends_young t c valid ok past e there now, uses_live t c valid ok past e there now)
