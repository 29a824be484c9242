-- Sources that follow from the concentrator before.
use Rattle.std.proofs.Common.{◌≡◌, ℕ, suc, ◌+◌, ◌-◌, ◌*◌, ◌%◌, ◌<◌, ◌≤◌, ◌==◌, ◌&&◌, cond, eqb, ltb, true, false, Option, Some, None, option_map, List, [], ◌∷◌, ◌++◌, length, refl, sym, ap, ◌∙◌, subst, arith, inl, inr}
use Rattle.std.specs.List.{AllByRecursion, Contains}
use Rattle.std.proofs.Math.Nat.{mod-lt, mul-le-mul_right}
use Rattle.std.proofs.lemmas.List.{map-append}
use Rattle.std.proofs.lemmas.List.Elements.{All-head, All-weaker, All-contains_itself, recursion_from_All}
use Rattle.std.proofs.lemmas.Bool.{eqb-true, cases_eq, cases_lt}
use Rattle.dc_bound.specs.Window.{count_in, ticks_of}
use Rattle.dc_bound.specs.Early.{HoldsCap, jitter_cap}
use Rattle.dc_bound.specs.lemmas.Counts.{count_in-nil, count_in-zero}
use Rattle.dc_word.specs.Word.{is_odd, label_of, sdi_of}
use Rattle.dc_chain.specs.Carrying.{of_number}
use Rattle.dc_spans.specs.lemmas.Scaling.{longest-some, one-cap}
use Rattle.dc_chain.specs.lemmas.Carried.{count-carried, carried-from, cap-carried}
use Rattle.dc_tables.specs.Declares.{stream_of}
use Rattle.dc_tables.specs.TableRows.{TableRows, AreValid, stream_row, label_row, output_row}
use Rattle.dc_event.specs.Admissible.{IsNumbered, IsRun}
use Rattle.dc_event.specs.Offers.{let_in, refuses_early}
use Rattle.dc_event.specs.Choice.{chosen, chosen_source, word_for}
use Rattle.dc_event.specs.Emissions.{emission}
use Rattle.dc_event.specs.Outputs.{entry_label, sent}
use Rattle.dc_event.specs.declared.event.Event.{Event}
use Rattle.dc_event.specs.declared.event.Event.TheVariants.{Tick, Arrive, Route, Send}
use Rattle.dc_time.specs.Timed.{events, timed}
use Rattle.dc_time.specs.Sources.{brought, stream_times, KeepsSourcesInTime}
use Rattle.dc_time.specs.Claims.{emission_times}
use Rattle.dc_time.specs.lemmas.TimedRuns.{timed-place}
use Rattle.dc_time.specs.lemmas.Claiming.{All-back}
use Rattle.dc_chain.specs.Concentrators.{Concentrator, Link, RunsInTime, KeepsClaims, IsLinked, Feeds, LinkFits, KeepsOtherSources, sent_word, sends_of, arrivals_at}
use Rattle.dc_chain.specs.lemmas.Fields.{copied-fields, fallback-fields}
use Rattle.dc_chain.specs.lemmas.Spacing.{emissions-apart, count-sent, count-came}

-- ---- what is sent

-- the label and the word of an event that sends
pub record SentIs (t : TableRows) (o : ℕ) (past : List Event) (e : Event) (y : ℕ × ℕ) : Type 0 where
  pub event : e ≡ Send o
  pub label : emission t past e ≡ Some y.0
  pub word : y.1 ≡ chosen t y.0 (past ++ e ∷ [])

labelled : (w : ℕ → ℕ) (o : Option ℕ) (y : ℕ × ℕ) → option_map (λ (x : ℕ). (x, w x)) o ≡ Some y → (o ≡ Some y.0) × (y.1 ≡ w y.0)
labelled w None y h = absurd cc
labelled w (Some x) y h = let e : (x, w x) ≡ y = cc in (ap (λ (z : ℕ × ℕ). Some z.0) e, sym (ap (λ (z : ℕ × ℕ). z.1) e) ∙ ap (λ (z : ℕ × ℕ). w z.0) e)

pub sent-is : (t : TableRows) (o : ℕ) (past : List Event) (e : Event) (y : ℕ × ℕ) → sent_word t o past e ≡ Some y → SentIs t o past e y
sent-is t o past Tick y h = absurd cc
sent-is t o past (Arrive w b) y h = absurd cc
sent-is t o past (Route r) y h = absurd cc
sent-is t o past (Send q) y h =
    elim (q == o) as (λ b. (q == o) ≡ b → cond b (option_map (λ (x : ℕ). (x, chosen t x (past ++ Send q ∷ []))) (emission t past (Send q))) None ≡ Some y → SentIs t o past (Send q) y) [
      | true ↦ λ own h. (let r = labelled (λ x. chosen t x (past ++ Send q ∷ [])) (emission t past (Send q)) y h in record { event = ap (λ z. Send z) (eqb-true _ _ own); label = r.0; word = r.1 })
      | false ↦ λ _ h. absurd cc
    ] refl h

-- its label is of the tables, and of the output
pub emitted_on : (t : TableRows) (past : List Event) (o x : ℕ) → AreValid t → o < length t.outputs → emission t past (Send o) ≡ Some x → (x < length t.labels) × ((label_row t x).output ≡ o)
unfolding emission
emitted_on t past o x valid there is =
    let some = valid.entries_some o there in
    let small : sent t o past % length (output_row t o).entries < length (output_row t o).entries = mod-lt (sent t o past) (omega arith) in
    let ok = valid.entries_labelled o (sent t o past % length (output_row t o).entries) there small in
    elim (ltb (sent t o past) (sent t o (past ++ Send o ∷ []))) as (λ b. cond b (Some (entry_label t o (sent t o past))) None ≡ Some x → (x < length t.labels) × ((label_row t x).output ≡ o)) [
      | true ↦ λ is. (let e : entry_label t o (sent t o past) ≡ x = cc in let P : ℕ → Type 0 = λ x. (x < length t.labels) × ((label_row t x).output ≡ o) in subst P e ok)
      | false ↦ λ is. absurd cc
    ] is

-- the word has the label's fields
word-fits : (t : TableRows) (x : ℕ) (o : Option (ℕ × ℕ)) → (label_row t x).label < 256 → (label_row t x).sdi < 4 → (label_of (word_for t x o) ≡ (label_row t x).label) × (sdi_of (word_for t x o) ≡ (label_row t x).sdi)
word-fits t x None l s = let f = fallback-fields (label_row t x).label (label_row t x).sdi l s in (f.label_is, f.sdi_is)
word-fits t x (Some c) l s = let f = copied-fields (label_row t x).label (label_row t x).sdi c.1 l s in (f.label_is, f.sdi_is)

-- what was sent: a label of the output, and a word of it
pub record IsSentBy (t : TableRows) (o : ℕ) (e : ℕ × (ℕ × ℕ)) : Type 0 where
  pub there : e.1.0 < length t.labels
  pub on_output : (label_row t e.1.0).output ≡ o
  pub labelled : label_of e.1.1 ≡ (label_row t e.1.0).label
  pub by_sdi : sdi_of e.1.1 ≡ (label_row t e.1.0).sdi

-- an event of a run is numbered
pub numbered : (t : TableRows) (run past rest : List (ℕ × Event)) (e : ℕ × Event) → run ≡ past ++ (e ∷ rest) → IsRun t (events run) → IsNumbered t e.1
numbered t run past rest e cut h =
    let split : events run ≡ events past ++ (e.1 ∷ events rest) = ap (λ (z : List (ℕ × Event)). events z) cut ∙ map-append (λ (z : ℕ × Event). z.1) past (e ∷ rest) in
    let P : List Event → Type 0 = λ z. IsRun t z in
    All-head (IsNumbered t) e.1 (events rest) (All-back (IsNumbered t) (events past) (e.1 ∷ events rest) (subst P split h))

pub sent-by : (c : Concentrator) → RunsInTime c → (o : ℕ) (e : ℕ × (ℕ × ℕ)) → Contains (sends_of c o) e → IsSentBy c.rows o e
sent-by c r o e there =
    let place = timed-place (sent_word c.rows o) c.run e there in
    let past : List (ℕ × Event) = place.0 in
    let v : ℕ × Event = place.2 in
    let is = sent-is c.rows o (events place.0) place.2.1 e.1 place.3.picked in
    let P : Event → Type 0 = λ z. IsNumbered c.rows z in
    let inside : o < length c.rows.outputs = subst P is.event (numbered c.rows c.run place.0 place.1 place.2 place.3.cut r.numbers) in
    let Q : Event → Type 0 = λ z. emission c.rows (events place.0) z ≡ Some e.1.0 in
    let on = emitted_on c.rows (events place.0) o e.1.0 r.valid inside (subst Q is.event is.label) in
    let fit = r.valid.labels_fit e.1.0 on.0 in
    let f = word-fits c.rows e.1.0 (chosen_source c.rows e.1.0 (events place.0 ++ place.2.1 ∷ [])) fit.0 fit.1 in
    record { there = on.0; on_output = on.1; labelled = ap label_of is.word ∙ f.0; by_sdi = ap sdi_of is.word ∙ f.1 }

-- ---- what came

came-as : (t : TableRows) (b w : ℕ) (o : Option ℕ) (y : ℕ × ℕ) → option_map (λ (s : ℕ). (s, w)) o ≡ Some y → stream_of t b w ≡ o → stream_of t b y.1 ≡ Some y.0
came-as t b w None y h is = absurd cc
came-as t b w (Some s) y h is = let e : (s, w) ≡ y = cc in let P : ℕ × ℕ → Type 0 = λ z. stream_of t b z.1 ≡ Some z.0 in subst P e is

let-in : (t : TableRows) (b w : ℕ) (past : List Event) (y : ℕ × ℕ) → option_map (λ (s : ℕ). (s, w)) (let_in t b past (stream_of t b w)) ≡ Some y → stream_of t b y.1 ≡ Some y.0
let-in t b w past y h =
    elim (refuses_early t b past (stream_of t b w)) as (λ v. option_map (λ (s : ℕ). (s, w)) (cond v None (stream_of t b w)) ≡ Some y → stream_of t b y.1 ≡ Some y.0) [
      | true ↦ λ h. absurd cc
      | false ↦ λ h. came-as t b w (stream_of t b w) y h refl
    ] h

brought-is : (t : TableRows) (b : ℕ) (past : List Event) (e : Event) (y : ℕ × ℕ) → brought t b past e ≡ Some y → stream_of t b y.1 ≡ Some y.0
brought-is t b past Tick y h = absurd cc
brought-is t b past (Arrive w a) y h =
    elim ((a == b) && is_odd w) as (λ v. option_map (λ (s : ℕ). (s, w)) (let_in t b past (cond v (stream_of t b w) None)) ≡ Some y → stream_of t b y.1 ≡ Some y.0) [
      | true ↦ λ h. let-in t b w past y h
      | false ↦ λ h. absurd cc
    ] h
brought-is t b past (Route r) y h = absurd cc
brought-is t b past (Send o) y h = absurd cc

-- what came is of the stream that declares it
abbrev pub IsDeclared : TableRows → ℕ → ℕ × (ℕ × ℕ) → Type 0
IsDeclared t b a = stream_of t b a.1.1 ≡ Some a.1.0

pub came-by : (c : Concentrator) (b : ℕ) (a : ℕ × (ℕ × ℕ)) → Contains (arrivals_at c b) a → IsDeclared c.rows b a
came-by c b a there =
    let place = timed-place (brought c.rows b) c.run a there in
    brought-is c.rows b (events place.0) place.2.1 a.1 place.3.picked

all-in : {X : Type 0} (P : X → Type 0) (xs : List X) → ((x : X) → Contains xs x → P x) → AllByRecursion P xs
all-in P xs h = recursion_from_All P xs (All-weaker (λ x. Contains xs x) P h xs (All-contains_itself xs))

-- where a window holds any of a number, there is one
any_of : (n u d : ℕ) (xs : List (ℕ × (ℕ × ℕ))) → 1 ≤ count_in u d (ticks_of (of_number n xs)) → (a : ℕ × (ℕ × ℕ)) × Contains xs a × (a.1.0 ≡ n)
any_of n u d [] h = absurd (omega (arith, count_in-nil u d))
any_of n u d (x ∷ xs) h =
    elim (eqb x.1.0 n) as (λ b. eqb x.1.0 n ≡ b → 1 ≤ count_in u d (ticks_of (cond b (x ∷ of_number n xs) (of_number n xs))) → (a : ℕ × (ℕ × ℕ)) × Contains (x ∷ xs) a × (a.1.0 ≡ n)) [
      | true ↦ λ own _. (x, (0, omega arith, refl), eqb-true _ _ own)
      | false ↦ λ _ h. (let r = any_of n u d xs h in (r.0, (suc r.1.0, omega (arith, r.1.1), r.1.2), r.2))
    ] refl h

-- ---- the law

module _ (from to : Concentrator) (link : Link) (sender : RunsInTime from) (claims : KeepsClaims from) (receiver : RunsInTime to) (carried : IsLinked from link to) (fits : LinkFits from link to) where
  feeds : (s : ℕ) (e a : ℕ × (ℕ × ℕ)) → IsSentBy from.rows link.output e → IsDeclared to.rows link.bus a → e.1.1 ≡ a.1.1 → a.1.0 ≡ s → Feeds from.rows to.rows link e.1.0 s a.1.1
  feeds s e a p q same own = record {
    there = p.there;
    on_output = p.on_output;
    labelled = sym (ap label_of same) ∙ p.labelled;
    by_sdi = sym (ap sdi_of same) ∙ p.by_sdi;
    declared = q ∙ ap (λ z. Some z) own;
  }

  -- a stream of the link's bus
  pub kept : (s : ℕ) → s < length to.rows.streams → (stream_row to.rows s).bus ≡ link.bus → HoldsCap (jitter_cap (to.us.stream_least s) (to.us.stream_jitter s)) (stream_times to.rows s to.run)
  kept s there same d u =
      let came : List (ℕ × (ℕ × ℕ)) = arrivals_at to link.bus in
      let P : ℕ → Type 0 = λ b. count_in u d (stream_times to.rows s to.run) ≤ count_in u d (ticks_of (of_number s (timed (brought to.rows b) to.run))) in
      let counted : count_in u d (stream_times to.rows s to.run) ≤ count_in u d (ticks_of (of_number s (arrivals_at to link.bus))) = subst P same (count-came to.rows s u d to.run) in
      let whole = receiver.valid.minimums s there in
      let long = longest-some to.clock receiver.paced in
      let wide : 1 * to.clock.longest ≤ (stream_row to.rows s).minimum * to.clock.longest = mul-le-mul_right to.clock.longest whole in
      let some : 1 ≤ to.us.stream_least s = omega (arith, wide, long, receiver.fits.stream_minimums s there) in
      elim (cases_lt 0 (count_in u d (ticks_of (of_number s (arrivals_at to link.bus))))) [
        | inr none ↦ omega (arith, none, counted)
        | inl any ↦
            let a = any_of s u d (arrivals_at to link.bus) any in
            let e = carried-from link.least link.most (sends_of from link.output) (arrivals_at to link.bus) carried a.0 a.1 in
            let x : ℕ = e.0.1.0 in
            let first : Feeds from.rows to.rows link e.0.1.0 s a.0.1.1 = feeds s e.0 a.0 (sent-by from sender link.output e.0 e.1) (came-by to link.bus a.0 a.1) e.2.same a.2 in
            let ps = all-in (IsSentBy from.rows link.output) (sends_of from link.output) (λ e h. sent-by from sender link.output e h) in
            let qs = all-in (IsDeclared to.rows link.bus) (arrivals_at to link.bus) (λ a h. came-by to link.bus a h) in
            let one = count-carried link.least link.most s e.0.1.0 (IsSentBy from.rows link.output) (IsDeclared to.rows link.bus) (λ v w p q same own. fits.alone v.1.0 e.0.1.0 s w.1.1 a.0.1.1 (feeds s v w p q same own) first) (sends_of from link.output) (arrivals_at to link.bus) ps qs carried u d in
            let sent = count-sent from.rows link.output e.0.1.0 (u - link.most) (d + (link.most - link.least)) from.run in
            let apart = one-cap (from.us.label_least e.0.1.0 + 1) (omega arith) (emission_times from.rows e.0.1.0 from.run) (emissions-apart from.rows from.us from.ages from.clock e.0.1.0 from.run claims) in
            let fit = fits.spaced e.0.1.0 s a.0.1.1 first in
            elim (cases_lt 0 d) [
              | inl have ↦ omega (
                arith,
                counted,
                one,
                sent,
                apart (d + (link.most - link.least)) (u - link.most),
                cap-carried (from.us.label_least e.0.1.0 + 1) (to.us.stream_least s) (to.us.stream_jitter s) (link.most - link.least) d some have (omega (arith, fit)),
              )
              | inr zero' ↦ (let z : d ≡ 0 = omega arith in absurd (omega (arith, any, ap (λ k. count_in u k (ticks_of (of_number s (arrivals_at to link.bus)))) z, count_in-zero u (ticks_of (of_number s (arrivals_at to link.bus))))))
            ]
      ]

  pub sources-follow : KeepsOtherSources to link.bus → KeepsSourcesInTime to.rows to.us to.run
  sources-follow others = record {
    streams_rest = λ s there free. elim (cases_eq (stream_row to.rows s).bus link.bus) [ inl same ↦ kept s there same | inr other ↦ others.streams_rest s there free other ];
    wires_rest = others.wires_rest;
  }
