-- One more event keeps what is carried of the labels.
use Rattle.std.proofs.Common.{◌≡◌, ℕ, suc, ◌+◌, ◌-◌, ◌^◌, ◌≤◌, ◌<◌, max, Option, Some, None, option_map, List, [], ◌∷◌, ◌++◌, length, get_or, set, refl, sym, ap, ◌∙◌, subst, arith, inl, inr, length-append}
use Rattle.std.proofs.lemmas.Bool.{cases_eq}
use Rattle.std.proofs.lemmas.List.{get_or-set_same, get_or-set_other}
use Rattle.dc_tables.specs.TableRows.{TableRows, AreValid}
use Rattle.dc_event.specs.Time.{tick_after}
use Rattle.dc_event.specs.Choice.{chosen_source}
use Rattle.dc_event.specs.Latest.{latest_arrived}
use Rattle.dc_event.specs.Emissions.{emission, emission_ticks}
use Rattle.dc_event.specs.declared.event.Event.{Event}
use Rattle.dc_oracle.specs.Arrivals.{Follows}
use Rattle.dc_oracle.specs.declared.arrivals.ArrivalWatch.{ArrivalWatch}
use Rattle.dc_oracle.proofs.Judging.{copied-there}
use Rattle.dc_observe.specs.Carried.{last_of, or_zero, elder, least_with, greatest_so_far}
use Rattle.dc_observe.specs.Labels.{IsLabelGauge, AreGauged, gauged, no_emissions, fallback_with, label_numbers}
use Rattle.dc_observe.specs.Observed.{age_of_sent, ages_of, count_none, greatest_age, gaps, least_of, greatest_of, sent_count, fallback_count, oldest_copy, least_interval, greatest_interval}
use Rattle.dc_observe.specs.declared.labels.LabelGauge.{LabelGauge}
use Rattle.dc_observe.specs.declared.labels.LabelGauges.{LabelGauges}
use Rattle.dc_observe.specs.declared.labels.LabelNumbers.{LabelNumbers}
use Rattle.dc_observe.proofs.Labelling.{IsQuiet, quiet-none, quiet-other, ticks-own, ages-own, ticks-nil, ages-nil, count_none-push, greatest_age-push, least_gap-push, greatest_gap-push, last_of-push, greatest-end}

-- ---- the age of a word that leaves

pub age-none : (t : TableRows) (x : ℕ) (run : List Event) (e : Event) → None ≡ chosen_source t x (run ++ e ∷ []) → None ≡ age_of_sent t x run e
age-none t x run e is = let P : Option (ℕ × ℕ) → Type 0 = λ o. None ≡ (elim o [ None ↦ None | Some c ↦ option_map (λ came. tick_after run - came) (latest_arrived t c.0 (run ++ e ∷ [])) ]) in subst P is refl

module _ (t : TableRows) (v : AreValid t) (w : ArrivalWatch) (x : ℕ) (run : List Event) (e : Event) (there : x < length t.labels) (follows : Follows t w (run ++ e ∷ [])) (a : ℕ × ℕ) (is : Some a ≡ chosen_source t x (run ++ e ∷ [])) where
  came-of : get_or w.latest.items a.0 None ≡ latest_arrived t a.0 (run ++ e ∷ [])
  came-of = follows.latest a.0 (copied-there t x (run ++ e ∷ []) a v there (sym is))

  pub age-some : (o : Option ℕ) → get_or w.latest.items a.0 None ≡ o → option_map (λ came. tick_after run - came) o ≡ age_of_sent t x run e
  age-some o got =
      let P : Option (ℕ × ℕ) → Type 0 = λ c. option_map (λ came. tick_after run - came) o ≡ (elim c [ None ↦ None | Some c ↦ option_map (λ came. tick_after run - came) (latest_arrived t c.0 (run ++ e ∷ [])) ]) in
      subst P is (ap (λ z. option_map (λ came. tick_after run - came) z) (sym got ∙ came-of))

-- ---- no events

pub gauge-nil : (t : TableRows) (x : ℕ) → IsLabelGauge t x [] no_emissions
unfolding greatest_so_far
gauge-nil t x = record {
  sent = sym (ap (λ (l : List (Option ℕ)). length l) (ages-nil t x));
  fallback = sym (ap count_none (ages-nil t x));
  age = sym (ap greatest_age (ages-nil t x));
  last = sym (ap last_of (ticks-nil t x));
  least = sym (ap (λ ts. least_of (gaps ts)) (ticks-nil t x));
  greatest = sym (ap (λ ts. greatest_of (gaps (0 ∷ ts))) (ticks-nil t x));
  few = (let none : sent_count t x [] ≡ 0 = ap (λ (l : List (Option ℕ)). length l) (ages-nil t x) in omega (arith, none));
}

-- ---- an event that does not emit the label

longer : (run : List Event) (e : Event) → length (run ++ e ∷ []) ≡ suc (length run)
longer run e = length-append run (e ∷ []) ∙ omega arith

pub gauge-quiet : (t : TableRows) (x : ℕ) (run : List Event) (e : Event) (g : LabelGauge) → IsQuiet t x run e → IsLabelGauge t x run g → IsLabelGauge t x (run ++ e ∷ []) g
unfolding greatest_so_far
gauge-quiet t x run e g (ticks, ages) h = record {
  sent = h.sent ∙ sym (ap (λ (l : List (Option ℕ)). length l) ages);
  fallback = h.fallback ∙ sym (ap count_none ages);
  age = h.age ∙ sym (ap greatest_age ages);
  last = h.last ∙ sym (ap last_of ticks);
  least = h.least ∙ sym (ap (λ ts. least_of (gaps ts)) ticks);
  greatest = h.greatest ∙ sym (ap (λ ts. greatest_of (gaps (0 ∷ ts))) ticks);
  few = omega (arith, ap (λ (l : List (Option ℕ)). length l) ages, h.few, longer run e);
}

-- ---- an emission

fallback_with-is : (n m : ℕ) (age : Option ℕ) → n ≡ m → n < 2 ^ 64 - 1 → fallback_with n age ≡ m + count_none (age ∷ [])
fallback_with-is n m None same few = omega (arith, same, few)
fallback_with-is n m (Some a) same few = omega (arith, same)

count_none-le : (xs : List (Option ℕ)) → count_none xs ≤ length xs
count_none-le [] = omega arith
count_none-le (None ∷ xs) = omega (arith, count_none-le xs)
count_none-le (Some a ∷ xs) = omega (arith, count_none-le xs)

pub gauge-own : (t : TableRows) (x tick : ℕ) (run : List Event) (e : Event) (age : Option ℕ) (g : LabelGauge) → emission t run e ≡ Some x → age ≡ age_of_sent t x run e → tick ≡ tick_after run → length run < 2 ^ 64 - 1
    → IsLabelGauge t x run g → IsLabelGauge t x (run ++ e ∷ []) (gauged age tick g)
unfolding greatest_so_far
gauge-own t x tick run e age g own aged clock short h =
    let ages : ages_of t x (run ++ e ∷ []) ≡ ages_of t x run ++ age ∷ [] = ages-own t x run e own ∙ ap (λ a. ages_of t x run ++ a ∷ []) (sym aged) in
    let ticks : emission_ticks t x (run ++ e ∷ []) ≡ emission_ticks t x run ++ tick ∷ [] = ticks-own t x run e own ∙ ap (λ k. emission_ticks t x run ++ k ∷ []) (sym clock) in
    let more : sent_count t x (run ++ e ∷ []) ≡ sent_count t x run + 1 = ap (λ (l : List (Option ℕ)). length l) ages ∙ length-append (ages_of t x run) (age ∷ []) in
    record {
      sent = omega (arith, h.sent, h.few, short, more);
      fallback = fallback_with-is g.fallback (fallback_count t x run) age h.fallback (omega (arith, h.fallback, count_none-le (ages_of t x run), h.few, short)) ∙ sym (ap count_none ages ∙ count_none-push (ages_of t x run) age);
      age = ap (λ o. elder o age) h.age ∙ sym (ap greatest_age ages ∙ greatest_age-push (ages_of t x run) age);
      last = sym (ap last_of ticks ∙ last_of-push (emission_ticks t x run) tick);
      least = ap (λ o. least_with o g.last tick) h.least ∙ ap (λ o. least_with (least_interval t x run) o tick) h.last ∙ sym (ap (λ ts. least_of (gaps ts)) ticks ∙ least_gap-push (emission_ticks t x run) tick);
      greatest = ap (λ n. max n (tick - or_zero g.last)) h.greatest ∙ ap (λ o. max (greatest_so_far t x run) (tick - or_zero o)) h.last ∙ sym (ap (λ ts. greatest_of (gaps (0 ∷ ts))) ticks ∙ greatest_gap-push (emission_ticks t x run) tick);
      few = omega (arith, more, h.few, longer run e);
    }

-- ---- all labels

pub all-quiet : (t : TableRows) (w : LabelGauges) (run : List Event) (e : Event) → emission t run e ≡ None → AreGauged t w run → AreGauged t w (run ++ e ∷ [])
all-quiet t w run e none h x l = gauge-quiet t x run e _ (quiet-none t x run e none) (h x l)

pub one-sent : (t : TableRows) (old new : LabelGauges) (run : List Event) (e : Event) (y tick : ℕ) (age : Option ℕ) → emission t run e ≡ Some y → age ≡ age_of_sent t y run e → tick ≡ tick_after run → length run < 2 ^ 64 - 1
    → y < length old.gauges.items → y < length t.labels → new.gauges.items ≡ set old.gauges.items y (gauged age tick (get_or old.gauges.items y no_emissions)) → AreGauged t old run → AreGauged t new (run ++ e ∷ [])
one-sent t old new run e y tick age own aged clock short sized there items h x l =
    let P : LabelGauge → Type 0 = λ g. IsLabelGauge t x (run ++ e ∷ []) g in
    subst P (sym (ap (λ xs. get_or xs x no_emissions) items)) (elim (cases_eq y x) [
      | inl same ↦
          let Q : ℕ → Type 0 = λ x. IsLabelGauge t x (run ++ e ∷ []) (get_or (set old.gauges.items y (gauged age tick (get_or old.gauges.items y no_emissions))) x no_emissions) in
          let R : LabelGauge → Type 0 = λ g. IsLabelGauge t y (run ++ e ∷ []) g in
          subst Q same (subst R (sym (get_or-set_same old.gauges.items y _ no_emissions sized)) (gauge-own t y tick run e age _ own aged clock short (h y there)))
      | inr other ↦
          let ne : x ≡ y → ⊥ = λ e. other (sym e) in
          subst P (sym (get_or-set_other old.gauges.items y x _ no_emissions ne)) (gauge-quiet t x run e _ (quiet-other t x y run e own other) (h x l))
    ])

-- ---- the end

pub numbers-is : (t : TableRows) (x tick greatest : ℕ) (run : List Event) (g : LabelGauge) → IsLabelGauge t x run g → tick ≡ tick_after run → greatest ≡ max g.greatest (tick - or_zero g.last)
    → record { sent = g.sent; fallback = g.fallback; age = g.age; least = g.least; greatest = greatest } ≡ label_numbers t x run
numbers-is t x tick greatest run g h clock is =
    let end : greatest ≡ greatest_interval t x run =
    is ∙ ap (λ n. max n (tick - or_zero g.last)) h.greatest ∙ ap (λ o. max (greatest_so_far t x run) (tick - or_zero o)) h.last ∙ ap (λ k. max (greatest_so_far t x run) (k - or_zero (last_of (emission_ticks t x run)))) clock ∙ sym (greatest-end t x run) in
    let f : ℕ → ℕ → Option ℕ → Option ℕ → ℕ → LabelNumbers = λ sent fallback age least greatest. record { sent = sent; fallback = fallback; age = age; least = least; greatest = greatest } in
    ap (λ n. f n g.fallback g.age g.least greatest) h.sent ∙ ap (λ n. f (sent_count t x run) n g.age g.least greatest) h.fallback
    ∙ ap (λ o. f (sent_count t x run) (fallback_count t x run) o g.least greatest) h.age ∙ ap (λ o. f (sent_count t x run) (fallback_count t x run) (oldest_copy t x run) o greatest) h.least
    ∙ ap (λ n. f (sent_count t x run) (fallback_count t x run) (oldest_copy t x run) (least_interval t x run) n) end
