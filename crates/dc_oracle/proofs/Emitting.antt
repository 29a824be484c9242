-- One more event keeps what is carried of the emissions.
use Rattle.std.proofs.Common.{◌≡◌, ℕ, ◌+◌, ◌-◌, ◌^◌, ◌≤◌, ◌<◌, min, Bool, cond, leb, Option, Some, None, List, [], ◌∷◌, ◌++◌, length, get_or, set, refl, sym, ap, ◌∙◌, subst, arith, inl, inr, eq-eqb, length-append}
use Rattle.std.specs.Prelude.{IfSome, MatchBool}
use Rattle.std.specs.List.{flat_map}
use Rattle.std.proofs.lemmas.List.{append-nil, get_or-set_same, get_or-set_other}
use Rattle.std.proofs.lemmas.Bool.{cases_lt, cases_eq, ne_eqb, lt-leb, le-leb}
use Rattle.std.proofs.lemmas.Grind.{flat_map-append}
use Rattle.dc_bound.specs.Places.{each_place}
use Rattle.dc_bound.specs.lemmas.FirstPlaces.{each_place-push}
use Rattle.dc_tables.specs.TableRows.{TableRows, label_row}
use Rattle.dc_event.specs.Time.{tick_after}
use Rattle.dc_event.specs.Claims.{IsInTime, IsSpaced}
use Rattle.dc_event.specs.Emissions.{emission, tick_if, emission_ticks, last_or_zero}
use Rattle.dc_event.specs.lemmas.RunPush.{tick-push}
use Rattle.dc_event.specs.declared.event.Event.{Event}
use Rattle.dc_oracle.specs.declared.emissions.EmissionWatch.{EmissionWatch}
use Rattle.dc_oracle.specs.Emissions.{tick_of, IsLast, IsLimit, Emits}
use Rattle.dc_oracle.specs.Fresh.{AllMade}

-- ---- the ticks of a label's emissions

emission-push : (t : TableRows) (x : ℕ) (run : List Event) (e : Event) → emission_ticks t x (run ++ e ∷ []) ≡ emission_ticks t x run ++ tick_if x (tick_after run) (emission t run e)
unfolding emission_ticks
emission-push t x run e =
    let f : List Event → Event → List ℕ = λ past e. tick_if x (tick_after past) (emission t past e) in
    ap (λ z. flat_map (λ ts. ts) z) (each_place-push f run e)
    ∙ flat_map-append (λ ts. ts) (each_place f run) (f run e ∷ [])
    ∙ ap (λ z. flat_map (λ ts. ts) (each_place f run) ++ z) (append-nil (f run e))

emission-nil : (t : TableRows) (x : ℕ) → emission_ticks t x [] ≡ []
unfolding emission_ticks each_place
emission-nil t x = refl

emission-other : (t : TableRows) (x : ℕ) (run : List Event) (e : Event) → emission t run e ≡ None → emission_ticks t x (run ++ e ∷ []) ≡ emission_ticks t x run
emission-other t x run e h = emission-push t x run e ∙ ap (λ o. emission_ticks t x run ++ tick_if x (tick_after run) o) h ∙ append-nil (emission_ticks t x run)

emission-another : (t : TableRows) (x y : ℕ) (run : List Event) (e : Event) → emission t run e ≡ Some y → (y ≡ x → ⊥) → emission_ticks t x (run ++ e ∷ []) ≡ emission_ticks t x run
emission-another t x y run e h other =
    emission-push t x run e ∙ ap (λ o. emission_ticks t x run ++ tick_if x (tick_after run) o) h ∙ ap (λ b. emission_ticks t x run ++ cond b (tick_after run ∷ []) []) (ne_eqb y x other) ∙ append-nil (emission_ticks t x run)

emission-own : (t : TableRows) (x : ℕ) (run : List Event) (e : Event) → emission t run e ≡ Some x → emission_ticks t x (run ++ e ∷ []) ≡ emission_ticks t x run ++ tick_after run ∷ []
emission-own t x run e h =
    emission-push t x run e ∙ ap (λ o. emission_ticks t x run ++ tick_if x (tick_after run) o) h ∙ ap (λ b. emission_ticks t x run ++ cond b (tick_after run ∷ []) []) (eq-eqb x x refl)

last-push : (ts : List ℕ) (k : ℕ) → last_or_zero (ts ++ k ∷ []) ≡ k
last-push [] k = refl
last-push (a ∷ []) k = refl
last-push (a ∷ b ∷ ts) k = last-push (b ∷ ts) k

-- ---- what the last tick says

last_none : (ts : List ℕ) → length ts ≡ 0 → last_or_zero ts ≡ 0
last_none [] h = refl
last_none (a ∷ ts) h = absurd (omega arith)

pub last-tick : (ts : List ℕ) (o : Option ℕ) → IsLast ts o → last_or_zero ts ≡ tick_of o
last-tick ts None h = last_none ts h
last-tick ts (Some k) h = h.1

last-same : (ts us : List ℕ) (o : Option ℕ) → us ≡ ts → IsLast ts o → IsLast us o
last-same ts us o same h = let P : List ℕ → Type 0 = λ z. IsLast z o in subst P (sym same) h

-- ---- no events

pub emits-new : (t : TableRows) (w : EmissionWatch) → w.limit ≡ 0 → AllMade (λ _. None) None (length t.labels) w.last.items → Emits t w []
emits-new t w start made = record {
  last = λ x l. (let P : Option ℕ → Type 0 = λ o. IsLast (emission_ticks t x []) o in subst P (sym (made.1 x l)) (let none : length (emission_ticks t x []) ≡ 0 = ap (λ (z : List ℕ). length z) (emission-nil t x) in none));
  by_now = λ x l. (let none : tick_of (get_or w.last.items x None) ≡ 0 = ap tick_of (made.1 x l) in omega (arith, none));
  limit = λ x l. omega (arith, start);
}

-- ---- one more event

pub emits-other : (t : TableRows) (w : EmissionWatch) (run : List Event) (e : Event) → emission t run e ≡ None → Emits t w run → Emits t w (run ++ e ∷ [])
emits-other t w run e none h = record {
  last = λ x l. last-same _ _ _ (emission-other t x run e none) (h.last x l);
  by_now = λ x l. omega (arith, h.by_now x l, tick-push run e);
  limit = h.limit;
}

pub emits-one : (t : TableRows) (old new : EmissionWatch) (run : List Event) (e : Event) (y : ℕ) → emission t run e ≡ Some y → y < length old.last.items → new.last.items ≡ set old.last.items y (Some (tick_after run)) → new.limit ≡ old.limit → y < length t.labels → Emits t old run → Emits t new (run ++ e ∷ [])
emits-one t old new run e y one there lasts limit own h = record {
  last = λ x l. (let P : Option ℕ → Type 0 = λ o. IsLast (emission_ticks t x (run ++ e ∷ [])) o in
      elim (cases_eq y x) [
        | inl same ↦ subst P (sym (mine x same)) (
            let more = emission-own t x run e (one ∙ ap (λ z. Some z) same) in
            (omega (arith, ap (λ (z : List ℕ). length z) more, length-append (emission_ticks t x run) (tick_after run ∷ [])), ap last_or_zero more ∙ last-push (emission_ticks t x run) (tick_after run)))
        | inr other ↦ subst P (sym (theirs x other)) (last-same _ _ _ (emission-another t x y run e one other) (h.last x l))
      ]);
  by_now = λ x l. elim (cases_eq y x) [
    | inl same ↦ omega (arith, ap tick_of (mine x same), tick-push run e)
    | inr other ↦ omega (arith, ap tick_of (theirs x other), h.by_now x l, tick-push run e)
  ];
  limit = λ x l. elim (cases_eq y x) [
    | inl same ↦ omega (arith, ap tick_of (mine x same), h.limit x l, h.by_now x l, limit)
    | inr other ↦ omega (arith, ap tick_of (theirs x other), h.limit x l, limit)
  ];
}
  where
    mine : (x : ℕ) → y ≡ x → get_or new.last.items x None ≡ Some (tick_after run)
    mine x same =
        let P : ℕ → Type 0 = λ x. get_or new.last.items x None ≡ Some (tick_after run) in
        subst P same (ap (λ xs. get_or xs y None) lasts ∙ get_or-set_same old.last.items y (Some (tick_after run)) None there)

    theirs : (x : ℕ) → (y ≡ x → ⊥) → get_or new.last.items x None ≡ get_or old.last.items x None
    theirs x other = (let ne : x ≡ y → ⊥ = λ e. other (sym e) in ap (λ xs. get_or xs x None) lasts ∙ get_or-set_other old.last.items y x (Some (tick_after run)) None ne)

-- ---- overdue, and spaced

pub in_time-yes : (t : TableRows) (w : EmissionWatch) (run : List Event) (e : Event) (limit : ℕ) → ((x : ℕ) → x < length t.labels → limit ≤ tick_of (get_or w.last.items x None) + (label_row t x).maximum) → tick_after run ≤ limit → Emits t w run → IsInTime t run e
in_time-yes t w run e limit lower soon h = λ x l. omega (arith, lower x l, soon, last-tick _ _ (h.last x l))

pub in_time-no : (t : TableRows) (w : EmissionWatch) (run : List Event) (e : Event) (limit : ℕ) → IsLimit t w.last.items (length t.labels) limit → tick_after run < 2 ^ 64 → limit < tick_after run → Emits t w run → IsInTime t run e → ⊥
in_time-no t w run e limit is short late h all =
    let m = is.met (omega arith) in
    omega (arith, all m.0 m.1, m.2, late, last-tick _ _ (h.last m.0 m.1))

pub in_time-reported : (t : TableRows) (w : EmissionWatch) (run : List Event) (e : Event) (tick limit : ℕ) → IsLimit t w.last.items (length t.labels) limit → tick < 2 ^ 64 → Emits t w run → tick ≡ tick_after run
    → MatchBool (leb tick limit) (IsInTime t run e) (IsInTime t run e → ⊥)
in_time-reported t w run e tick limit is short h clock =
    let P : Bool → Type 0 = λ b. MatchBool b (IsInTime t run e) (IsInTime t run e → ⊥) in
    elim (cases_lt limit tick) [
      | inl late ↦ subst P (sym (lt-leb tick limit late)) (in_time-no t w run e limit is (omega (arith, clock, short)) (omega (arith, clock, late)) h)
      | inr soon ↦ subst P (sym (le-leb tick limit soon)) (in_time-yes t w run e limit is.lower (omega (arith, clock, soon)) h)
    ]

-- the least over one label more
pub limit-more : (t : TableRows) (last : List (Option ℕ)) (n first own least : ℕ) → IsLimit t last n first → own ≡ min (tick_of (get_or last n None) + (label_row t n).maximum) (2 ^ 64 - 1) → least ≡ min first own → IsLimit t last (n + 1) least
limit-more t last n first own least h own_is least_is = record {
  lower = λ x l. elim (cases_eq n x) [
    | inl same ↦
        let P : ℕ → Type 0 = λ x. least ≤ tick_of (get_or last x None) + (label_row t x).maximum in
        let here : least ≤ tick_of (get_or last n None) + (label_row t n).maximum = omega (arith, own_is, least_is) in
        subst P same here
    | inr other ↦ omega (arith, h.lower x (omega (arith, l, other)), least_is)
  ];
  met = λ short. elim (cases_lt first own) [
    | inl less ↦ (let m = h.met (omega (arith, short, less, least_is)) in (m.0, omega (arith, m.1), omega (arith, m.2, less, least_is)))
    | inr le ↦ (n, omega arith, omega (arith, short, le, own_is, least_is))
  ];
}

pub emits-limit : (t : TableRows) (old new : EmissionWatch) (run : List Event) → new.last.items ≡ old.last.items → IsLimit t old.last.items (length t.labels) new.limit → Emits t old run → Emits t new run
emits-limit t old new run same is h = record {
  last = λ x l. (let P : Option ℕ → Type 0 = λ o. IsLast (emission_ticks t x run) o in subst P (sym (ap (λ xs. get_or xs x None) same)) (h.last x l));
  by_now = λ x l. omega (arith, ap (λ xs. tick_of (get_or xs x None)) same, h.by_now x l);
  limit = λ x l. omega (arith, ap (λ xs. tick_of (get_or xs x None)) same, is.lower x l);
}

-- the spacing of an emission, by the last tick of its label
abbrev SpacedAt : TableRows → List Event → ℕ → Type 0
SpacedAt t run x = 1 ≤ length (emission_ticks t x run) → last_or_zero (emission_ticks t x run) + (label_row t x).minimum ≤ tick_after run

pub spaced-none : (t : TableRows) (run : List Event) (e : Event) → None ≡ emission t run e → IsSpaced t run e
spaced-none t run e is = let P : Option ℕ → Type 0 = λ o. IfSome o (SpacedAt t run) in subst P is tt

module _ (t : TableRows) (w : EmissionWatch) (run : List Event) (e : Event) (x k : ℕ) (is : Some x ≡ emission t run e) (l : x < length t.labels) (some : get_or w.last.items x None ≡ Some k) (h : Emits t w run) where
  one : (1 ≤ length (emission_ticks t x run)) × (last_or_zero (emission_ticks t x run) ≡ k)
  one = let Q : Option ℕ → Type 0 = λ o. IsLast (emission_ticks t x run) o in subst Q some (h.last x l)
