-- How old a word is that a label copies.
use Rattle.std.proofs.Common.{◌≡◌, ℕ, zero, suc, ◌+◌, ◌-◌, ◌≤◌, ◌<◌, ◌==◌, max, Bool, true, false, cond, leb, Option, Some, None, option_map, List, [], ◌∷◌, ◌++◌, length, get_or, refl, sym, ap, ◌∙◌, subst, arith, inl, inr, append_assoc}
use Rattle.std.specs.List.{flat_map, filter, Contains}
use Rattle.std.specs.Prelude.{IfSome}
use Rattle.std.proofs.lemmas.Bool.{eqb-true, leb-true}
use Rattle.std.proofs.lemmas.Grind.{flat_map-append}
use Rattle.std.proofs.lemmas.List.{append-nil}
use Rattle.std.proofs.lemmas.List.Elements.{Contains-append_cases, All-filter, All-contains, All-contains_itself}
use Rattle.dc_bound.specs.Moves.{Move, taken, item, routed_tick, arrived_tick, latest_number, latest_by}
use Rattle.dc_bound.specs.Places.{each_place, last_below}
use Rattle.dc_bound.specs.lemmas.FirstPlaces.{each_place-push, snoc_induction}
use Rattle.dc_event.specs.Buses.{moves, room, is_latched}
use Rattle.dc_event.specs.Choice.{head, fresh_word, fresh, chosen_source}
use Rattle.dc_event.specs.Emissions.{emission}
use Rattle.dc_event.specs.Latest.{is_of_stream, latest, latest_arrived}
use Rattle.dc_event.specs.Time.{ends, tick_after}
use Rattle.dc_event.specs.declared.event.Event.{Event}
use Rattle.dc_event.specs.declared.event.Event.TheVariants.{Tick, Arrive, Route, Send}
use Rattle.dc_event.specs.lemmas.RunPush.{tick-push}
use Rattle.dc_observe.specs.Observed.{age_of_sent, age_if, ages_of, greatest_age, oldest_copy}
use Rattle.dc_tables.specs.TableRows.{TableRows, stream_row, label_row}
use Rattle.dc_word.specs.Format.{is_usable}
use Rattle.dc_within.proofs.Routed.{RoutedWithin}

-- ---- what is chosen is a fresh word of a source

head-in : (cs : List (ℕ × ℕ)) (c : ℕ × ℕ) → head cs ≡ Some c → Contains cs c
head-in [] c h = absurd cc
head-in (d ∷ cs) c h = let e : d ≡ c = cc in (0, omega arith, e)

chosen-in : (p : (ℕ × ℕ) → Bool) (cs : List (ℕ × ℕ)) (c : ℕ × ℕ) → head (filter p cs ++ cs) ≡ Some c → Contains cs c
chosen-in p cs c h =
    elim (Contains-append_cases (filter p cs) cs c (head-in (filter p cs ++ cs) c h)) [
      | inl kept ↦ All-contains (λ d. Contains cs d) (filter p cs) c (All-filter p (λ d. Contains cs d) cs (All-contains_itself cs)) kept
      | inr there ↦ there
    ]

joined-in : {A : Type 0} (f : ℕ → List A) (xs : List ℕ) (c : A) → Contains (flat_map f xs) c → (k : ℕ) × (k < length xs) × Contains (f (get_or xs k 0)) c
joined-in f [] c (k, h, e) = absurd (omega arith)
joined-in f (x ∷ xs) c there =
    elim (Contains-append_cases (f x) (flat_map f xs) c there) [
      | inl here ↦ (0, omega arith, here)
      | inr later ↦ let r = joined-in f xs c later in (suc r.0, omega (arith, r.1), r.2)
    ]

-- a list of one item at most, where a test passes
only-in : {A : Type 0} (b : Bool) (y c : A) → Contains (cond b (y ∷ []) []) c → (b ≡ true) × (c ≡ y)
only-in true y c (zero, h, e) = (refl, sym e)
only-in true y c (suc k, h, e) = absurd (omega arith)
only-in false y c (k, h, e) = absurd (omega arith)

-- the greatest number below n that passes is below n, and passes
last_below-passes : (p : ℕ → Bool) (n m : ℕ) → last_below p n ≡ Some m → (m < n) × (p m ≡ true)
last_below-passes p zero m h = absurd cc
last_below-passes p (suc n) m h =
    elim (p n) as (λ b. p n ≡ b → cond b (Some n) (last_below p n) ≡ Some m → (m < suc n) × (p m ≡ true)) [
      | true ↦ λ is h. (let e : n ≡ m = cc in (omega arith, ap p (sym e) ∙ is))
      | false ↦ λ is h. (let r = last_below-passes p n m h in (omega (arith, r.0), r.1))
    ] refl h

-- the run as the bus of a stream sees it, and the room of its queue
abbrev stream_moves : TableRows → ℕ → List Event → List Move
stream_moves t s now = moves t (stream_row t s).bus now

abbrev stream_room : TableRows → ℕ → ℕ
stream_room t s = room t (stream_row t s).bus

-- a word that stands for a fresh source: the taken word of this number, routed at most `stale` ticks ago
record IsFresh (t : TableRows) (x s : ℕ) (now : List Event) (c : ℕ × ℕ) (n : ℕ) : Type 0 where
  of : c.0 ≡ s
  gone : n < taken (stream_room t s) (stream_moves t s now)
  last : latest_number (stream_room t s) (is_of_stream s) (stream_moves t s now) ≡ Some n
  lately : tick_after now ≤ routed_tick (stream_room t s) n (stream_moves t s now) + (label_row t x).stale

fresh-is : (t : TableRows) (x s : ℕ) (now : List Event) (c : ℕ × ℕ) → Contains (fresh t x now s) c → (n : ℕ) × IsFresh t x s now c n
unfolding fresh latest latest_by latest_number
fresh-is t x s now c h =
    let all : ℕ → (ℕ × ℕ) × ℕ = λ n. (item (stream_room t s) (stream_moves t s now) n, routed_tick (stream_room t s) n (stream_moves t s now)) in
    let passes : ℕ → Bool = λ n. is_of_stream s (item (stream_room t s) (stream_moves t s now) n) in
    let most : ℕ = taken (stream_room t s) (stream_moves t s now) in
    elim (is_latched t (stream_row t s).bus now) as (λ v. Contains (cond v [] (fresh_word (label_row t x).stale (tick_after now) (latest t s now))) c → (n : ℕ) × IsFresh t x s now c n) [
      | true ↦ λ h. absurd (omega (arith, h.1))
      | false ↦ λ h.
          elim (last_below passes most) as (λ o. last_below passes most ≡ o → Contains (fresh_word (label_row t x).stale (tick_after now) (option_map all o)) c → (n : ℕ) × IsFresh t x s now c n) [
            | None ↦ λ is h. absurd (omega (arith, h.1))
            | Some n ↦ λ is h.
                let r = only-in (leb (tick_after now - (all n).1) (label_row t x).stale) (all n).0 c h in
                let p = last_below-passes passes most n is in
                (n, record { of = ap (λ z. z.0) r.1 ∙ eqb-true _ _ p.1; gone = p.0; last = is; lately = omega (arith, leb-true _ _ r.0) })
          ] refl h
    ] h

-- ---- so it is young

-- each word of a source is routed within its delay, and its delay and the stale limit are within the age
abbrev pub SourcesWithin : TableRows → (x age : ℕ) → List Event → Type 0
SourcesWithin t x age now =
    (k : ℕ) → k < length (label_row t x).sources → (delay : ℕ) × RoutedWithin (stream_room t (get_or (label_row t x).sources k 0)) delay (stream_moves t (get_or (label_row t x).sources k 0) now) × ((label_row t x).stale + delay ≤ age)

pub copied-young : (t : TableRows) (x age : ℕ) (now : List Event) → SourcesWithin t x age now → (c : ℕ × ℕ) (came : ℕ) → chosen_source t x now ≡ Some c → latest_arrived t c.0 now ≡ Some came → tick_after now - came ≤ age
unfolding chosen_source latest_arrived
copied-young t x age now within c came chosen arrived =
    let among : Contains (flat_map (fresh t x now) (label_row t x).sources) c = chosen-in (λ d. is_usable (label_row t x).format d.1) (flat_map (fresh t x now) (label_row t x).sources) c chosen in
    let r = joined-in (fresh t x now) (label_row t x).sources c among in
    let s : ℕ = get_or (label_row t x).sources r.0 0 in
    let f = fresh-is t x (get_or (label_row t x).sources r.0 0) now c r.2 in
    let w = within r.0 r.1 in
    let number : ℕ = f.0 in
    let at : Some (arrived_tick f.0 (stream_moves t (get_or (label_row t x).sources r.0 0) now)) ≡ Some came =
    sym (ap (λ s. latest_arrived t s now) f.1.of ∙ ap (λ o. elim o [ None ↦ None | Some n ↦ Some (arrived_tick n (stream_moves t (get_or (label_row t x).sources r.0 0) now)) ]) f.1.last) ∙ arrived in
    let same : arrived_tick f.0 (stream_moves t (get_or (label_row t x).sources r.0 0) now) ≡ came = cc in
    omega (arith, f.1.lately, w.1 f.0 f.1.gone, w.2, same)

-- ---- all that are copied

abbrev AtMost : ℕ → Option ℕ → Type 0
AtMost age o = IfSome o (λ a. a ≤ age)

-- the greatest of an age and of later ones
greatest_more : (a age : ℕ) (o : Option ℕ) → a ≤ age → AtMost age o → (elim o [ None ↦ a | Some b ↦ max a b ]) ≤ age
greatest_more a age None h g = h
greatest_more a age (Some b) h g = omega arith

greatest_less : (a age : ℕ) (o : Option ℕ) → (elim o [ None ↦ a | Some b ↦ max a b ]) ≤ age → (a ≤ age) × AtMost age o
greatest_less a age None h = (h, tt)
greatest_less a age (Some b) h = (omega arith, omega arith)

greatest-push : (age : ℕ) (xs : List (Option ℕ)) (o : Option ℕ) → AtMost age (greatest_age xs) → AtMost age o → AtMost age (greatest_age (xs ++ o ∷ []))
greatest-push age [] None h g = tt
greatest-push age [] (Some a) h g = g
greatest-push age (None ∷ xs) o h g = greatest-push age xs o h g
greatest-push age (Some a ∷ xs) o h g =
    let r = greatest_less a age (greatest_age xs) h in
    greatest_more a age (greatest_age (xs ++ o ∷ [])) r.0 (greatest-push age xs o r.1 g)

ages-push : (t : TableRows) (x : ℕ) (run : List Event) (e : Event) → ages_of t x (run ++ e ∷ []) ≡ ages_of t x run ++ age_if t x run e (emission t run e)
unfolding ages_of
ages-push t x run e =
    let f : List Event → Event → List (Option ℕ) = λ past e. age_if t x past e (emission t past e) in
    ap (λ l. flat_map (λ a. a) l) (each_place-push f run e) ∙ flat_map-append (λ a. a) (each_place f run) (f run e ∷ []) ∙ ap (λ a. ages_of t x run ++ a) (append-nil (f run e))

ages-nil : (t : TableRows) (x : ℕ) → ages_of t x [] ≡ []
unfolding ages_of each_place
ages-nil t x = refl

-- nothing but a send emits, and a send ends no tick
emits_calm : (t : TableRows) (past : List Event) (e : Event) (y : ℕ) → emission t past e ≡ Some y → ends e ≡ 0
unfolding emission
emits_calm t past Tick y is = absurd cc
emits_calm t past (Arrive w b) y is = refl
emits_calm t past (Route r) y is = refl
emits_calm t past (Send o) y is = refl

copied_age : (t : TableRows) (x age : ℕ) (past : List Event) (e : Event) → tick_after (past ++ e ∷ []) ≡ tick_after past → SourcesWithin t x age (past ++ e ∷ [])
    → AtMost age (age_of_sent t x past e)
copied_age t x age past e calm within =
    let now : List Event = past ++ e ∷ [] in
    elim (chosen_source t x now) as (λ o. chosen_source t x now ≡ o → AtMost age (elim o [ None ↦ None | Some c ↦ option_map (λ came. tick_after past - came) (latest_arrived t c.0 now) ])) [
      | None ↦ λ is. tt
      | Some c ↦ λ is. elim (latest_arrived t c.0 now) as (λ l. latest_arrived t c.0 now ≡ l → AtMost age (option_map (λ came. tick_after past - came) l)) [
        | None ↦ λ at. tt
        | Some came ↦ λ at. omega (arith, copied-young t x age now within c came is at, calm)
      ] refl
    ] refl

-- one more event
age_more : (t : TableRows) (x age : ℕ) (past : List Event) (e : Event) → AtMost age (greatest_age (ages_of t x past)) → SourcesWithin t x age (past ++ e ∷ [])
    → AtMost age (greatest_age (ages_of t x past ++ age_if t x past e (emission t past e)))
age_more t x age past e before within =
    let same : AtMost age (greatest_age (ages_of t x past ++ [])) = subst (λ l. AtMost age (greatest_age l)) (sym (append-nil (ages_of t x past))) before in
    elim (emission t past e) as (λ o. emission t past e ≡ o → AtMost age (greatest_age (ages_of t x past ++ age_if t x past e o))) [
      | None ↦ λ is. same
      | Some y ↦ λ is.
          let calm : tick_after (past ++ e ∷ []) ≡ tick_after past = omega (arith, tick-push past e, emits_calm t past e y is) in
          elim (y == x) as (λ v. AtMost age (greatest_age (ages_of t x past ++ cond v (age_of_sent t x past e ∷ []) []))) [
            | true ↦ greatest-push age (ages_of t x past) (age_of_sent t x past e) before (copied_age t x age past e calm within)
            | false ↦ same
          ]
    ] refl

pub age-within : (t : TableRows) (x age : ℕ) (run : List Event) → ((past rest : List Event) → run ≡ past ++ rest → SourcesWithin t x age past) → AtMost age (oldest_copy t x run)
age-within t x age run =
    let Young : List Event → Type 0 = λ run. AtMost age (greatest_age (ages_of t x run)) in
    let Kept : List Event → Type 0 = λ run. ((past rest : List Event) → run ≡ past ++ rest → SourcesWithin t x age past) → AtMost age (greatest_age (ages_of t x run)) in
    snoc_induction Kept (λ h. subst (λ l. AtMost age (greatest_age l)) (sym (ages-nil t x)) tt) (λ run e rec h.
    subst (λ l. AtMost age (greatest_age l)) (sym (ages-push t x run e))
    (age_more t x age run e (rec (λ past rest is. h past (rest ++ e ∷ []) (ap (λ z. z ++ e ∷ []) is ∙ append_assoc past rest (e ∷ [])))) (h (run ++ e ∷ []) [] (sym (append-nil (run ++ e ∷ [])))))) run
