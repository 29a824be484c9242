-- What the claims say of a word that leaves, from what is carried.
use Rattle.std.proofs.Common.{◌≡◌, ℕ, zero, suc, ◌+◌, ◌-◌, ◌^◌, ◌≤◌, ◌<◌, ◌&&◌, ◌==◌, Bool, true, false, cond, leb, min, Option, Some, None, option_map, List, [], ◌∷◌, ◌++◌, length, get_or, refl, sym, ap, ◌∙◌, subst, arith, inl, inr, eq-eqb}
use Rattle.std.specs.Prelude.{MatchBool, slice_index, not}
use Rattle.std.specs.List.{flat_map, filter, Contains}
use Rattle.std.proofs.lemmas.Bool.{cases_Bool, cases_lt, cases_eq, ne_eqb, and_parts, eqb-true, leb-true, leb-false, lt-leb, le-leb}
use Rattle.std.proofs.lemmas.List.Elements.{Contains-append_cases, All-filter, All-contains, All-contains_itself}
use Rattle.dc_bound.specs.Moves.{Move, item, routed_tick, latest_number, latest_by}
use Rattle.dc_word.specs.Format.{is_usable}
use Rattle.dc_tables.specs.TableRows.{TableRows, AreValid, stream_row, label_row}
use Rattle.dc_event.specs.Time.{tick_after}
use Rattle.dc_event.specs.Alive.{IsAlive, AreUsable}
use Rattle.dc_event.specs.Buses.{moves, room, is_latched}
use Rattle.dc_event.specs.Choice.{fresh, fresh_word, head, chosen_source, chosen, word_for}
use Rattle.dc_event.specs.Claims.{IsYoung, UsesFirst, UsesAny}
use Rattle.dc_event.specs.Latest.{is_of_stream, latest, latest_arrived}
use Rattle.dc_event.specs.declared.event.Event.{Event}
use Rattle.dc_oracle.specs.declared.arrivals.ArrivalWatch.{ArrivalWatch}
use Rattle.dc_oracle.specs.Arrivals.{Follows}
use Rattle.dc_oracle.specs.Claims.{IsAnyGood, IsWhether}
use Rattle.dc_oracle.specs.Life.{alive_at, good_at, no_life}
use Rattle.dc_oracle.proofs.Living.{beats-alive, beats-dead, fine-usable, fine-useless}
use Rattle.dc_oracle.proofs.Taking.{last_below-passes}

-- ---- the stream that a label copies is one of its sources

number-own : (room s : ℕ) (ms : List Move) (n : ℕ) → latest_number room (is_of_stream s) ms ≡ Some n → (item room ms n).0 ≡ s
unfolding latest_number
number-own room s ms n h = eqb-true _ _ ((last_below-passes (λ n. is_of_stream s (item room ms n)) _ n h).1)

only_in : {A : Type 0} (b : Bool) (y c : A) → Contains (cond b (y ∷ []) []) c → c ≡ y
only_in true y c (zero, h, e) = sym e
only_in true y c (suc k, h, e) = absurd (omega arith)
only_in false y c (k, h, e) = absurd (omega arith)

fresh-own : (t : TableRows) (x s : ℕ) (now : List Event) (a : ℕ × ℕ) → Contains (fresh t x now s) a → a.0 ≡ s
unfolding fresh latest latest_by
fresh-own t x s now a h =
    let b = (stream_row t s).bus in
    let all : ℕ → (ℕ × ℕ) × ℕ = λ n. (item (room t (stream_row t s).bus) (moves t (stream_row t s).bus now) n, routed_tick (room t (stream_row t s).bus) n (moves t (stream_row t s).bus now)) in
    elim (is_latched t (stream_row t s).bus now) as (λ v. Contains (cond v [] (fresh_word (label_row t x).stale (tick_after now) (latest t s now))) a → a.0 ≡ s) [
      | true ↦ λ h. absurd (omega (arith, h.1))
      | false ↦ λ h.
          elim (latest_number (room t (stream_row t s).bus) (is_of_stream s) (moves t (stream_row t s).bus now)) as (λ o. latest_number (room t (stream_row t s).bus) (is_of_stream s) (moves t (stream_row t s).bus now) ≡ o
          → Contains (fresh_word (label_row t x).stale (tick_after now) (option_map all o)) a → a.0 ≡ s) [
            | None ↦ λ is h. absurd (omega (arith, h.1))
            | Some n ↦ λ is h.
                let same : a ≡ (all n).0 = only_in (leb (tick_after now - (all n).1) (label_row t x).stale) (all n).0 a h in
                ap (λ (z : ℕ × ℕ). z.0) same ∙ number-own _ s _ n is
          ] refl h
    ] h

head-in : (cs : List (ℕ × ℕ)) (c : ℕ × ℕ) → head cs ≡ Some c → Contains cs c
head-in [] c h = absurd cc
head-in (d ∷ cs) c h = let e : d ≡ c = cc in (0, omega arith, e)

choice-in : (p : (ℕ × ℕ) → Bool) (cs : List (ℕ × ℕ)) (c : ℕ × ℕ) → head (filter p cs ++ cs) ≡ Some c → Contains cs c
choice-in p cs c h =
    elim (Contains-append_cases (filter p cs) cs c (head-in (filter p cs ++ cs) c h)) [
      | inl kept ↦ All-contains (λ d. Contains cs d) (filter p cs) c (All-filter p (λ d. Contains cs d) cs (All-contains_itself cs)) kept
      | inr there ↦ there
    ]

flat_map-in : (f : ℕ → List (ℕ × ℕ)) (xs : List ℕ) (c : ℕ × ℕ) → Contains (flat_map f xs) c → (k : ℕ) × (k < length xs) × Contains (f (get_or xs k 0)) c
flat_map-in f [] c (k, h, e) = absurd (omega arith)
flat_map-in f (x ∷ xs) c there =
    elim (Contains-append_cases (f x) (flat_map f xs) c there) [
      | inl here ↦ (0, omega arith, here)
      | inr later ↦ let r = flat_map-in f xs c later in (suc r.0, omega (arith, r.1), r.2)
    ]

pub copied-there : (t : TableRows) (x : ℕ) (now : List Event) (a : ℕ × ℕ) → AreValid t → x < length t.labels → chosen_source t x now ≡ Some a → a.0 < length t.streams
unfolding chosen_source
copied-there t x now a v there is =
    let r = flat_map-in (fresh t x now) (label_row t x).sources a (choice-in (λ d. is_usable (label_row t x).format d.1) (flat_map (fresh t x now) (label_row t x).sources) a is) in
    let same : a.0 ≡ get_or (label_row t x).sources r.0 0 = fresh-own t x (get_or (label_row t x).sources r.0 0) now a r.2 in
    omega (arith, same, v.sources_there x r.0 there r.1)

-- ---- ages

pub young-fallback : (t : TableRows) (x age : ℕ) (now : List Event) (o : Option (ℕ × ℕ)) → o ≡ chosen_source t x now → word_for t x o ≡ word_for t x None → IsYoung t x age now
young-fallback t x age now o is same = inl (ap (word_for t x) (sym is) ∙ same)

module _ (t : TableRows) (v : AreValid t) (w : ArrivalWatch) (x age : ℕ) (now : List Event) (there : x < length t.labels) (h : Follows t w now) (a : ℕ × ℕ) (is : Some a ≡ chosen_source t x now) where
  came-of : get_or w.latest.items a.0 None ≡ latest_arrived t a.0 now
  came-of = h.latest a.0 (copied-there t x now a v there (sym is))

  pub young-yes : (k : ℕ) → get_or w.latest.items a.0 None ≡ Some k → tick_after now ≤ k + age → IsYoung t x age now
  young-yes k some le = inr (a, k, record { copied = sym is; arrived = sym came-of ∙ some; aged = le })

  -- the word is not the fallback, and what it copies is older
  pub young-no : (o : Option ℕ) → get_or w.latest.items a.0 None ≡ o → ((k : ℕ) → o ≡ Some k → k + age < tick_after now) → (word_for t x (Some a) ≡ word_for t x None → ⊥) → IsYoung t x age now → ⊥
  young-no o some old other (inl same) = other (ap (word_for t x) is ∙ same)
  young-no o some old other (inr (d, k, c)) =
      let same : a ≡ d = (let e : Some a ≡ Some d = is ∙ c.copied in cc) in
      let P : ℕ × ℕ → Type 0 = λ z. latest_arrived t z.0 now ≡ Some k in
      let at : latest_arrived t a.0 now ≡ Some k = subst P (sym same) c.arrived in
      omega (arith, c.aged, old k (sym some ∙ came-of ∙ at))

  -- the latest word of its source did not come in time: it is young where it is the fallback
  pub young-else : (answer : Bool) (m n : ℕ) → answer ≡ (m == n) → m ≡ word_for t x (Some a) → n ≡ word_for t x None
      → ((came : ℕ) × (get_or w.latest.items a.0 None ≡ Some came) × (tick_after now ≤ came + age) → ⊥) → MatchBool answer (IsYoung t x age now) (IsYoung t x age now → ⊥)
  young-else answer m n test sent back none =
      let P : Bool → Type 0 = λ b. MatchBool b (IsYoung t x age now) (IsYoung t x age now → ⊥) in
      elim (cases_eq m n) [
        | inl same ↦ subst P (sym (test ∙ eq-eqb m n same)) (young-fallback t x age now (Some a) is (sym sent ∙ same ∙ back))
        | inr other ↦ subst P (sym (test ∙ ne_eqb m n other))
            (young-no (get_or w.latest.items a.0 None) refl (λ k some. elim (cases_lt (k + age) (tick_after now)) [
              | inl old ↦ old
              | inr soon ↦ absurd (none (k, some, soon))
            ]) (λ same. other (sent ∙ same ∙ sym back)))
      ]

-- ---- when the latest word of a stream came

pub within-no : (o : Option ℕ) (tick age : ℕ) → o ≡ None → (came : ℕ) × (o ≡ Some came) × (tick ≤ came + age) → ⊥
within-no o tick age none z = let both : None ≡ Some z.0 = sym none ∙ z.1 in cc

pub within-reported : (o : Option ℕ) (k tick now age limit : ℕ) → o ≡ Some k → limit ≡ min (k + age) (2 ^ 64 - 1) → tick < 2 ^ 64 → tick ≡ now
    → IsWhether ((came : ℕ) × (o ≡ Some came) × (now ≤ came + age)) (leb tick limit)
within-reported o k tick now age limit some is short clock =
    let P : Bool → Type 0 = λ b. IsWhether ((came : ℕ) × (o ≡ Some came) × (now ≤ came + age)) b in
    elim (cases_lt limit tick) [
      | inl late ↦ subst P (sym (lt-leb tick limit late)) (λ z. (let e : Some k ≡ Some z.0 = sym some ∙ z.1 in let same : k ≡ z.0 = cc in omega (arith, same, z.2, late, is, short, clock)))
      | inr soon ↦ subst P (sym (le-leb tick limit soon)) (k, some, omega (arith, soon, is, clock))
    ]

-- ---- live sources

both_false : (a b : Bool) → (a && b) ≡ false → a ≡ true → b ≡ false
both_false true b e k = e
both_false false b e k = absurd cc

-- by the life of a source
pub good-is : (t : TableRows) (v : AreValid t) (w : ArrivalWatch) (x s : ℕ) (now : List Event) (there : s < length t.streams) → Follows t w now → (answer : Bool)
    → answer ≡ good_at (stream_row t s).maximum (label_row t x).format (label_row t x).stale (tick_after now) (get_or w.lives.items s no_life)
    → MatchBool answer (IsAlive t x s now × AreUsable t x s now) (IsAlive t x s now → AreUsable t x s now → ⊥)
good-is t v w x s now there h true is =
    let life = h.lives s there in
    let some : 1 ≤ (stream_row t s).maximum = omega (arith, v.minimums s there, v.maximums s there) in
    let p = and_parts _ _ (sym is) in
    let a = beats-alive (stream_row t s).maximum (tick_after now) _ (get_or w.lives.items s no_life) some life.beats (label_row t x).stale p.0 in
    (record { old_enough = a.0; sends = a.1 }, fine-usable (label_row t x).format s _ (tick_after now - (label_row t x).stale) _ (life.words (label_row t x).format) (leb-true _ _ p.1))
good-is t v w x s now there h false is = λ alive usable.
    let life = h.lives s there in
    let some : 1 ≤ (stream_row t s).maximum = omega (arith, v.minimums s there, v.maximums s there) in
    elim (cases_Bool (alive_at (stream_row t s).maximum (label_row t x).stale (tick_after now) (get_or w.lives.items s no_life))) [
      | inl yes' ↦ fine-useless (label_row t x).format s _ (tick_after now - (label_row t x).stale) _ (life.words (label_row t x).format) (leb-false _ _ (both_false _ _ (sym is) yes')) usable
      | inr no' ↦ beats-dead (stream_row t s).maximum (tick_after now) _ (get_or w.lives.items s no_life) some life.beats (label_row t x).stale no' alive.old_enough alive.sends
    ]

-- ---- the first source, and any

pub first-copied : (t : TableRows) (x s : ℕ) (now : List Event) (a : ℕ × ℕ) → s ≡ slice_index (label_row t x).sources 0 → Some a ≡ chosen_source t x now → a.0 ≡ s → UsesFirst t x now
first-copied t x s now a is copied same = λ alive usable. (a.1, sym copied ∙ ap (λ k. Some (k, a.1)) (same ∙ is))

pub first-left : (t : TableRows) (x s : ℕ) (now : List Event) (o : Option (ℕ × ℕ)) → s ≡ slice_index (label_row t x).sources 0 → o ≡ chosen_source t x now → IsAlive t x s now × AreUsable t x s now → ((w : ℕ) → o ≡ Some (s, w) → ⊥) → UsesFirst t x now → ⊥
first-left t x s now o is copied good other uses =
    let P : ℕ → Type 0 = λ s. IsAlive t x s now in
    let Q : ℕ → Type 0 = λ s. AreUsable t x s now in
    let r = uses (subst P is good.0) (subst Q is good.1) in
    other r.0 (copied ∙ r.1 ∙ ap (λ k. Some (k, r.0)) (sym is))

pub any-idle : (t : TableRows) (x : ℕ) (now : List Event) → IsAnyGood t x now false → UsesAny t x now
any-idle t x now none = λ k l alive usable. absurd (none k l alive usable)

pub any-left : (t : TableRows) (x : ℕ) (now : List Event) (o : Option (ℕ × ℕ)) → o ≡ chosen_source t x now → is_usable (label_row t x).format (word_for t x o) ≡ false → IsAnyGood t x now true → UsesAny t x now → ⊥
any-left t x now o is useless good uses =
    let yes' : is_usable (label_row t x).format (chosen t x now) ≡ true = uses good.0 good.1 good.2 good.3 in
    let both : true ≡ false = sym yes' ∙ ap (λ z. is_usable (label_row t x).format (word_for t x z)) (sym is) ∙ useless in
    cc

-- the word is not usable: what is said of the sources turns round
pub any-reported : (t : TableRows) (x : ℕ) (now : List Event) (o : Option (ℕ × ℕ)) (good : Bool) → o ≡ chosen_source t x now → is_usable (label_row t x).format (word_for t x o) ≡ false → IsAnyGood t x now good → MatchBool (not good) (UsesAny t x now) (UsesAny t x now → ⊥)
any-reported t x now o true is useless h = any-left t x now o is useless h
any-reported t x now o false is useless h = any-idle t x now h

-- by the number of the stream that is copied
pub first-reported : (t : TableRows) (x s : ℕ) (now : List Event) (a : ℕ × ℕ) → s ≡ slice_index (label_row t x).sources 0 → Some a ≡ chosen_source t x now → IsAlive t x s now × AreUsable t x s now → MatchBool (a.0 == s) (UsesFirst t x now) (UsesFirst t x now → ⊥)
first-reported t x s now a is copied good =
    let P : Bool → Type 0 = λ b. MatchBool b (UsesFirst t x now) (UsesFirst t x now → ⊥) in
    elim (cases_eq a.0 s) [
      | inl same ↦ subst P (sym (eq-eqb a.0 s same)) (first-copied t x s now a is copied same)
      | inr other ↦ subst P (sym (ne_eqb a.0 s other)) (first-left t x s now (Some a) is copied good (λ w e. other (let same : a ≡ (s, w) = cc in ap (λ (z : ℕ × ℕ). z.0) same)))
    ]

-- ---- two answers are one

pub second-reported : (b : Bool) (P Q : Type 0) → P → MatchBool b Q (Q → ⊥) → MatchBool b (P × Q) (P × Q → ⊥)
second-reported true P Q h k = (h, k)
second-reported false P Q h k = λ z. k z.1
