-- How many of the last ticks a history holds, by its entry so many places before its end.
use Rattle.std.proofs.Common.{Bool, refl, sym, ap, ◌∙◌, true, false, leb, ltb, ◌&&◌, ◌≡◌, ℕ, zero, suc, ◌+◌, ◌-◌, ◌≤◌, ◌<◌, ◌↔◌, Option, Some, None, List, [], ◌∷◌, ◌++◌, length, get_or, subst, arith, inl, inr}
use Rattle.std.specs.Prelude.{not}
use Rattle.std.proofs.lemmas.Bool.{cases_lt, lt-ltb, le-ltb, le-leb, lt-leb, leb-true, leb-false}
use Rattle.dc_bound.specs.Window.{HoldAtLeast, count_in, one_in, ticks_of}
use Rattle.dc_bound.specs.Run.{ticks, stamp, stamped}
use Rattle.dc_bound.specs.lemmas.Counts.{one_in_cases}
use Rattle.dc_bound.specs.Turns.{NeverFall}
use Rattle.dc_bound.specs.lemmas.Recent.{recent}
use Rattle.dc_bound.specs.lemmas.Steps.{pace_tick}
use Rattle.dc_oracle.specs.History.{held, lacking}

-- ---- the ticks of what is picked from a run never fall, and none is later than the running tick

-- ticks never fall, and none is later than this tick
abbrev pub UpTo : ℕ → List ℕ → Type 0
UpTo tick ts = NeverFall (ts ++ tick ∷ [])

lower : (t u : ℕ) (ts : List ℕ) → t ≤ u → NeverFall (u ∷ ts) → NeverFall (t ∷ ts)
unfolding NeverFall
lower t u [] h k = tt
lower t u (s ∷ ts) h k = (omega (arith, k.0), k.1)

front : (t u : ℕ) (o : Option ℕ) (rest : List (ℕ × ℕ)) (z : List ℕ) → t ≤ u → NeverFall (u ∷ (ticks_of rest ++ z)) → NeverFall (t ∷ (ticks_of (stamp t o rest) ++ z))
unfolding NeverFall
front t u None rest z h k = lower t u (ticks_of rest ++ z) h k
front t u (Some x) rest z h k = (omega arith, lower t u (ticks_of rest ++ z) h k)

up_to_end : {E : Type 0} (f : E → ℕ) (pick : E → Option ℕ) (t n : ℕ) (es : List E) → t + ticks f es ≤ n → NeverFall (t ∷ (ticks_of (stamped f pick t es) ++ (n ∷ [])))
unfolding stamped ticks NeverFall
up_to_end f pick t n [] h = (omega arith, tt)
up_to_end f pick t n (e ∷ es) h = front t (t + f e) (pick e) (stamped f pick (t + f e) es) (n ∷ []) (omega arith) (up_to_end f pick (t + f e) n es (omega arith))

tail : (t : ℕ) (ts : List ℕ) → NeverFall (t ∷ ts) → NeverFall ts
unfolding NeverFall
tail t [] h = tt
tail t (s ∷ ts) h = h.1

pub picked-up_to : {E : Type 0} (f : E → ℕ) (pick : E → Option ℕ) (es : List E) → UpTo (ticks f es) (ticks_of (stamped f pick 0 es))
picked-up_to f pick es = tail 0 (ticks_of (stamped f pick 0 es) ++ (ticks f es ∷ [])) (up_to_end f pick 0 (ticks f es) es (omega arith))

-- ---- counts from a tick on

last_is : (t n : ℕ) (ts : List ℕ) → NeverFall (t ∷ (ts ++ (n ∷ []))) → t ≤ n
unfolding NeverFall
last_is t n [] h = h.0
last_is t n (s ∷ ts) h = omega (arith, h.0, last_is s n ts h.1)

-- where the first is in the window, all are
all_in : (u d n t : ℕ) (ts : List ℕ) → n < u + d → u ≤ t → NeverFall (t ∷ (ts ++ (n ∷ []))) → count_in u d (t ∷ ts) ≡ suc (length ts)
unfolding NeverFall count_in
all_in u d n t [] high low h = elim (one_in_cases u d t) [ inl w ↦ omega (arith, w.2) | inr v ↦ elim v [ inl w ↦ absurd (omega arith) | inr w ↦ absurd (omega (arith, h.0)) ] ]
all_in u d n t (s ∷ ts) high low h =
    elim (one_in_cases u d t) [
      | inl w ↦ omega (arith, w.2, all_in u d n s ts high (omega (arith, h.0)) h.1)
      | inr v ↦ elim v [ inl w ↦ absurd (omega arith) | inr w ↦ absurd (omega (arith, last_is t n (s ∷ ts) h)) ]
    ]

all_late : (u m t n : ℕ) (ts : List ℕ) → u ≤ t → NeverFall (t ∷ (ts ++ (n ∷ []))) → m < suc (length ts) → u ≤ get_or (t ∷ ts) m 0
unfolding NeverFall
all_late u zero t n ts low h l = low
all_late u (suc m) t n [] low h l = absurd (omega arith)
all_late u (suc m) t n (s ∷ ts) low h l = all_late u m s n ts (omega (arith, h.0)) h.1 (omega arith)

-- at least k from tick u on: the entry k places before the end is there, and is in u or later
abbrev pub IsLate : ℕ → ℕ → List ℕ → Type 0
IsLate u k ts = (k ≤ length ts) × (u ≤ get_or ts (length ts - k) 0)

count_late : (u d n k : ℕ) (ts : List ℕ) → n < u + d → NeverFall (ts ++ (n ∷ [])) → 1 ≤ k → (k ≤ count_in u d ts) ↔ IsLate u k ts
unfolding NeverFall count_in
count_late u d n k [] high h some = ((λ l. absurd (omega arith)), (λ l. absurd (omega (arith, l.0))))
count_late u d n k (t ∷ ts) high h some =
    elim (cases_lt t u) [
      | inl early ↦
          let none : one_in u d t ≡ 0 = elim (one_in_cases u d t) [ inl w ↦ absurd (omega arith) | inr v ↦ elim v [ inl w ↦ w.1 | inr w ↦ w.1 ] ] in
          let rest = count_late u d n k ts high (tail t (ts ++ (n ∷ [])) h) some in (
            (λ l. (let r = rest.0 (omega arith) in
                let next : suc (length ts) - k ≡ suc (length ts - k) = omega (arith, r.0) in
                (omega (arith, r.0), rw next r.1))),
            (λ l. elim (cases_lt (length ts) k) [
              | inl over ↦
                  let first : suc (length ts) - k ≡ 0 = omega arith in
                  let P : ℕ → Type 0 = λ i. u ≤ get_or (t ∷ ts) i 0 in
                  absurd (let low : u ≤ t = subst P first l.1 in omega arith)
              | inr room ↦
                  let next : suc (length ts) - k ≡ suc (length ts - k) = omega arith in
                  let P : ℕ → Type 0 = λ i. u ≤ get_or (t ∷ ts) i 0 in
                  omega (arith, none, rest.1 (room, subst P next l.1))
            ]),
          )
      | inr from ↦
          let all : count_in u d (t ∷ ts) ≡ suc (length ts) = all_in u d n t ts high from h in (
            (λ l. (omega (arith, all), all_late u (suc (length ts) - k) t n ts from h (omega (arith, all)))),
            (λ l. omega (arith, all, l.0)),
          )
    ]

pub recent-late : (k d now : ℕ) (ts : List ℕ) → UpTo now ts → 1 ≤ k → (k ≤ recent d now ts) ↔ IsLate (suc now - d) k ts
recent-late k d now ts h some = count_late (suc now - d) d now k ts (omega arith) h some

-- none of the history is later
pub last_bound : (n : ℕ) (ts : List ℕ) → UpTo n ts → (k : ℕ) → k < length ts → get_or ts k 0 ≤ n
last_bound n [] h k l = absurd (omega arith)
last_bound n (t ∷ ts) h zero l = last_is t n ts h
last_bound n (t ∷ ts) h (suc k) l = last_bound n ts (tail t (ts ++ (n ∷ [])) h) k (omega arith)

-- so the entry tells how many the last ticks hold
pub held-recent : (count window now : ℕ) (ts : List ℕ) → UpTo now ts → 1 ≤ count → held count window now ts ≡ leb count (recent window now ts)
held-recent count window now ts h some =
    let r = recent-late count window now ts h some in
    elim (cases_lt (length ts) count) [
      | inl few ↦
          let no_entry : leb count (length ts) ≡ false = lt-leb _ _ few in
          ap (λ b. b && ltb (now - get_or ts (length ts - count) 0) window) no_entry ∙ sym (elim (cases_lt (recent window now ts) count) [
            | inl l ↦ lt-leb _ _ l
            | inr l ↦ absurd (omega (arith, (r.0 l).0))
          ])
      | inr many ↦
          let entry : leb count (length ts) ≡ true = le-leb _ _ many in
          let early = last_bound now ts h (length ts - count) (omega arith) in
          ap (λ b. b && ltb (now - get_or ts (length ts - count) 0) window) entry ∙ (elim (cases_lt (now - get_or ts (length ts - count) 0) window) [
            | inl l ↦ lt-ltb _ _ l ∙ sym (le-leb _ _ (r.1 (many, omega (arith, l, early))))
            | inr l ↦ le-ltb _ _ l ∙ sym (elim (cases_lt (recent window now ts) count) [
              | inl k ↦ lt-leb _ _ k
              | inr k ↦ absurd (omega (arith, l, (r.0 k).1, early))
            ])
          ])
    ]

-- ---- the pace of an actor

both_true : (a b : Bool) → a ≡ true → (a && not b) ≡ false → b ≡ true
both_true true true h k = refl
both_true true false h k = absurd cc
both_true false b h k = absurd cc

both_parts : (a b : Bool) → (a && not b) ≡ true → (a ≡ true) × (b ≡ false)
both_parts true true h = absurd cc
both_parts true false h = (refl, refl)
both_parts false b h = absurd cc

-- at the end of the tick an actor that lacks no steps has kept its pace
pub works-on : (steps width now : ℕ) (ts : List ℕ) → UpTo now ts → 1 ≤ steps → lacking steps width now ts ≡ false → HoldAtLeast steps width now ts → HoldAtLeast steps width (suc now) ts
works-on steps width now ts h some no_lack old =
    (pace_tick steps width now ts).1 (
      old,
      λ full.
          let open_now : leb width (now + 1) ≡ true = le-leb _ _ (omega arith) in
          leb-true _ _ (sym (held-recent steps width now ts h some) ∙ both_true _ _ open_now no_lack),
    )

-- and one that lacks some has not
pub works-not : (steps width now : ℕ) (ts : List ℕ) → UpTo now ts → 1 ≤ steps → lacking steps width now ts ≡ true → HoldAtLeast steps width (suc now) ts → ⊥
works-not steps width now ts h some lack works =
    let parts = both_parts _ _ lack in
    let full : width ≤ now + 1 = leb-true _ _ parts.0 in
    let few : recent width now ts < steps = leb-false _ _ (sym (held-recent steps width now ts h some) ∙ parts.1) in
    let enough = ((pace_tick steps width now ts).0 works).1 (omega arith) in
    omega arith
