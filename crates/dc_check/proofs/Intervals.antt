-- From timely emissions to intervals.
use Rattle.std.proofs.Common.{◌≡◌, ℕ, ◌+◌, ◌<◌, ◌≤◌, suc, Bool, true, false, cond, List, [], ◌∷◌, ◌++◌, length, refl, ap, sym, ◌∙◌, subst, arith, ◌⊎◌, inl, inr, append_assoc}
use Rattle.std.proofs.lemmas.Bool.{cases_lt}
use Rattle.std.proofs.lemmas.List.{append-nil, length_push}

-- the last of some numbers, or else d
abbrev pub last_or : List ℕ → ℕ → ℕ
last_or [] d = d
last_or (x ∷ xs) d = last_or xs x

pub last_or-push : (xs : List ℕ) (y d : ℕ) → last_or (xs ++ (y ∷ [])) d ≡ y
last_or-push [] y d = refl
last_or-push (x ∷ xs) y d = last_or-push xs y x

events_on : {E : Type 0} (P : List E → Type 0) → ((past : List E) (e : E) → P past → P (past ++ (e ∷ []))) → (past rest : List E) → P past → P (past ++ rest)
events_on P step past [] h = subst P (sym (append-nil past)) h
events_on P step past (e ∷ rest) h = subst P (append_assoc past (e ∷ []) rest) (events_on P step (past ++ (e ∷ [])) rest (step past e h))

-- what holds of no events, and goes on with each event, holds of each run
pub by_events : {E : Type 0} (P : List E → Type 0) → P [] → ((past : List E) (e : E) → P past → P (past ++ (e ∷ []))) → (run : List E) → P run
by_events P start step run = events_on P step [] run start

-- in each beginning of a run no entry has left before it is due, and each one has whose due tick and `delay` more are over
pub record IsTimely {E : Type 0} (tick sent : List E → ℕ) (due : ℕ → ℕ) (delay : ℕ) (run : List E) : Type 0 where
  pub never_early : (past rest : List E) → run ≡ past ++ rest → (n : ℕ) → n < sent past → due n ≤ tick past
  pub in_time : (past rest : List E) → run ≡ past ++ rest → (n : ℕ) → due n + delay < tick past → n < sent past

pub timely_past : {E : Type 0} (tick sent : List E → ℕ) (due : ℕ → ℕ) (delay : ℕ) (past rest : List E) → IsTimely tick sent due delay (past ++ rest) → IsTimely tick sent due delay past
timely_past tick sent due delay past rest h = record {
  never_early = λ a b e n l. h.never_early a (b ++ rest) (ap (λ z. z ++ rest) e ∙ append_assoc a b rest) n l;
  in_time = λ a b e n l. h.in_time a (b ++ rest) (ap (λ z. z ++ rest) e ∙ append_assoc a b rest) n l;
}

-- each event of a run is fine
abbrev pub Each : {E : Type 0} → (E → Type 0) → List E → Type 0
Each {E} fine run = (past rest : List E) (e : E) → run ≡ past ++ (e ∷ rest) → fine e

pub each_past : {E : Type 0} (fine : E → Type 0) (past rest : List E) → Each fine (past ++ rest) → Each fine past
each_past fine past rest h a b e s = h a (b ++ rest) e (ap (λ z. z ++ rest) s ∙ append_assoc a (e ∷ b) rest)

-- what an event may do, where `emits` marks those that emit an entry that passes: nothing is emitted, or the next entry, and then the tick stays
pub record Emits {E : Type 0} (fine : E → Type 0) (tick sent : List E → ℕ) (passes : ℕ → Bool) (emits : List E → E → Bool) : Type 0 where
  pub none_sent : sent [] ≡ 0
  pub marked : (past : List E) (e : E) → fine e → emits past e ≡ true → (passes (sent past) ≡ true) × (sent (past ++ (e ∷ [])) ≡ suc (sent past)) × (tick (past ++ (e ∷ [])) ≡ tick past)
  pub other : (past : List E) (e : E) → fine e → emits past e ≡ false → (sent (past ++ (e ∷ [])) ≡ sent past) ⊎ ((passes (sent past) ≡ false) × (sent (past ++ (e ∷ [])) ≡ suc (sent past)))

-- entries that pass: two of them are due at least `least` apart, each is followed by one due at most `greatest` later, and one is due by then
pub record IsSpacedOut (due : ℕ → ℕ) (passes : ℕ → Bool) (least greatest : ℕ) : Type 0 where
  pub ascend : (i j : ℕ) → i < j → due i < due j
  pub apart : (i j : ℕ) → i < j → passes i ≡ true → passes j ≡ true → due i + least ≤ due j
  pub next : (i : ℕ) → passes i ≡ true → (j : ℕ) × (i < j) × (passes j ≡ true) × (due j ≤ due i + greatest)
  pub first : (j : ℕ) × (passes j ≡ true) × (due j ≤ greatest)

-- the ticks of emissions so far, and the number of the last entry that passed among those that have left
abbrev pub Reported : (due : ℕ → ℕ) (delay : ℕ) (passes : ℕ → Bool) (n : ℕ) (reported : List ℕ) → Type 0
Reported due delay passes n reported =
    ((reported ≡ []) × ((k : ℕ) → k < n → passes k ≡ false))
    ⊎ ((j : ℕ) × (j < n) × (passes j ≡ true) × ((k : ℕ) → j < k → k < n → passes k ≡ false) × (due j ≤ last_or reported 0) × (last_or reported 0 ≤ due j + delay) × (1 ≤ length reported))

-- the time since the last emission is at most `most`; at an emission with an earlier one it is at least `least`
pub record IntervalKept (reported : List ℕ) (emission : Bool) (now least most : ℕ) : Type 0 where
  pub long : now ≤ last_or reported 0 + most
  pub short : emission ≡ true → 1 ≤ length reported → last_or reported 0 + least ≤ now

either : (b : Bool) → (b ≡ true) ⊎ (b ≡ false)
either true = inl refl
either false = inr refl

module _ {E : Type 0} (fine : E → Type 0) (tick sent : List E → ℕ) (due : ℕ → ℕ) (delay : ℕ) (passes : ℕ → Bool) (emits : List E → E → Bool) (reported : List E → List ℕ)
    (acts : Emits fine tick sent passes emits)
    (reported-nil : reported [] ≡ [])
    (reported-next : (past : List E) (e : E) → reported (past ++ (e ∷ [])) ≡ reported past ++ cond (emits past e) (tick past ∷ []) []) where
  reported_step : (past : List E) (e : E) → (IsTimely tick sent due delay past → Each fine past → Reported due delay passes (sent past) (reported past)) →
      IsTimely tick sent due delay (past ++ (e ∷ [])) → Each fine (past ++ (e ∷ [])) → Reported due delay passes (sent (past ++ (e ∷ []))) (reported (past ++ (e ∷ [])))
  reported_step past e ih t w =
      let good : fine e = w past [] e refl in
      let each : Each fine past = each_past fine past (e ∷ []) w in
      let before : IsTimely tick sent due delay past = timely_past tick sent due delay past (e ∷ []) t in
      let end : past ++ (e ∷ []) ≡ (past ++ (e ∷ [])) ++ [] = sym (append-nil (past ++ (e ∷ []))) in
      let start : past ≡ past ++ [] = sym (append-nil past) in
      let P : List ℕ → Type 0 = λ z. Reported due delay passes (sent (past ++ (e ∷ []))) z in
      elim (either (emits past e)) [
        | inl y ↦
            let m = acts.marked past e good y in
            let grown : reported (past ++ (e ∷ [])) ≡ reported past ++ (tick past ∷ []) = reported-next past e ∙ ap (λ b. reported past ++ cond b (tick past ∷ []) []) y in
            let last : last_or (reported (past ++ (e ∷ []))) 0 ≡ tick past = ap (λ z. last_or z 0) grown ∙ last_or-push (reported past) (tick past) 0 in
            let count : 1 ≤ length (reported (past ++ (e ∷ []))) = omega (arith, ap length grown, length_push (reported past) (tick past)) in
            let early = t.never_early (past ++ (e ∷ [])) [] end (sent past) (omega (arith, m.1)) in
            let late : tick past ≤ due (sent past) + delay =
            elim (cases_lt (due (sent past) + delay) (tick past)) [ inl l ↦ absurd (let bad = before.in_time past [] start (sent past) l in omega (arith, bad)) | inr l ↦ omega arith ] in
            inr (sent past, omega (arith, m.1), m.0, λ k a b. absurd (omega (arith, m.1)), omega (arith, early, last, m.2), omega (arith, last), count)
        | inr n ↦
            let same : reported (past ++ (e ∷ [])) ≡ reported past = reported-next past e ∙ ap (λ b. reported past ++ cond b (tick past ∷ []) []) n ∙ append-nil (reported past) in
            elim (acts.other past e good n) [
              | inl s ↦ let Q : ℕ → Type 0 = λ x. Reported due delay passes x (reported (past ++ (e ∷ []))) in subst Q (sym s) (let R : List ℕ → Type 0 = λ z. Reported due delay passes (sent past) z in subst R (sym same) (ih before each))
              | inr (bad, s) ↦
                  elim (ih before each) [
                    | inl (none, rest) ↦ inl (same ∙ none, λ k l. elim (cases_lt k (sent past)) [ inl a ↦ rest k a | inr a ↦ let eq : k ≡ sent past = omega (arith, s) in ap passes eq ∙ bad ])
                    | inr (j, l, y, rest, low, high, some) ↦
                        inr (
                          j,
                          omega (arith, s),
                          y,
                          (λ k a b. elim (cases_lt k (sent past)) [ inl c ↦ rest k a c | inr c ↦ let eq : k ≡ sent past = omega (arith, s) in ap passes eq ∙ bad ]),
                          omega (arith, ap (λ z. last_or z 0) same),
                          omega (arith, ap (λ z. last_or z 0) same),
                          omega (arith, ap length same),
                        )
                  ]
            ]
      ]

  pub reported_so_far : (run : List E) → IsTimely tick sent due delay run → Each fine run → Reported due delay passes (sent run) (reported run)
  reported_so_far run =
      by_events (λ past. IsTimely tick sent due delay past → Each fine past → Reported due delay passes (sent past) (reported past))
      (λ t w. inl (reported-nil, λ k l. absurd (omega (arith, acts.none_sent)))) reported_step run

  -- an entry that passes and has not left is not long due
  not_long : (past : List E) → IsTimely tick sent due delay past → (j : ℕ) → sent past ≤ j → tick past ≤ due j + delay
  not_long past t j l =
      elim (cases_lt (due j + delay) (tick past)) [
        | inl late ↦ absurd (let bad = t.in_time past [] (sym (append-nil past)) j late in omega (arith, bad))
        | inr late ↦ omega arith
      ]

  -- intervals are kept where emissions are timely
  pub intervals_kept : (least greatest low high : ℕ) → IsSpacedOut due passes least greatest → low + delay ≤ least → greatest + delay ≤ high →
      (past : List E) (e : E) → IsTimely tick sent due delay (past ++ (e ∷ [])) → Each fine (past ++ (e ∷ [])) → IntervalKept (reported past) (emits past e) (tick past) low high
  intervals_kept least greatest low high s below above past e t w =
      let before : IsTimely tick sent due delay past = timely_past tick sent due delay past (e ∷ []) t in
      elim (reported_so_far past before (each_past fine past (e ∷ []) w)) [
        | inl (none, rest) ↦
            let f = s.first in
            let unsent : sent past ≤ f.0 = elim (cases_lt f.0 (sent past)) [ inl l ↦ absurd (let bad = rest f.0 l in let good = f.1 in cc) | inr l ↦ omega arith ] in
            record {
              long = omega (arith, not_long past before f.0 unsent, f.2, ap (λ z. last_or z 0) none);
              short = λ y some. absurd (omega (arith, ap length none));
            }
        | inr (j, l, y, rest, low', high', some) ↦
            let f = s.next j y in
            let unsent : sent past ≤ f.0 = elim (cases_lt f.0 (sent past)) [ inl a ↦ absurd (let bad = rest f.0 f.1 a in let good = f.2 in cc) | inr a ↦ omega arith ] in
            record {
              long = omega (arith, not_long past before f.0 unsent, f.3);
              short = λ m some'.
                  let mark = acts.marked past e (w past [] e refl) m in
                  let early = t.never_early (past ++ (e ∷ [])) [] (sym (append-nil (past ++ (e ∷ [])))) (sent past) (omega (arith, mark.1)) in
                  omega (arith, early, mark.2, s.apart j (sent past) l y mark.0);
            }
      ]
