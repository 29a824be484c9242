-- One number for each stream: the code's rule is the definition of early words.
use Rattle.std.proofs.Common.{◌≡◌, ℕ, suc, ◌+◌, ◌-◌, ◌*◌, ◌≤◌, ◌<◌, ◌⊎◌, max, false, ltb, List, [], ◌∷◌, ◌++◌, refl, sym, ap, ◌∙◌, subst, arith, inl, inr}
use Rattle.std.proofs.lemmas.Bool.{cases_lt, cases_Bool, lt-ltb, le-ltb}
use Rattle.std.proofs.Math.Nat.{mul-le-mul_right}
use Rattle.dc_bound.specs.Window.{count_in}
use Rattle.dc_bound.specs.lemmas.FirstPlaces.{snoc_induction}
use Rattle.dc_bound.specs.lemmas.Counts.{one_in_cases, count_in-nil, count_in-zero}
use Rattle.dc_bound.specs.lemmas.Budget.{count_in_sum}
use Rattle.dc_bound.specs.lemmas.Steps.{count_in-push}
use Rattle.dc_bound.specs.lemmas.Recent.{NoneLater}
use Rattle.dc_bound.specs.Turns.{NeverFall}
use Rattle.dc_bound.specs.Early.{jitter_cap, up_to, would_pass, pace_from, pace_of}
use Rattle.dc_bound.specs.lemmas.Caps.{ceil_covers, ceil_within}
use Rattle.dc_bound.specs.lemmas.Earliness.{none_later-push, fits, fits_within, never_fall-last, never_fall-front}

-- ---- what the number is

-- Of kept words, none later than tick k, the number is the greatest tick at which as many words as there are from some tick u on would end,
-- if they stood m ticks apart from u on; 0 where there are none
pub record IsPace (m k n : ℕ) (ts : List ℕ) : Type 0 where
  pub over : (u : ℕ) → u ≤ k → 1 ≤ count_in u (suc k - u) ts → u + count_in u (suc k - u) ts * m ≤ n
  pub met : (n ≡ 0) ⊎ ((u : ℕ) × (u ≤ k) × (1 ≤ count_in u (suc k - u) ts) × (u + count_in u (suc k - u) ts * m ≡ n))

-- the count from a tick on does not change with later ticks
since-later : (u k l : ℕ) (ts : List ℕ) → u ≤ k → k ≤ l → NoneLater k ts → count_in u (suc l - u) ts ≡ count_in u (suc k - u) ts
since-later u k l ts h g none =
    let e : suc l - u ≡ (suc k - u) + (l - k) = omega arith in
    let f : u + (suc k - u) ≡ suc k = omega arith in
    omega (arith, ap (λ d. count_in u d ts) e, count_in_sum u (suc k - u) (l - k) ts, ap (λ v. count_in v (l - k) ts) f, none (suc k) (l - k) (omega arith))

since-after : (u k l : ℕ) (ts : List ℕ) → k < u → NoneLater k ts → count_in u (suc l - u) ts ≡ 0
since-after u k l ts late none = none u (suc l - u) late

-- time goes on
pace-later : (m k l n : ℕ) (ts : List ℕ) → k ≤ l → NoneLater k ts → IsPace m k n ts → IsPace m l n ts
pace-later m k l n ts le none p = record {
  over = λ u h some. elim (cases_lt k u) [
    | inl late ↦ absurd (omega (arith, since-after u k l ts late none))
    | inr early ↦ (let same = since-later u k l ts early le none in omega (arith, ap (λ c. c * m) same, p.over u early (omega (arith, same))))
  ];
  met = elim (p.met) [
    | inl z ↦ inl z
    | inr r ↦ (let same = since-later r.0 k l ts r.1 le none in inr (r.0, omega (arith, r.1), omega (arith, same, r.2), omega (arith, ap (λ c. c * m) same, r.3)))
  ];
}

-- one more word in tick k
since-push : (u k : ℕ) (ts : List ℕ) → u ≤ k → count_in u (suc k - u) (ts ++ k ∷ []) ≡ suc (count_in u (suc k - u) ts)
since-push u k ts h =
    elim (one_in_cases u (suc k - u) k) [
      | inl w ↦ omega (arith, count_in-push u (suc k - u) ts k)
      | inr v ↦ elim v [ inl w ↦ absurd (omega arith) | inr w ↦ absurd (omega arith) ]
    ]

one_more : (m c : ℕ) → suc c * m ≡ c * m + m
one_more m c = omega arith

pace-push : (m k n : ℕ) (ts : List ℕ) → 1 ≤ m → IsPace m k n ts → IsPace m k (max k n + m) (ts ++ k ∷ [])
pace-push m k n ts some p = record {
  over = λ u h one. (let c : ℕ = count_in u (suc k - u) ts in
      elim (cases_lt 0 (count_in u (suc k - u) ts)) [
        | inl more ↦ omega (arith, ap (λ c. c * m) (since-push u k ts h), one_more m (count_in u (suc k - u) ts), p.over u h more)
        | inr none ↦ (let z : count_in u (suc k - u) ts ≡ 0 = omega arith in omega (arith, ap (λ c. c * m) (since-push u k ts h), ap (λ c. suc c * m) z))
      ]);
  met = elim (cases_lt k n) [
    | inl above ↦ elim (p.met) [
      | inl z ↦ absurd (omega arith)
      | inr r ↦ inr (r.0, r.1, omega (arith, since-push r.0 k ts r.1), omega (arith, ap (λ c. c * m) (since-push r.0 k ts r.1), one_more m (count_in r.0 (suc k - r.0) ts), r.3))
    ]
    | inr below ↦ inr (
      k,
      omega arith,
      omega (arith, since-push k k ts (omega arith)),
      elim (cases_lt 0 (count_in k (suc k - k) ts)) [
        | inl more ↦ (let up : 1 * m ≤ count_in k (suc k - k) ts * m = mul-le-mul_right m more in absurd (omega (arith, p.over k (omega arith) more)))
        | inr none ↦ (let z : count_in k (suc k - k) ts ≡ 0 = omega arith in omega (arith, ap (λ c. c * m) (since-push k k ts (omega arith)), ap (λ c. suc c * m) z))
      ],
    )
  ];
}

-- ---- the rule: a word of tick t is early exactly where t + j is below the number

below : (m j c u t : ℕ) → 1 ≤ m → u ≤ t → jitter_cap m j (suc t - u) ≤ c → t + j < u + c * m
below m j c u t some h le =
    let e : suc t - u ≡ suc (t - u) = omega arith in
    let P : ℕ → Type 0 = λ d. jitter_cap m j d ≤ c in
    omega (arith, ceil_covers m c (suc (t - u) + j) some (subst P e le))

not_below : (m j c u t : ℕ) → 1 ≤ m → u ≤ t → c < jitter_cap m j (suc t - u) → u + c * m ≤ t + j
not_below m j c u t some h lt =
    elim (cases_lt (t + j) (u + c * m)) [
      | inl l ↦
          let e : suc t - u ≡ suc (t - u) = omega arith in
          let P : ℕ → Type 0 = λ d. c < jitter_cap m j d in
          absurd (omega (arith, subst P e lt, ceil_within m c (suc (t - u) + j) some (omega arith)))
      | inr l ↦ l
    ]

-- a window that ends in the tick, as one that begins in a tick
as_from : (d t : ℕ) (ts : List ℕ) → 1 ≤ d → d ≤ suc t → up_to d t (ts ++ t ∷ []) ≡ suc (count_in (suc t - d) (suc t - (suc t - d)) ts)
as_from d t ts some le =
    let e : d ≡ suc t - (suc t - d) = omega arith in
    ap (λ k. count_in (suc t - d) k (ts ++ t ∷ [])) e ∙ since-push (suc t - d) t ts (omega arith)

window-fits : (m j n : ℕ) (ts : List ℕ) (t : ℕ) → 1 ≤ m → IsPace m t n ts → n ≤ t + j → (d : ℕ) → 1 ≤ d → d ≤ suc t → up_to d t (ts ++ t ∷ []) ≤ jitter_cap m j d
window-fits m j n ts t some p late d one le =
    let u : ℕ = suc t - d in
    let c : ℕ = count_in (suc t - d) (suc t - (suc t - d)) ts in
    let e : suc t - (suc t - d) ≡ d = omega arith in
    elim (cases_lt (count_in (suc t - d) (suc t - (suc t - d)) ts) (jitter_cap m j (suc t - (suc t - d)))) [
      | inl l ↦ omega (arith, as_from d t ts one le, ap (jitter_cap m j) e)
      | inr l ↦
          let early = below m j (count_in (suc t - d) (suc t - (suc t - d)) ts) (suc t - d) t some (omega arith) l in
          elim (cases_lt 0 (count_in (suc t - d) (suc t - (suc t - d)) ts)) [
            | inl more ↦ absurd (omega (arith, p.over (suc t - d) (omega arith) more))
            | inr none ↦ (let z : count_in (suc t - d) (suc t - (suc t - d)) ts ≡ 0 = omega arith in absurd (omega (arith, ap (λ c. c * m) z)))
          ]
    ]

-- where the number is met by the words from u on, and the tick is early, the window from u on would pass the cap
kept-late : (m j n : ℕ) (ts : List ℕ) (t : ℕ) → 1 ≤ m → (u : ℕ) → u ≤ t → u + count_in u (suc t - u) ts * m ≡ n → t + j < n → would_pass (jitter_cap m j) ts t ≡ false → ⊥
kept-late m j n ts t some u h is early e =
    let room : count_in u (suc t - u) (ts ++ t ∷ []) ≤ jitter_cap m j (suc t - u) = (let f : suc t - (suc t - u) ≡ u = omega arith in omega (arith, fits_within (jitter_cap m j) ts t e (suc t - u) (omega arith), ap (λ v. count_in v (suc t - u) (ts ++ t ∷ [])) f)) in
    omega (arith, not_below m j (count_in u (suc t - u) ts) u t some h (omega (arith, since-push u t ts h)))

pub early-is : (m j n : ℕ) (ts : List ℕ) (t : ℕ) → 1 ≤ m → IsPace m t n ts → would_pass (jitter_cap m j) ts t ≡ ltb (t + j) n
early-is m j n ts t some p =
    elim (cases_lt (t + j) n) [
      | inl early ↦ elim (cases_Bool (would_pass (jitter_cap m j) ts t)) [
        | inl e ↦ e ∙ sym (lt-ltb (t + j) n early)
        | inr e ↦ elim (p.met) [
          | inl z ↦ absurd (omega arith)
          | inr r ↦ absurd (kept-late m j n ts t some r.0 r.1 r.3 early e)
        ]
      ]
      | inr late ↦
          fits (jitter_cap m j) ts t (λ d le. elim (cases_lt 0 d) [
            | inl one ↦ window-fits m j n ts t some p late d one le
            | inr none ↦ (let z : d ≡ 0 = omega arith in subst (λ d. up_to d t (ts ++ t ∷ []) ≤ jitter_cap m j d) (sym z) (omega (arith, count_in-zero (suc t - 0) (ts ++ t ∷ []))))
          ]) ∙ sym (le-ltb (t + j) n late)
    ]

-- ---- the number along kept words

pace_from-append : (m n : ℕ) (xs ys : List ℕ) → pace_from m n (xs ++ ys) ≡ pace_from m (pace_from m n xs) ys
pace_from-append m n [] ys = refl
pace_from-append m n (t ∷ xs) ys = pace_from-append m (max t n + m) xs ys

pub pace_of-nil : (m : ℕ) → pace_of m [] ≡ 0
unfolding pace_of
pace_of-nil m = refl

pub pace_of-push : (m : ℕ) (ts : List ℕ) (t : ℕ) → pace_of m (ts ++ t ∷ []) ≡ max t (pace_of m ts) + m
unfolding pace_of
pace_of-push m ts t = pace_from-append m 0 ts (t ∷ [])

no_pace : (m t : ℕ) → IsPace m t 0 []
no_pace m t = record { over = λ u h some. absurd (omega (arith, count_in-nil u (suc t - u))); met = inl refl }

last_there : (k : ℕ) (ts : List ℕ) → 1 ≤ count_in k 1 (ts ++ k ∷ [])
last_there k ts = elim (one_in_cases k 1 k) [ inl w ↦ omega (arith, count_in-push k 1 ts k) | inr v ↦ elim v [ inl w ↦ absurd (omega arith) | inr w ↦ absurd (omega arith) ] ]

-- of ticks in order, the number is their pace, at their last tick and at any later
pub is_pace : (m : ℕ) → 1 ≤ m → (ts : List ℕ) → NeverFall ts → (t : ℕ) → NoneLater t ts → IsPace m t (pace_of m ts) ts
is_pace m some ts =
    let P : List ℕ → Type 0 = λ ts. NeverFall ts → (t : ℕ) → NoneLater t ts → IsPace m t (pace_of m ts) ts in
    snoc_induction P (λ order t none. rw (pace_of-nil m) (no_pace m t)) (λ ts k h order t none.
    let before = never_fall-last ts k order in
    let here : IsPace m k (pace_of m (ts ++ k ∷ [])) (ts ++ k ∷ []) = rw (pace_of-push m ts k) (pace-push m k (pace_of m ts) ts some (h (never_fall-front ts (k ∷ []) order) k before)) in
    let after : k ≤ t = elim (cases_lt t k) [
      | inl l ↦ absurd (omega (arith, none k 1 l, last_there k ts))
      | inr l ↦ l
    ] in
    pace-later m k t (pace_of m (ts ++ k ∷ [])) (ts ++ k ∷ []) after (none_later-push k ts before) here) ts

-- ---- the theorem, at kept words in order: the rule is the definition

pub rule_is : (m j : ℕ) → 1 ≤ m → (ts : List ℕ) → NeverFall ts → (t : ℕ) → NoneLater t ts → would_pass (jitter_cap m j) ts t ≡ ltb (t + j) (pace_of m ts)
rule_is m j some ts order t none = early-is m j (pace_of m ts) ts t some (is_pace m some ts order t none)

-- ---- ticks in order, one more

front_before : (x t : ℕ) (ts : List ℕ) → NoneLater t (x ∷ ts) → x ≤ t
unfolding count_in
front_before x t ts none =
    elim (cases_lt t x) [
      | inl l ↦ elim (one_in_cases x 1 x) [ inl w ↦ absurd (omega (arith, none x 1 l)) | inr v ↦ elim v [ inl w ↦ absurd (omega arith) | inr w ↦ absurd (omega arith) ] ]
      | inr l ↦ l
    ]

pub in_order-push : (ts : List ℕ) (t : ℕ) → NeverFall ts → NoneLater t ts → NeverFall (ts ++ t ∷ [])
unfolding NeverFall count_in
in_order-push [] t order none = tt
in_order-push (x ∷ []) t order none = (front_before x t [] none, tt)
in_order-push (x ∷ y ∷ ts) t order none = (order.0, in_order-push (y ∷ ts) t order.1 (λ u d late. omega (arith, none u d late)))
