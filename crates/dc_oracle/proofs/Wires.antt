-- The load of a wire, along the words that it carries.
use Rattle.std.proofs.Common.{◌≡◌, ℕ, suc, ◌+◌, ◌-◌, ◌*◌, ◌/◌, ◌≤◌, ◌<◌, ◌⊎◌, List, [], ◌∷◌, ◌++◌, ap, ◌∙◌, subst, sym, arith, inl, inr}
use Rattle.std.proofs.Math.Nat.{mul-le-mul_right, le-div_iff_mul-le}
use Rattle.std.proofs.lemmas.Bool.{cases_lt}
use Rattle.dc_bound.specs.Window.{count_in}
use Rattle.dc_bound.specs.lemmas.Counts.{one_in_cases, count_in-nil, ceil_from}
use Rattle.dc_bound.specs.lemmas.Budget.{count_in_sum}
use Rattle.dc_bound.specs.lemmas.Steps.{count_in-push}
use Rattle.dc_bound.specs.lemmas.Recent.{NoneLater, recent}
use Rattle.dc_oracle.specs.declared.wire.WireLoad.{WireLoad}
use Rattle.dc_oracle.specs.WireLoad.{left_us, free_us, loaded, since, IsFreeAt, IsLoad}

-- ---- how many came from a tick on

window-same : (u d e : ℕ) (ts : List ℕ) → d ≡ e → count_in u d ts ≡ count_in u e ts
window-same u d e ts h = ap (λ x. count_in u x ts) h

start-same : (u v d : ℕ) (ts : List ℕ) → u ≡ v → count_in u d ts ≡ count_in v d ts
start-same u v d ts h = ap (λ x. count_in x d ts) h

since-tick : (u k : ℕ) (ts : List ℕ) → NoneLater k ts → u ≤ k → since u (suc k) ts ≡ since u k ts
since-tick u k ts none h =
    omega (arith, window-same u (suc (suc k) - u) (suc k - u + 1) ts (omega arith), count_in_sum u (suc k - u) 1 ts, none (u + (suc k - u)) 1 (omega arith))

since-new : (k : ℕ) (ts : List ℕ) → NoneLater k ts → since (suc k) (suc k) ts ≡ 0
since-new k ts none = none (suc k) (suc (suc k) - suc k) (omega arith)

since-push : (u k : ℕ) (ts : List ℕ) → u ≤ k → since u k (ts ++ (k ∷ [])) ≡ since u k ts + 1
since-push u k ts h =
    elim (one_in_cases u (suc k - u) k) [
      | inl w ↦ omega (arith, w.2, count_in-push u (suc k - u) ts k)
      | inr v ↦ elim v [ inl w ↦ absurd (omega arith) | inr w ↦ absurd (omega arith) ]
    ]

recent-since : (d k : ℕ) (ts : List ℕ) → NoneLater k ts → recent d k ts ≡ since (suc k - d) k ts
recent-since d k ts none =
    elim (cases_lt (suc k) d) [
      | inl over ↦ omega (
        arith,
        start-same (suc k - d) 0 d ts (omega arith),
        count_in_sum 0 (suc k) (d - suc k) ts,
        window-same 0 (suc k + (d - suc k)) d ts (omega arith),
        none (0 + suc k) (d - suc k) (omega arith),
        start-same (suc k - d) 0 (suc k - (suc k - d)) ts (omega arith),
        window-same 0 (suc k - (suc k - d)) (suc k) ts (omega arith),
      )
      | inr fits ↦ window-same (suc k - d) d (suc k - (suc k - d)) ts (omega arith)
    ]

-- ---- products

one_more : (s c : ℕ) → (s + 1) * c ≡ s * c + c
one_more s c = omega arith

two_parts : (a b c : ℕ) → (a + b) * c ≡ a * c + b * c
two_parts a b c = omega arith

parted : (w k c : ℕ) → w ≤ k → k * c ≡ w * c + (k - w) * c
parted w k c h = let e : k ≡ w + (k - w) = omega arith in ap (λ x. x * c) e ∙ two_parts w (k - w) c

-- ---- the time at which the wire is free

module _ (tick_us spacing : ℕ) where
  pub free-start : IsLoad tick_us spacing 0 [] (record { tick = 0; load_us = 0 })
  free-start = record {
    past = omega arith;
    free = record { most = λ u l some. absurd (omega (arith, count_in-nil u (1 - u))); met = inl (omega arith) };
  }

  pub load-same : (k n : ℕ) (ts us : List ℕ) (w : WireLoad) → n ≡ k → us ≡ ts → IsLoad tick_us spacing k ts w → IsLoad tick_us spacing n us w
  load-same k n ts us w e f h =
      let P : ℕ → Type 0 = λ n. IsLoad tick_us spacing n us w in
      let Q : List ℕ → Type 0 = λ us. IsLoad tick_us spacing k us w in
      subst P (sym e) (subst Q (sym f) h)

  free-tick : (k f : ℕ) (ts : List ℕ) → NoneLater k ts → IsFreeAt tick_us spacing k ts f → IsFreeAt tick_us spacing (suc k) ts f
  free-tick k f ts none h = record {
    most = λ u l some. elim (cases_lt u (suc k)) [
      | inl early ↦
          let s = since-tick u k ts none (omega arith) in
          let P : ℕ → Type 0 = λ n. u * tick_us + n * spacing ≤ f in
          subst P (sym s) (h.most u (omega arith) (omega (arith, s)))
      | inr late ↦ (let e : u ≡ suc k = omega arith in absurd (omega (arith, since-new k ts none, ap (λ u. since u (suc k) ts) e)))
    ];
    met = elim h.met [
      | inl none_came ↦ inl none_came
      | inr (u, l, some, at) ↦
          let s = since-tick u k ts none l in
          let P : ℕ → Type 0 = λ n. f ≤ u * tick_us + n * spacing in
          inr (u, omega arith, omega (arith, s), subst P (sym s) at)
    ];
  }

  pub load-tick : (k : ℕ) (ts : List ℕ) (w : WireLoad) → NoneLater k ts → IsLoad tick_us spacing k ts w → IsLoad tick_us spacing (suc k) ts w
  load-tick k ts w none h = record { past = omega (arith, h.past); free = free-tick k (free_us tick_us w) ts none h.free }

  -- the later of the time at which it is free and the beginning of the tick
  record IsLater (f start later : ℕ) : Type 0 where
    pub over_free : f ≤ later
    pub over_start : start ≤ later
    pub one : (later ≡ f) ⊎ (later ≡ start)

  later-of : (w p load : ℕ) → IsLater (w + load) (w + p) (w + p + (load - p))
  later-of w p load = record {
    over_free = omega arith;
    over_start = omega arith;
    one = elim (cases_lt load p) [ inl l ↦ inr (omega arith) | inr l ↦ inl (omega arith) ];
  }

  load-later : (k : ℕ) (w : WireLoad) → w.tick ≤ k → IsLater (free_us tick_us w) (k * tick_us) (k * tick_us + left_us tick_us k w)
  load-later k w h =
      let e = parted w.tick k tick_us h in
      let P : ℕ → Type 0 = λ n. IsLater (free_us tick_us w) n (n + left_us tick_us k w) in
      subst P (sym e) (later-of (w.tick * tick_us) ((k - w.tick) * tick_us) w.load_us)

  free-push : (k f g : ℕ) (ts : List ℕ) → IsLater f (k * tick_us) g → IsFreeAt tick_us spacing k ts f → IsFreeAt tick_us spacing k (ts ++ (k ∷ [])) (g + spacing)
  free-push k f g ts later h = record {
    most = λ u l some. (
        let s = since-push u k ts l in
        let P : ℕ → Type 0 = λ n. u * tick_us + n * spacing ≤ g + spacing in
        subst P (sym s) (elim (cases_lt 0 (since u k ts)) [
          | inl before ↦ omega (arith, one_more (since u k ts) spacing, h.most u l before, later.over_free)
          | inr first ↦
              let z : since u k ts ≡ 0 = omega arith in
              let Q : ℕ → Type 0 = λ n. u * tick_us + (n + 1) * spacing ≤ g + spacing in
              let low : u * tick_us ≤ k * tick_us = mul-le-mul_right tick_us l in
              subst Q (sym z) (omega (arith, one_more 0 spacing, later.over_start))
        ]));
    met = (
        let here : g ≤ k * tick_us → (u : ℕ) × (u ≤ k) × (1 ≤ since u k (ts ++ (k ∷ []))) × (g + spacing ≤ u * tick_us + since u k (ts ++ (k ∷ [])) * spacing) = λ low.
        (let s = since-push k k ts (omega arith) in
        let P : ℕ → Type 0 = λ n. g + spacing ≤ k * tick_us + n * spacing in
        (k, omega arith, omega (arith, s), subst P (sym s) (omega (arith, one_more (since k k ts) spacing)))) in
        inr (elim later.one [
          | inl same ↦ elim h.met [
            | inl none_came ↦ here (omega (arith, later.over_start))
            | inr (u, l, some, at) ↦
                let s = since-push u k ts l in
                let P : ℕ → Type 0 = λ n. g + spacing ≤ u * tick_us + n * spacing in
                (u, l, omega (arith, s), subst P (sym s) (omega (arith, one_more (since u k ts) spacing)))
          ]
          | inr start ↦ here (omega arith)
        ]));
  }

  pub load-push : (k : ℕ) (ts : List ℕ) (w : WireLoad) → IsLoad tick_us spacing k ts w → IsLoad tick_us spacing k (ts ++ (k ∷ [])) (loaded tick_us spacing k w)
  load-push k ts w h =
      let P : ℕ → Type 0 = λ n. IsFreeAt tick_us spacing k (ts ++ (k ∷ [])) n in
      let e : k * tick_us + left_us tick_us k w + spacing ≡ k * tick_us + (left_us tick_us k w + spacing) = omega arith in
      record { past = omega arith; free = subst P e (free-push k (free_us tick_us w) (k * tick_us + left_us tick_us k w) ts (load-later k w h.past) h.free) }

  -- ---- what it says of every window

  -- one word more in the tick keeps the wire's cap
  pub has-room : (k : ℕ) (ts : List ℕ) (w : WireLoad) → 1 ≤ spacing → NoneLater k ts → IsLoad tick_us spacing k ts w → left_us tick_us k w ≤ tick_us
      → (d : ℕ) → 1 ≤ d → recent d k ts < d * tick_us / spacing + 1
  has-room k ts w pos none h room d some =
      let u : ℕ = suc k - d in
      let s = recent-since d k ts none in
      let later = load-later k w h.past in
      let reach : suc k * tick_us ≤ (suc k - d + d) * tick_us = mul-le-mul_right tick_us (let r : suc k ≤ suc k - d + d = omega arith in r) in
      let few : since (suc k - d) k ts * spacing ≤ d * tick_us = elim (cases_lt 0 (since (suc k - d) k ts)) [
        | inl came ↦ omega (arith, h.free.most (suc k - d) (omega arith) came, later.over_free, two_parts (suc k - d) d tick_us)
        | inr never ↦ (let z : since (suc k - d) k ts ≡ 0 = omega arith in omega (arith, ap (λ n. n * spacing) z))
      ] in
      omega (arith, s, ceil_from spacing (since (suc k - d) k ts) (d * tick_us) pos few)

  -- or breaks it
  pub lacks-room : (k : ℕ) (ts : List ℕ) (w : WireLoad) → 1 ≤ spacing → NoneLater k ts → IsLoad tick_us spacing k ts w → tick_us < left_us tick_us k w
      → (d : ℕ) × (1 ≤ d) × (d * tick_us / spacing + 1 ≤ recent d k ts)
  lacks-room k ts w pos none h full =
      let later = load-later k w h.past in
      let past : k * tick_us + tick_us < free_us tick_us w = elim later.one [ inl e ↦ omega (arith, full) | inr e ↦ absurd (omega (arith, full)) ] in
      elim h.free.met [
        | inl none_came ↦ absurd (omega (arith, past))
        | inr (u, l, some, at) ↦
            let d : ℕ = suc k - u in
            let s : recent (suc k - u) k ts ≡ since u k ts = recent-since (suc k - u) k ts none ∙ ap (λ v. since v k ts) (let b : suc k - (suc k - u) ≡ u = omega arith in b) in
            let parts = parted u (suc k) tick_us (omega arith) in (
              suc k - u,
              omega arith,
              elim (cases_lt (since u k ts) ((suc k - u) * tick_us / spacing + 1)) [
                | inl low ↦
                    let few : since u k ts * spacing ≤ (suc k - u) * tick_us = (le-div_iff_mul-le pos).0 (let w : since u k ts ≤ (suc k - u) * tick_us / spacing = omega arith in w) in
                    absurd (omega (arith, at, past, parts))
                | inr high ↦ omega (arith, s)
              ],
            )
      ]
