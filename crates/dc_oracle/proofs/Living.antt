-- How a stream has come: one more word, and what is read from it.
use Rattle.std.proofs.Common.{◌≡◌, ℕ, zero, suc, ◌+◌, ◌-◌, ◌≤◌, ◌<◌, ◌⊎◌, ◌&&◌, Bool, true, false, cond, leb, List, [], ◌∷◌, ◌++◌, length, get_or, refl, sym, ap, ◌∙◌, subst, arith, inl, inr, length-append}
use Rattle.std.specs.List.{All}
use Rattle.std.proofs.lemmas.Bool.{cases_lt, cases_Bool, le-leb, lt-leb, leb-true, leb-false, and_parts}
use Rattle.std.proofs.lemmas.List.{get_or_append_left}
use Rattle.std.proofs.lemmas.List.Elements.{All-append, All-nil}
use Rattle.dc_bound.specs.Window.{count_in, one_in}
use Rattle.dc_bound.specs.lemmas.Counts.{count_in-nil, one_in_cases}
use Rattle.dc_bound.specs.lemmas.Recent.{NoneLater}
use Rattle.dc_bound.specs.lemmas.Steps.{count_in-push}
use Rattle.dc_word.specs.Format.{is_usable}
use Rattle.dc_word.specs.declared.format.Format.{Format}
use Rattle.dc_word.specs.declared.format.Format.TheVariants.{Bnr, Bcd, Disc}
use Rattle.dc_oracle.specs.declared.life.Life.{Life}
use Rattle.dc_oracle.specs.Life.{broken_at, alive_at, spoilt, spoilt_in, fine_at, lived, no_life, BeatsAs, SpoilsAt, IsFineFrom, IsLife}

-- ---- beats

-- from k on each `maximum` whole ticks hold a word; and those before do not
pub record IsUnbrokenFrom (maximum tick : ℕ) (ts : List ℕ) (k : ℕ) : Type 0 where
  pub from : (u : ℕ) → k ≤ u → u + maximum ≤ tick → 1 ≤ count_in u maximum ts
  pub before : (k ≡ 0) ⊎ ((count_in (k - 1) maximum ts ≡ 0) × (k - 1 + maximum ≤ tick) × (1 ≤ k))

module _ (maximum tick : ℕ) (ts : List ℕ) (l : Life) (some : 1 ≤ maximum) (h : BeatsAs maximum tick ts l) where
  long : l.quiet + maximum ≤ tick → IsUnbrokenFrom maximum tick ts (tick - maximum + 1)
  long le = record {
    from = λ u k w. absurd (omega arith);
    before = inr (h.silent (tick - maximum + 1 - 1) maximum (omega arith), omega arith, omega arith);
  }

  short : tick < l.quiet + maximum → IsUnbrokenFrom maximum tick ts l.broken
  short le = record {
    from = λ u k w. elim (cases_lt (u + maximum) l.quiet) [
      | inl early ↦ h.beats u k early
      | inr late ↦ h.last u maximum (omega arith) late
    ];
    before = elim (cases_lt 0 l.broken) [
      | inl some' ↦ elim h.gap [ inl none ↦ absurd (omega arith) | inr g ↦ inr (g.0, omega (arith, g.1, h.past), omega arith) ]
      | inr none ↦ inl (omega arith)
    ];
  }

  pub unbroken : IsUnbrokenFrom maximum tick ts (broken_at maximum tick l)
  unbroken =
      let P : Bool → Type 0 = λ b. IsUnbrokenFrom maximum tick ts (cond b (tick - maximum + 1) l.broken) in
      elim (cases_lt tick (l.quiet + maximum)) [
        | inl few ↦ subst P (sym (lt-leb (l.quiet + maximum) tick few)) (short few)
        | inr many ↦ subst P (sym (le-leb (l.quiet + maximum) tick many)) (long many)
      ]

  -- what is alive by it is, and what is not is not
  pub beats-alive : (stale : ℕ) → alive_at maximum stale tick l ≡ true → (stale ≤ tick) × ((u : ℕ) → tick - stale ≤ u → u + maximum ≤ tick → 1 ≤ count_in u maximum ts)
  beats-alive stale yes' =
      let p = and_parts _ _ yes' in
      (leb-true _ _ p.0, λ u from to. unbroken.from u (omega (arith, leb-true _ _ p.1)) to)

  both_false : (a b : Bool) → (a && b) ≡ false → a ≡ true → b ≡ false
  both_false true b e k = e
  both_false false b e k = absurd cc

  pub beats-dead : (stale : ℕ) → alive_at maximum stale tick l ≡ false → stale ≤ tick → ((u : ℕ) → tick - stale ≤ u → u + maximum ≤ tick → 1 ≤ count_in u maximum ts) → ⊥
  beats-dead stale no' old all =
      let k = broken_at maximum tick l in
      let over : tick - stale < broken_at maximum tick l = leb-false _ _ (both_false _ _ no' (le-leb _ _ old)) in
      elim unbroken.before [
        | inl none ↦ omega (arith, over, none)
        | inr g ↦ omega (arith, g.0, all (broken_at maximum tick l - 1) (omega (arith, over)) g.1)
      ]

  -- one more word
  pub beats-push : (word : ℕ) → NoneLater tick ts → BeatsAs maximum tick (ts ++ tick ∷ []) (lived maximum tick word l)
  beats-push word none = record {
    past = omega arith;
    silent = λ u d from. elim (one_in_cases u d tick) [
      | inl w ↦ absurd (omega arith)
      | inr v ↦ elim v [
        | inl w ↦ omega (arith, count_in-push u d ts tick, none u d (omega arith), w.1)
        | inr w ↦ omega (arith, count_in-push u d ts tick, none u d (omega arith), w.1)
      ]
    ];
    last = λ u d from to. elim (one_in_cases u d tick) [
      | inl w ↦ omega (arith, count_in-push u d ts tick, w.2)
      | inr v ↦ elim v [ inl w ↦ absurd (omega arith) | inr w ↦ absurd (omega arith) ]
    ];
    beats = λ u from to. omega (arith, count_in-push u maximum ts tick, unbroken.from u from (omega arith));
    gap = elim unbroken.before [
      | inl zero' ↦ inl zero'
      | inr g ↦ inr (
        elim (one_in_cases (broken_at maximum tick l - 1) maximum tick) [
          | inl w ↦ absurd (omega (arith, g.1, w.1))
          | inr v ↦ elim v [
            | inl w ↦ omega (arith, count_in-push (broken_at maximum tick l - 1) maximum ts tick, g.0, w.1)
            | inr w ↦ omega (arith, count_in-push (broken_at maximum tick l - 1) maximum ts tick, g.0, w.1)
          ]
        ],
        omega (arith, g.1, g.2),
      )
    ];
  }

beats-same : (maximum k n : ℕ) (ts us : List ℕ) (l : Life) → k ≤ n → us ≡ ts → BeatsAs maximum k ts l → BeatsAs maximum n us l
beats-same maximum k n ts us l le same h =
    let P : List ℕ → Type 0 = λ z. BeatsAs maximum n z l in
    subst P (sym same) (record { past = omega (arith, h.past); silent = h.silent; last = h.last; beats = h.beats; gap = h.gap })

beats-new : (maximum tick : ℕ) → BeatsAs maximum tick [] no_life
beats-new maximum tick = record {
  past = omega arith;
  silent = λ u d from. count_in-nil u d;
  last = λ u d from to. absurd (omega arith);
  beats = λ u from to. absurd (omega arith);
  gap = inl refl;
}

-- ---- words

spoils-more : (format : Format) (s k n : ℕ) (ws more : List (ℕ × (ℕ × ℕ))) → SpoilsAt format s k ws n → SpoilsAt format s k (ws ++ more) n
spoils-more format s k n ws more h =
    let at : get_or (ws ++ more) n (0, (0, 0)) ≡ get_or ws n (0, (0, 0)) = get_or_append_left ws more (0, (0, 0)) n h.there in
    record {
      there = omega (arith, h.there, length-append ws more);
      own = ap (λ (a : ℕ × (ℕ × ℕ)). a.1.0) at ∙ h.own;
      tick = ap (λ (a : ℕ × (ℕ × ℕ)). a.0 + 1) at ∙ h.tick;
      useless = ap (λ (a : ℕ × (ℕ × ℕ)). is_usable format a.1.1) at ∙ h.useless;
    }

spoilt-more : (format : Format) (s k : ℕ) (ws more : List (ℕ × (ℕ × ℕ))) → ((k ≡ 0) ⊎ ((n : ℕ) × SpoilsAt format s k ws n)) → (k ≡ 0) ⊎ ((n : ℕ) × SpoilsAt format s k (ws ++ more) n)
spoilt-more format s k ws more (inl none) = inl none
spoilt-more format s k ws more (inr (n, h)) = inr (n, spoils-more format s k n ws more h)

abbrev Fine : Format → ℕ → ℕ → ℕ × (ℕ × ℕ) → Type 0
Fine format s k a = k ≤ a.0 → a.1.0 ≡ s → is_usable format a.1.1 ≡ true

one : (P : ℕ × (ℕ × ℕ) → Type 0) (a : ℕ × (ℕ × ℕ)) → P a → All P (a ∷ [])
one P a h zero d l = h
one P a h (suc k) d l = absurd (omega arith)

at_end : (ws : List (ℕ × (ℕ × ℕ))) (a : ℕ × (ℕ × ℕ)) → get_or (ws ++ a ∷ []) (length ws) (0, (0, 0)) ≡ a
at_end [] a = refl
at_end (x ∷ ws) a = at_end ws a

module _ (format : Format) (s k tick : ℕ) (ws : List (ℕ × (ℕ × ℕ))) (h : IsFineFrom format s k ws) where
  -- a word of another stream
  pub fine-other : (x w : ℕ) → (x ≡ s → ⊥) → IsFineFrom format s k (ws ++ (tick, (x, w)) ∷ [])
  fine-other x w other = record {
    fine = All-append (Fine format s k) ws ((tick, (x, w)) ∷ []) h.fine (one (Fine format s k) (tick, (x, w)) (λ from own. absurd (other own)));
    spoilt = spoilt-more format s k ws _ h.spoilt;
  }

  -- a word of its own that can be used, and one that cannot
  good : (w : ℕ) → is_usable format w ≡ true → IsFineFrom format s k (ws ++ (tick, (s, w)) ∷ [])
  good w yes' = record {
    fine = All-append (Fine format s k) ws ((tick, (s, w)) ∷ []) h.fine (one (Fine format s k) (tick, (s, w)) (λ from own. yes'));
    spoilt = spoilt-more format s k ws _ h.spoilt;
  }

  bad : (w : ℕ) → All (λ a. a.0 ≤ tick) ws → is_usable format w ≡ false → IsFineFrom format s (tick + 1) (ws ++ (tick, (s, w)) ∷ [])
  bad w by_now no' = record {
    fine = All-append (Fine format s (tick + 1)) ws ((tick, (s, w)) ∷ []) (λ j d l from own. absurd (omega (arith, by_now j d l))) (one (Fine format s (tick + 1)) (tick, (s, w)) (λ from own. absurd (omega arith)));
    spoilt = inr (
      length ws,
      record {
        there = omega (arith, length-append ws ((tick, (s, w)) ∷ []));
        own = ap (λ (a : ℕ × (ℕ × ℕ)). a.1.0) (at_end ws (tick, (s, w)));
        tick = ap (λ (a : ℕ × (ℕ × ℕ)). a.0 + 1) (at_end ws (tick, (s, w)));
        useless = ap (λ (a : ℕ × (ℕ × ℕ)). is_usable format a.1.1) (at_end ws (tick, (s, w))) ∙ no';
      },
    );
  }

  pub fine-push : (w : ℕ) → All (λ a. a.0 ≤ tick) ws → IsFineFrom format s (spoilt format tick w k) (ws ++ (tick, (s, w)) ∷ [])
  fine-push w by_now =
      let P : Bool → Type 0 = λ b. IsFineFrom format s (cond b k (tick + 1)) (ws ++ (tick, (s, w)) ∷ []) in
      elim (cases_Bool (is_usable format w)) [
        | inl yes' ↦ subst P (sym yes') (good w yes')
        | inr no' ↦ subst P (sym no') (bad w by_now no')
      ]

-- the words from a tick on are usable exactly where it is not before k
abbrev pub UsableFrom : Format → ℕ → ℕ → List (ℕ × (ℕ × ℕ)) → Type 0
UsableFrom format s from ws = All (λ a. from ≤ a.0 → a.1.0 ≡ s → is_usable format a.1.1 ≡ true) ws

pub fine-usable : (format : Format) (s k from : ℕ) (ws : List (ℕ × (ℕ × ℕ))) → IsFineFrom format s k ws → k ≤ from → UsableFrom format s from ws
fine-usable format s k from ws h le = λ j d l late own. h.fine j d l (omega arith) own

pub fine-useless : (format : Format) (s k from : ℕ) (ws : List (ℕ × (ℕ × ℕ))) → IsFineFrom format s k ws → from < k → UsableFrom format s from ws → ⊥
fine-useless format s k from ws h less all =
    elim h.spoilt [
      | inl none ↦ omega arith
      | inr (n, x) ↦ (let good : is_usable format (get_or ws n (0, (0, 0))).1.1 ≡ true = all n (0, (0, 0)) x.there (omega (arith, x.tick)) x.own in let both : true ≡ false = sym good ∙ x.useless in absurd cc)
    ]

-- ---- both

pub life-new : (maximum s tick : ℕ) → IsLife maximum s tick [] [] no_life
life-new maximum s tick = record { beats = beats-new maximum tick; words = λ format. record { fine = All-nil _; spoilt = inl (none format) } }
  where
    none : (format : Format) → spoilt_in format no_life ≡ 0
    none Bnr = refl
    none Bcd = refl
    none Disc = refl

-- nothing came
pub life-same : (maximum s k n : ℕ) (ts us : List ℕ) (ws vs : List (ℕ × (ℕ × ℕ))) (l : Life) → k ≤ n → us ≡ ts → vs ≡ ws → IsLife maximum s k ts ws l → IsLife maximum s n us vs l
life-same maximum s k n ts us ws vs l le same words h =
    let P : List (ℕ × (ℕ × ℕ)) → Type 0 = λ z. (format : Format) → IsFineFrom format s (spoilt_in format l) z in
    record { beats = beats-same maximum k n ts us l le same h.beats; words = subst P (sym words) h.words }

-- a word of another stream came
pub life-other : (maximum s tick x w : ℕ) (ts : List ℕ) (ws : List (ℕ × (ℕ × ℕ))) (l : Life) → (x ≡ s → ⊥) → IsLife maximum s tick ts ws l → IsLife maximum s tick ts (ws ++ (tick, (x, w)) ∷ []) l
life-other maximum s tick x w ts ws l other h = record { beats = h.beats; words = λ format. fine-other format s (spoilt_in format l) tick ws (h.words format) x w other }

-- a word of its own came
lived-in : (format : Format) (maximum tick w : ℕ) (l : Life) → spoilt_in format (lived maximum tick w l) ≡ spoilt format tick w (spoilt_in format l)
lived-in Bnr maximum tick w l = refl
lived-in Bcd maximum tick w l = refl
lived-in Disc maximum tick w l = refl

pub life-push : (maximum s tick w : ℕ) (ts : List ℕ) (ws : List (ℕ × (ℕ × ℕ))) (l : Life) → 1 ≤ maximum → NoneLater tick ts → All (λ a. a.0 ≤ tick) ws → IsLife maximum s tick ts ws l
    → IsLife maximum s tick (ts ++ tick ∷ []) (ws ++ (tick, (s, w)) ∷ []) (lived maximum tick w l)
life-push maximum s tick w ts ws l some none by_now h = record {
  beats = beats-push maximum tick ts l some h.beats w none;
  words = λ format. (
      let P : ℕ → Type 0 = λ k. IsFineFrom format s k (ws ++ (tick, (s, w)) ∷ []) in
      subst P (sym (lived-in format maximum tick w l)) (fine-push format s (spoilt_in format l) tick ws (h.words format) w by_now));
}
