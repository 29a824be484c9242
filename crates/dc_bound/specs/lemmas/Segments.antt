-- Segments of a run, and the windows of ticks that they lie in or hold.
use Rattle.std.proofs.Common.{◌≡◌, ℕ, ◌+◌, ◌<◌, ◌≤◌, suc, List, [], ◌∷◌, ◌++◌, Option, Some, None, refl, ap, arith, inl, inr, add-zero, add_assoc}
use Rattle.dc_bound.specs.Window.{count_in, ticks_of, one_in}
use Rattle.dc_bound.specs.lemmas.Counts.{one_in_cases}
use Rattle.dc_bound.specs.Run.{ticks, picks, stamp, stamped, one_if}

module _ {E X : Type 0} (ends : E → ℕ) (pick : E → Option X) where
  pub ticks-append : (a b : List E) → ticks ends (a ++ b) ≡ ticks ends a + ticks ends b
  unfolding ticks
  ticks-append [] b = omega arith
  ticks-append (e ∷ a) b = omega (arith, ticks-append a b)

  pub picks-append : (a b : List E) → picks pick (a ++ b) ≡ picks pick a + picks pick b
  unfolding picks
  picks-append [] b = omega arith
  picks-append (e ∷ a) b = omega (arith, picks-append a b)

  -- how many picked events of these, the first of tick t, lie in the window
  pub hits : ℕ → ℕ → ℕ → List E → ℕ
  hits u d t es = count_in u d (ticks_of (stamped ends pick t es))

  hit : ℕ → ℕ → ℕ → Option X → ℕ
  hit u d t None = 0
  hit u d t (Some x) = one_in u d t

  count-stamp : (u d t : ℕ) (o : Option X) (rest : List (ℕ × X)) → count_in u d (ticks_of (stamp t o rest)) ≡ hit u d t o + count_in u d (ticks_of rest)
  unfolding count_in hit
  count-stamp u d t None rest = omega arith
  count-stamp u d t (Some x) rest = refl

  hits-cons : (u d t : ℕ) (e : E) (es : List E) → hits u d t (e ∷ es) ≡ hit u d t (pick e) + hits u d (t + ends e) es
  unfolding hits stamped
  hits-cons u d t e es = count-stamp u d t (pick e) (stamped ends pick (t + ends e) es)

  hits-nil : (u d t : ℕ) → hits u d t [] ≡ 0
  unfolding hits stamped count_in
  hits-nil u d t = refl

  hit-le : (u d t : ℕ) (o : Option X) → hit u d t o ≤ one_if o
  unfolding hit
  hit-le u d t None = omega arith
  hit-le u d t (Some x) = elim (one_in_cases u d t) [ inl w ↦ omega arith | inr v ↦ elim v [ inl w ↦ omega arith | inr w ↦ omega arith ] ]

  hit-in : (u d t : ℕ) (o : Option X) → u ≤ t → t < u + d → hit u d t o ≡ one_if o
  unfolding hit
  hit-in u d t None h k = refl
  hit-in u d t (Some x) h k = elim (one_in_cases u d t) [ inl w ↦ omega arith | inr v ↦ elim v [ inl w ↦ omega arith | inr w ↦ omega arith ] ]

  hit-before : (u d t : ℕ) (o : Option X) → t < u → hit u d t o ≡ 0
  unfolding hit
  hit-before u d t None h = refl
  hit-before u d t (Some x) h = elim (one_in_cases u d t) [ inl w ↦ omega arith | inr v ↦ elim v [ inl w ↦ omega arith | inr w ↦ omega arith ] ]

  hit-after : (u d t : ℕ) (o : Option X) → u + d ≤ t → hit u d t o ≡ 0
  unfolding hit
  hit-after u d t None h = refl
  hit-after u d t (Some x) h = elim (one_in_cases u d t) [ inl w ↦ omega arith | inr v ↦ elim v [ inl w ↦ omega arith | inr w ↦ omega arith ] ]

  pub hits-append : (u d t : ℕ) (a b : List E) → hits u d t (a ++ b) ≡ hits u d t a + hits u d (t + ticks ends a) b
  unfolding ticks
  hits-append u d t [] b = omega (arith, hits-nil u d t, ap (λ x. hits u d x b) (add-zero t))
  hits-append u d t (e ∷ a) b =
      omega (arith, hits-cons u d t e (a ++ b), hits-cons u d t e a, hits-append u d (t + ends e) a b, ap (λ x. hits u d x b) (add_assoc t (ends e) (ticks ends a)))

  pub hits-le : (u d t : ℕ) (es : List E) → hits u d t es ≤ picks pick es
  unfolding picks
  hits-le u d t [] = omega (arith, hits-nil u d t)
  hits-le u d t (e ∷ es) = omega (arith, hits-cons u d t e es, hit-le u d t (pick e), hits-le u d (t + ends e) es)

  pub hits-in : (u d t : ℕ) (es : List E) → u ≤ t → t + ticks ends es < u + d → hits u d t es ≡ picks pick es
  unfolding picks ticks
  hits-in u d t [] h k = hits-nil u d t
  hits-in u d t (e ∷ es) h k = omega (arith, hits-cons u d t e es, hit-in u d t (pick e) h (omega arith), hits-in u d (t + ends e) es (omega arith) (omega arith))

  pub hits-before : (u d t : ℕ) (es : List E) → t + ticks ends es < u → hits u d t es ≡ 0
  unfolding ticks
  hits-before u d t [] h = hits-nil u d t
  hits-before u d t (e ∷ es) h = omega (arith, hits-cons u d t e es, hit-before u d t (pick e) (omega arith), hits-before u d (t + ends e) es (omega arith))

  pub hits-after : (u d t : ℕ) (es : List E) → u + d ≤ t → hits u d t es ≡ 0
  hits-after u d t [] h = hits-nil u d t
  hits-after u d t (e ∷ es) h = omega (arith, hits-cons u d t e es, hit-after u d t (pick e) h, hits-after u d (t + ends e) es (omega arith))

  -- a segment lies in as many ticks as it ends, and one
  pub segment_in : (pre mid post : List E) → picks pick mid ≤ count_in (ticks ends pre) (suc (ticks ends mid)) (ticks_of (stamped ends pick 0 (pre ++ (mid ++ post))))
  unfolding hits
  segment_in pre mid post =
      let u : ℕ = ticks ends pre in
      let d : ℕ = suc (ticks ends mid) in
      omega (arith, hits-append u d 0 pre (mid ++ post), hits-append u d (0 + ticks ends pre) mid post, hits-in u d (0 + ticks ends pre) mid (omega arith) (omega arith))

  -- it holds the whole ticks after its first
  pub segment_holds : (pre mid post : List E) (d : ℕ) → d < ticks ends mid → count_in (suc (ticks ends pre)) d (ticks_of (stamped ends pick 0 (pre ++ (mid ++ post)))) ≤ picks pick mid
  unfolding hits
  segment_holds pre mid post d h =
      let u : ℕ = suc (ticks ends pre) in
      omega (
        arith,
        hits-append u d 0 pre (mid ++ post),
        hits-before u d 0 pre (omega arith),
        hits-append u d (0 + ticks ends pre) mid post,
        hits-le u d (0 + ticks ends pre) mid,
        hits-after u d (0 + ticks ends pre + ticks ends mid) post (omega arith),
      )
