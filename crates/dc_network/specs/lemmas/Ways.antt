-- The ways of a network: they depend on those before alone, so in an order they are there, and no others.
use Rattle.std.proofs.Common.{◌≡◌, ℕ, zero, suc, ◌+◌, ◌<◌, ◌≤◌, ◌==◌, true, false, cond, max, eqb, length, get_or, refl, sym, ap, ◌∙◌, arith}
use Rattle.std.proofs.lemmas.Bool.{eqb-true}
use Rattle.dc_tables.specs.TableRows.{TableRows, label_row}
use Rattle.dc_chain.specs.Concentrators.{Link}
use Rattle.dc_network.specs.Networks.{Network, IsOrder, feeds, greatest_below, stay, way_over, way_to, way_of, AreWays}
use Rattle.dc_network.specs.lemmas.Greatest.{at-most-greatest}

-- ---- the greatest of the same

pub greatest-same : (f g : ℕ → ℕ) (n : ℕ) → ((k : ℕ) → k < n → f k ≡ g k) → greatest_below f n ≡ greatest_below g n
greatest-same f g zero h = refl
greatest-same f g (suc m) h =
    let rec = greatest-same f g m (λ k l. h k (omega arith)) in
    let last = h m (omega arith) in
    ap (λ z. max z (f m)) rec ∙ ap (λ z. max (greatest_below g m) z) last

pub greatest-bound : (f : ℕ → ℕ) (n b : ℕ) → ((k : ℕ) → k < n → f k ≤ b) → greatest_below f n ≤ b
greatest-bound f zero b h = omega arith
greatest-bound f (suc m) b h = omega (arith, greatest-bound f m b (λ k l. h k (omega arith)), h m (omega arith))

-- ---- ways depend on those before alone

pub over-same : (from to : TableRows) (link : Link) (u v : ℕ → ℕ) (s : ℕ) → ((y : ℕ) → y < length from.labels → u y ≡ v y) → way_over from to link u s ≡ way_over from to link v s
over-same from to link u v s h =
    greatest-same (λ y. cond (feeds from to link y s) (link.most + u y) 0) (λ y. cond (feeds from to link y s) (link.most + v y) 0) (length from.labels) (λ y there. ap (λ z. cond (feeds from to link y s) (link.most + z) 0) (h y there))

-- those of the concentrators from which a link leads to i
abbrev pub AreSameBefore : Network → (u v : ℕ → ℕ → ℕ) → ℕ → Type 0
AreSameBefore n u v i = (k : ℕ) → k < n.links → (n.connection k).to ≡ i → (y : ℕ) → y < length (n.member (n.connection k).from).rows.labels → u (n.connection k).from y ≡ v (n.connection k).from y

pub to-same : (n : Network) (u v : ℕ → ℕ → ℕ) (i s : ℕ) → AreSameBefore n u v i → way_to n u i s ≡ way_to n v i s
to-same n u v i s h =
    let over : (ℕ → ℕ → ℕ) → ℕ → ℕ = λ w k. way_over (n.member (n.connection k).from).rows (n.member i).rows (n.connection k).link (w (n.connection k).from) s in
    greatest-same (λ k. cond ((n.connection k).to == i) (over u k) 0) (λ k. cond ((n.connection k).to == i) (over v k) 0) n.links (λ k there.
    elim (eqb (n.connection k).to i) as (λ b. eqb (n.connection k).to i ≡ b → cond b (over u k) 0 ≡ cond b (over v k) 0) [
      | true ↦ λ is. over-same (n.member (n.connection k).from).rows (n.member i).rows (n.connection k).link (u (n.connection k).from) (v (n.connection k).from) s (h k there (eqb-true (n.connection k).to i is))
      | false ↦ λ is. refl
    ] refl)

pub way-same : (n : Network) (u v : ℕ → ℕ → ℕ) (i x : ℕ) → AreSameBefore n u v i → way_of n u i x ≡ way_of n v i x
way-same n u v i x h =
    greatest-same
    (λ k. stay (n.member i) x + way_to n u i (get_or (label_row (n.member i).rows x).sources k 0))
    (λ k. stay (n.member i) x + way_to n v i (get_or (label_row (n.member i).rows x).sources k 0))
    (length (label_row (n.member i).rows x).sources)
    (λ k there. ap (λ z. stay (n.member i) x + z) (to-same n u v i (get_or (label_row (n.member i).rows x).sources k 0) h))

-- ---- in an order there are ways, and no others

module _ (n : Network) (place : ℕ → ℕ) (order : IsOrder n place) where
  one-below : (ends : (k : ℕ) → k < n.links → (n.connection k).from < n.size) (u v : ℕ → ℕ → ℕ) → AreWays n u → AreWays n v
      → (m i x : ℕ) → place i < m → i < n.size → x < length (n.member i).rows.labels → u i x ≡ v i x
  one-below ends u v p q zero i x h there label = absurd (omega arith)
  one-below ends u v p q (suc m) i x h there label =
      let before : AreSameBefore n u v i = λ k l to y inside. one-below ends u v p q m (n.connection k).from y (omega (arith, order k l, ap place to)) (ends k l) inside in
      p i x there label ∙ way-same n u v i x before ∙ sym (q i x there label)

  -- ways of so many steps
  abbrev deep : ℕ → ℕ → ℕ → ℕ
  deep zero i x = 0
  deep (suc m) i x = way_of n (deep m) i x

  deep-still : (m i x : ℕ) → place i < m → deep m i x ≡ deep (suc m) i x
  deep-still zero i x h = absurd (omega arith)
  deep-still (suc m) i x h =
      way-same n (deep m) (deep (suc m)) i x (λ k l to y inside. deep-still m (n.connection k).from y (omega (arith, order k l, ap place to)))

  pub ways-one : (ends : (k : ℕ) → k < n.links → (n.connection k).from < n.size) (u v : ℕ → ℕ → ℕ) → AreWays n u → AreWays n v → (i x : ℕ) → i < n.size → x < length (n.member i).rows.labels → u i x ≡ v i x
  ways-one ends u v p q i x there label = one-below ends u v p q (suc (place i)) i x (omega arith) there label

  pub ways-there : (w : ℕ → ℕ → ℕ) × AreWays n w
  ways-there = (
    deep (suc (greatest_below place n.size)),
    λ i x there label. deep-still (suc (greatest_below place n.size)) i x (omega (arith, at-most-greatest place n.size i there)),
  )
