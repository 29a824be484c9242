-- What is at most the greatest, and so what is at most a label's way.
use Rattle.std.proofs.Common.{◌≡◌, ℕ, zero, suc, ◌+◌, ◌<◌, ◌≤◌, ◌==◌, Bool, true, cond, length, get_or, ap, subst, arith, inl, inr}
use Rattle.std.proofs.lemmas.Bool.{eq-eqb, cases_lt}
use Rattle.dc_tables.specs.TableRows.{TableRows, label_row}
use Rattle.dc_chain.specs.Concentrators.{Link}
use Rattle.dc_network.specs.Networks.{Network, feeds, greatest_below, stay, way_over, way_to, way_of}

pub at-most-greatest : (f : ℕ → ℕ) (n k : ℕ) → k < n → f k ≤ greatest_below f n
at-most-greatest f zero k h = absurd (omega arith)
at-most-greatest f (suc m) k h = elim (cases_lt k m) [
  | inl before ↦ omega (arith, at-most-greatest f m k before)
  | inr last ↦ (let same : k ≡ m = omega arith in let e : f k ≡ f m = ap f same in omega (arith, e))
]

pub way-over : (from to : TableRows) (link : Link) (ways : ℕ → ℕ) (s y : ℕ) → y < length from.labels → feeds from to link y s ≡ true → link.most + ways y ≤ way_over from to link ways s
way-over from to link ways s y there fed =
    let P : Bool → Type 0 = λ b. cond b (link.most + ways y) 0 ≤ way_over from to link ways s in
    subst P fed (at-most-greatest (λ y. cond (feeds from to link y s) (link.most + ways y) 0) (length from.labels) y there)

pub way-to : (n : Network) (ways : ℕ → ℕ → ℕ) (i s k : ℕ) → k < n.links → (n.connection k).to ≡ i
    → way_over (n.member (n.connection k).from).rows (n.member i).rows (n.connection k).link (ways (n.connection k).from) s ≤ way_to n ways i s
way-to n ways i s k there to =
    let over : ℕ → ℕ = λ k. way_over (n.member (n.connection k).from).rows (n.member i).rows (n.connection k).link (ways (n.connection k).from) s in
    let P : Bool → Type 0 = λ b. cond b (over k) 0 ≤ way_to n ways i s in
    subst P (eq-eqb (n.connection k).to i to) (at-most-greatest (λ k. cond ((n.connection k).to == i) (over k) 0) n.links k there)

pub way-of : (n : Network) (ways : ℕ → ℕ → ℕ) (i x k : ℕ) → k < length (label_row (n.member i).rows x).sources
    → stay (n.member i) x + way_to n ways i (get_or (label_row (n.member i).rows x).sources k 0) ≤ way_of n ways i x
way-of n ways i x k there =
    at-most-greatest (λ k. stay (n.member i) x + way_to n ways i (get_or (label_row (n.member i).rows x).sources k 0)) (length (label_row (n.member i).rows x).sources) k there
