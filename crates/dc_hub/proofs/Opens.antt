-- New wires, one more.
use Rattle.std.proofs.Common.{◌≡◌, ◌⊎◌, ⊎_elim, inl, inr, ℕ, zero, suc, ◌+◌, Option, Some, None, List, [], ◌∷◌, ◌++◌, length, refl, sym, ap, subst, ◌∙◌, length-append, slice_get, slice_index, replicate, arith}
use Rattle.atomic_table.specs.Seated.{TableId}
use Rattle.dc_board.specs.Marks.{fresh, stepped_once}
use Rattle.dc_board.specs.declared.view.View.{View}
use Rattle.dc_hub.specs.Views.{WireView, IsNewWire, AreNewWires, stepped}

pub some-same : {X : Type 0} (x y : X) → Some x ≡ Some y → x ≡ y
some-same {X} x y e = ap (λ (o : Option X). given o) e
  where
    given : Option X → X
    given None = x
    given (Some z) = z

pub none-some : {X : Type 0} (y : X) → None ≡ Some y → ⊥
none-some {X} y e = subst (λ (o : Option X). is_none o) e tt
  where
    is_none : Option X → Type 0
    is_none None = Unit {0}
    is_none (Some z) = ⊥

-- an item of a list with one more is an item of the list, or the last
pub at_push : {X : Type 0} (xs : List X) (x y : X) (k : ℕ) → slice_get (xs ++ x ∷ []) k ≡ Some y → (slice_get xs k ≡ Some y) ⊎ ((k ≡ length xs) × (x ≡ y))
at_push [] x y zero e = inr (refl, some-same x y e)
at_push [] x y (suc k) e = absurd (none-some y e)
at_push (z ∷ zs) x y zero e = inl e
at_push (z ∷ zs) x y (suc k) e = ⊎_elim (λ t. inl t) (λ (t : (k ≡ length zs) × (x ≡ y)). inr (ap suc t.0, t.1)) (at_push zs x y k e)

pub wires-push : (board : TableId × List ℕ) (ws : List WireView) (n : ℕ) (w : WireView) → AreNewWires board ws n → IsNewWire board n w → AreNewWires board (ws ++ w ∷ []) (n + 1)
wires-push board ws n w are is = (
  length-append ws (w ∷ []) ∙ ap (λ k. k + 1) are.0,
  (λ k v there. ⊎_elim
      (λ (t : slice_get ws k ≡ Some v). are.1 k v t)
      (λ (t : (k ≡ length ws) × (w ≡ v)). subst (λ j. IsNewWire board j v) (sym (t.0 ∙ are.0)) (subst (IsNewWire board n) t.1 is))
      (at_push ws w v k there)),
)

pub stepped_more : (n : ℕ) (v : View) → stepped_once (stepped n v) ≡ stepped (n + 1) v
stepped_more n v = let e : v.steps + n + 1 ≡ v.steps + (n + 1) = omega arith in ap (λ k. record { caps = v.caps; noted = v.noted; seen = v.seen; steps = k }) e

zeros : (n i : ℕ) → slice_index (replicate n 0) i ≡ 0
zeros zero i = refl
zeros (suc n) zero = refl
zeros (suc n) (suc i) = zeros n i

-- a seat that made such steps has noted nothing
pub unnoted : (caps : List ℕ) (n : ℕ) (v : View) → v ≡ stepped n (fresh caps) → (i : ℕ) → slice_index v.noted i ≡ 0
unnoted caps n v is i = ap (λ (w : View). slice_index w.noted i) is ∙ zeros (length caps) i
