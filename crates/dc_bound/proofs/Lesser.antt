-- The lesser of a cap and a wire's on a stretch.
use Rattle.std.proofs.Common.{◌≡◌, ℕ, zero, suc, ◌+◌, ◌-◌, ◌*◌, ◌/◌, ◌<◌, ◌≤◌, Bool, leb, MatchBool, inl, inr, min, Option, Some, sym, subst, arith}
use Rattle.std.specs.Option.{unwrap_or}
use Rattle.std.proofs.Math.Nat.{le-div_iff_mul-le}
use Rattle.std.proofs.lemmas.Bool.{cases_lt}
use Rattle.std.proofs.lemmas.Bool.Decides.{leb_tells}
use Rattle.dc_bound.specs.Window.{IsNextJump, Shown, wire_cap}
use Rattle.dc_bound.specs.Under.{under}
use Rattle.dc_bound.specs.lemmas.Counts.{wire_mono}
use Rattle.dc_bound.specs.lemmas.Walks.{shown_to_jump}
use Rattle.dc_bound.specs.declared.arrival.Wire.{Wire}

-- what a wire carries, without a division
pub carried : (t s d most : ℕ) → 1 ≤ s → 1 ≤ d → (most - 1) * s ≤ d * t → most ≤ wire_cap t s d
carried t s zero most some one h = absurd (omega arith)
carried t s (suc d) most some one h =
    let le : most - 1 ≤ suc d * t / s = (le-div_iff_mul-le some).1 h in
    omega (arith, le)

pub not_carried : (t s d most : ℕ) → 1 ≤ s → 1 ≤ d → d * t < (most - 1) * s → wire_cap t s d < most
not_carried t s zero most some one h = absurd (omega arith)
not_carried t s (suc d) most some one h =
    elim (cases_lt (suc d * t / s) (most - 1)) [
      | inl l ↦ omega arith
      | inr l ↦ let le : (most - 1) * s ≤ suc d * t = (le-div_iff_mul-le some).0 l in absurd (omega arith)
    ]

pub by_test : (x y : ℕ) (P Q : Type 0) → (x ≤ y → P) → (y < x → Q) → MatchBool (leb x y) P Q
by_test x y P Q below above =
    let M : Bool → Type 0 = λ b. MatchBool b P Q in
    elim (leb_tells x y) [ inl l ↦ subst M (sym l.0) (below l.1) | inr l ↦ subst M (sym l.0) (above l.1) ]

module _ (wire : Option Wire) (w : Wire) (is : wire ≡ Some w) (f : ℕ → ℕ) (ticks until last most : ℕ) (shown : Shown f ticks until most) where
  with_wire : (end n : ℕ) → Shown (λ d. min (f d) (wire_cap w.tick w.spacing d)) ticks end n →
      Shown (λ d. under (λ (v : Wire) e. wire_cap v.tick v.spacing e) wire d (f d)) ticks end n
  with_wire end n h =
      let P : Option Wire → Type 0 = λ o. Shown (λ d. under (λ (v : Wire) e. wire_cap v.tick v.spacing e) o d (f d)) ticks end n in
      subst P (sym is) h

  -- the wire carries all
  pub all_carried : most ≤ wire_cap w.tick w.spacing ticks → Shown (λ d. under (λ (v : Wire) e. wire_cap v.tick v.spacing e) wire d (f d)) ticks until most
  all_carried h = with_wire until most (λ k from to. omega (arith, h, shown k from to, wire_mono w.tick w.spacing ticks k w.some_spacing from))

  -- the wire carries less, and what comes does not fall
  pub less_carried : ((d e : ℕ) → d ≤ e → f d ≤ f e) → ticks < until → last ≤ 100000 → wire_cap w.tick w.spacing ticks < most → (count end : ℕ) (jump : Option ℕ) →
      count ≡ wire_cap w.tick w.spacing ticks → IsNextJump (wire_cap w.tick w.spacing) ticks jump → end ≡ min (unwrap_or jump (last + 1)) (last + 1) →
      Shown (λ d. under (λ (v : Wire) e. wire_cap v.tick v.spacing e) wire d (f d)) ticks end count
  less_carried grows later far less count end jump here next at =
      with_wire end count (λ k from to. omega (
        arith,
        less,
        here,
        shown ticks (omega arith) later,
        grows ticks k from,
        shown_to_jump (wire_cap w.tick w.spacing) ticks last end count jump far next at here k from to,
      ))
