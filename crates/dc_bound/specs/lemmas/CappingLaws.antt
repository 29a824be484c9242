-- The laws of a bound that a wire may cap.
use Rattle.std.proofs.Common.{◌≡◌, ℕ, ◌^◌, ◌≤◌, ◌<◌, min, max, Option, Some, None, List, ◌++◌, sym, subst, arith, inl, inr}
use Rattle.std.proofs.lemmas.Bool.{cases_lt}
use Rattle.dc_bound.specs.lemmas.Jumps.{Grows}
use Rattle.dc_bound.specs.Window.{count_in, ticks_of, IsNextJump, wire_cap, later_jump}
use Rattle.dc_bound.specs.lemmas.Counts.{wire_mono, wire_holds, wire_prefix}
use Rattle.dc_bound.specs.declared.arrival.Wire.{Wire}
use Rattle.dc_bound.specs.Capping.{capped, WireHolds}

pub capped-zero : (wire : Option Wire) (n : ℕ) → n ≡ 0 → capped wire 0 n ≡ 0
capped-zero None n h = h
capped-zero (Some w) n h = omega arith

pub capped-mono : (wire : Option Wire) (d e n k : ℕ) → d ≤ e → n ≤ k → capped wire d n ≤ capped wire e k
capped-mono None d e n k h g = g
capped-mono (Some w) d e n k h g = omega (arith, g, wire_mono w.tick w.spacing d e w.some_spacing h)

pub capped-le : (wire : Option Wire) (d n : ℕ) → capped wire d n ≤ n
capped-le None d n = omega arith
capped-le (Some w) d n = omega arith

pub capped-bounded : (wire : Option Wire) (d n : ℕ) → n ≤ 2 ^ 40 → capped wire d n ≤ 2 ^ 40
capped-bounded wire d n h = omega (arith, h, capped-le wire d n)

pub capped-holds : (wire : Option Wire) (xs : List (ℕ × ℕ)) (u d n : ℕ) → count_in u d (ticks_of xs) ≤ n → WireHolds wire xs → count_in u d (ticks_of xs) ≤ capped wire d n
capped-holds None xs u d n h k = h
capped-holds (Some w) xs u d n h k = omega (arith, h, wire_holds w.tick w.spacing xs u d k)

pub capped-prefix : (wire : Option Wire) (xs ys : List (ℕ × ℕ)) → WireHolds wire (xs ++ ys) → WireHolds wire xs
capped-prefix None xs ys h = tt
capped-prefix (Some w) xs ys h = wire_prefix w.tick w.spacing xs ys h

-- ---- the jumps of the lesser of two caps

pub lesser_first : (f g : ℕ → ℕ) → Grows g → (d : ℕ) (a : Option ℕ) → f d < g d → IsNextJump f d a → IsNextJump (λ e. min (f e) (g e)) d a
lesser_first f g grows d None less h = λ k from to. omega (arith, h k from to, grows d k from)
lesser_first f g grows d (Some j) less h = (h.0, h.1, (λ k from to. omega (arith, h.2 k from to, grows d k from)), omega (arith, h.3, grows d j (omega (arith, h.0))))

pub lesser_second : (f g : ℕ → ℕ) → Grows f → (d : ℕ) (a : Option ℕ) → g d < f d → IsNextJump g d a → IsNextJump (λ e. min (f e) (g e)) d a
lesser_second f g grows d None less h = λ k from to. omega (arith, h k from to, grows d k from)
lesser_second f g grows d (Some j) less h = (h.0, h.1, (λ k from to. omega (arith, h.2 k from to, grows d k from)), omega (arith, h.3, grows d j (omega (arith, h.0))))

pub lesser_later : (f g : ℕ → ℕ) → Grows f → Grows g → (d : ℕ) (a b : Option ℕ) → f d ≡ g d → IsNextJump f d a → IsNextJump g d b → IsNextJump (λ e. min (f e) (g e)) d (later_jump a b)
lesser_later f g f_grows g_grows d None b same fj gj = λ k from to. omega (arith, fj k from to, g_grows d k from)
lesser_later f g f_grows g_grows d (Some i) None same fj gj = λ k from to. omega (arith, gj k from to, f_grows d k from)
lesser_later f g f_grows g_grows d (Some i) (Some j) same fj gj = (
  omega (arith, fj.0, gj.0),
  omega (arith, fj.1, gj.1),
  (λ k from to. elim (cases_lt k i) [
    | inl l ↦ omega (arith, fj.2 k from (omega arith), g_grows d k from)
    | inr l ↦ omega (arith, gj.2 k from (omega arith), f_grows d k from)
  ]),
  omega (arith, fj.3, gj.3, f_grows i (max i j) (omega arith), g_grows j (max i j) (omega arith)),
)

module _ (wire : Option Wire) (w : Wire) (is : wire ≡ Some w) (f : ℕ → ℕ) (f_grows : Grows f) (d : ℕ) where
  wire_grows : Grows (wire_cap w.tick w.spacing)
  wire_grows a b h = wire_mono w.tick w.spacing a b w.some_spacing h

  with_wire : (jump : Option ℕ) → IsNextJump (λ e. min (f e) (wire_cap w.tick w.spacing e)) d jump → IsNextJump (λ e. capped wire e (f e)) d jump
  with_wire jump h = let P : Option Wire → Type 0 = λ o. IsNextJump (λ e. capped o e (f e)) d jump in subst P (sym is) h

  pub capped_first : (a : Option ℕ) → f d < wire_cap w.tick w.spacing d → IsNextJump f d a → IsNextJump (λ e. capped wire e (f e)) d a
  capped_first a less h = with_wire a (lesser_first f (wire_cap w.tick w.spacing) wire_grows d a less h)

  pub capped_second : (a : Option ℕ) → wire_cap w.tick w.spacing d < f d → IsNextJump (wire_cap w.tick w.spacing) d a → IsNextJump (λ e. capped wire e (f e)) d a
  capped_second a less h = with_wire a (lesser_second f (wire_cap w.tick w.spacing) f_grows d a less h)

  pub capped_later : (a b jump : Option ℕ) → f d ≡ wire_cap w.tick w.spacing d → jump ≡ later_jump a b → IsNextJump f d a → IsNextJump (wire_cap w.tick w.spacing) d b → IsNextJump (λ e. capped wire e (f e)) d jump
  capped_later a b jump same which h k =
      let P : Option ℕ → Type 0 = λ o. IsNextJump (λ e. min (f e) (wire_cap w.tick w.spacing e)) d o in
      with_wire jump (subst P (sym which) (lesser_later f (wire_cap w.tick w.spacing) f_grows wire_grows d a b same h k))
