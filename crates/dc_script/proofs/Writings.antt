-- The words of a bench: their ticks never fall.
use Rattle.std.proofs.Common.{◌≡◌, ℕ, zero, suc, ◌+◌, ◌≤◌, true, false, cond, List, [], ◌∷◌, ◌++◌, sym, subst, ap, arith, ◌∙◌}
use Rattle.std.specs.Prelude.{All}
use Rattle.std.proofs.lemmas.List.Elements.{All-push}
use Rattle.dc_script.specs.Script.{AreTimedFrom, AreTimed, Writing, comes, brought, turn, turns, written, listed}
use Rattle.dc_script.specs.declared.script.Timed.{Timed}
use Rattle.dc_tables.specs.TableRows.{TableRows, bus_row}

-- words below a bound are below a greater one
timed-more : (first n m : ℕ) (ws : List Timed) → n ≤ m → AreTimedFrom first n ws → AreTimedFrom first m ws
timed-more first n m [] le h = tt
timed-more first n m (w ∷ ws) le h = (h.0, omega (arith, le, h.1), timed-more w.tick n m ws le h.2)

-- one more word, of the last tick
timed-push : (first tick word : ℕ) (ws : List Timed) → first ≤ tick → AreTimedFrom first (tick + 1) ws → AreTimedFrom first (tick + 1) (ws ++ record { tick = tick; word = word } ∷ [])
timed-push first tick word [] le h = (le, omega arith, tt)
timed-push first tick word (w ∷ ws) le h = (h.0, h.1, timed-push w.tick tick word ws (omega (arith, h.1)) h.2)

timed-turn : (t : TableRows) (b tick k : ℕ) (w : Writing) → AreTimed (tick + 1) w.words → AreTimed (tick + 1) (turn t b tick k w).words
timed-turn t b tick k w h =
    elim (comes t b tick k w) as (λ c. AreTimed (tick + 1) (cond c (brought t b tick k w) w).words) [
      | true ↦ timed-push 0 tick _ w.words (omega arith) h
      | false ↦ h
    ]

timed-turns : (t : TableRows) (b tick n : ℕ) (w : Writing) → AreTimed (tick + 1) w.words → AreTimed (tick + 1) (turns t b tick n w).words
timed-turns t b tick zero w h = h
timed-turns t b tick (suc n) w h = timed-turn t b tick n (turns t b tick n w) (timed-turns t b tick n w h)

-- the words of so many ticks
pub timed-written : (t : TableRows) (b ticks : ℕ) → AreTimed ticks (written t b ticks).words
timed-written t b zero = tt
timed-written t b (suc n) =
    let up : n + 1 ≡ suc n = omega arith in
    subst (λ m. AreTimed m (written t b (suc n)).words) up
    (timed-turns t b n (bus_row t b).streams (written t b n) (timed-more 0 n (n + 1) (written t b n).words (omega arith) (timed-written t b n)))

-- one more bus
pub listed-more : {X : Type 0} (f : ℕ → X) (n : ℕ) (xs ys : List X) (x : X) → xs ≡ listed f n → x ≡ f n → ys ≡ xs ++ x ∷ [] → ys ≡ listed f (n + 1)
listed-more f n xs ys x xs_is x_is ys_is =
    let up : suc n ≡ n + 1 = omega arith in
    subst (λ m. ys ≡ listed f m) up (ys_is ∙ ap (λ zs. zs ++ x ∷ []) xs_is ∙ ap (λ z. listed f n ++ z ∷ []) x_is)

pub timed-more-buses : (t : TableRows) (b ticks : ℕ) (xs ys : List (List Timed)) (x : List Timed) → All (AreTimed ticks) xs → x ≡ (written t b ticks).words → ys ≡ xs ++ x ∷ [] → All (AreTimed ticks) ys
timed-more-buses t b ticks xs ys x before x_is ys_is =
    subst (All (AreTimed ticks)) (sym ys_is) (All-push (AreTimed ticks) xs x before (subst (AreTimed ticks) (sym x_is) (timed-written t b ticks)))
