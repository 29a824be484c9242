use Rattle.std.proofs.Common.{◌≡◌, ◌≤◌, ◌∙◌, ℕ, Option, Some, None, List, [], ◌∷◌, ◌++◌, length, get_or, drop, refl, sym, ap, subst, arith}
use Rattle.std.specs.Prelude.{slice_get}
use Rattle.circular_buffer.specs.Buffer.{Buffer, buffer}
use Rattle.dc_bound.specs.Moves.Move.{Visit}
use Rattle.dc_oracle.specs.BusData.{BusData}
use Rattle.dc_oracle.specs.BusLog.{IsLog}
use Rattle.dc_oracle.proofs.Logs.{visit-none, visit-one}
use Rattle.dc_oracle.proofs.bus_log.BusLog.take.Goals as goal

got_none : (xs : List (ℕ × (ℕ × ℕ))) → None ≡ slice_get xs 0 → xs ≡ []
got_none [] h = refl
got_none (x ∷ xs) h = absurd cc

got_some : (xs : List (ℕ × (ℕ × ℕ))) (y : ℕ × (ℕ × ℕ)) → Some y ≡ slice_get xs 0 → (1 ≤ length xs) × (y ≡ get_or xs 0 (0, (0, 0)))
got_some [] y h = absurd cc
got_some (x ∷ xs) y h = (omega arith, cc)

pub returns-in_err-tick-clause-visit : goal.returns-in_err-tick-clause-visit
returns-in_err-tick-clause-visit c = λ room ms h.
    let old : BusData = record { words = c.self.inside.words.items; last = c.self.inside.last; latched = c.self.inside.latched; room = c.self.inside.words.capacity } in
    let P : BusData → Type 0 = λ d. IsLog room d ms in
    let was : IsLog room old ms = subst P (sym c.self.view_is) h in
    let none : c.self.inside.words.items ≡ [] = got_none c.self.inside.words.items c.in_err-tick.ensures.value in
    let Q : List (ℕ × (ℕ × ℕ)) → Type 0 = λ l. IsLog room (record { words = l; last = c.self.inside.last; latched = c.self.inside.latched; room = c.self.inside.words.capacity }) (ms ++ Visit ∷ []) in
    let R : Buffer (ℕ × (ℕ × ℕ)) → Type 0 = λ b. IsLog room (record { words = b.items; last = c.self.inside.last; latched = c.self.inside.latched; room = b.capacity }) (ms ++ Visit ∷ []) in
    let same : c.self.inside.words.items ≡ drop 1 c.self.inside.words.items = none ∙ ap (drop 1) (sym none) in
    subst R (sym c.in_err-tick.ensures.items) (subst Q same (visit-none room old ms was none))

pub returns-clause-visit : goal.returns-clause-visit
returns-clause-visit c = λ room ms h.
    let old : BusData = record { words = c.self.inside.words.items; last = c.self.inside.last; latched = c.self.inside.latched; room = c.self.inside.words.capacity } in
    let P : BusData → Type 0 = λ d. IsLog room d ms in
    let was : IsLog room old ms = subst P (sym c.self.view_is) h in
    let some = got_some c.self.inside.words.items (c.in_ok-tick.tick, (c.in_ok-tick.stream, c.in_ok-tick.word)) c.in_ok-tick.ensures.value in
    let R : Buffer (ℕ × (ℕ × ℕ)) → Type 0 = λ b. IsLog room (record { words = b.items; last = Some (c.in_ok-tick.tick, c.in_ok-tick.stream); latched = c.self.inside.latched; room = b.capacity }) (ms ++ Visit ∷ []) in
    subst R (sym c.in_ok-tick.ensures.items) (visit-one room old ms was c.in_ok-tick.tick c.in_ok-tick.stream c.in_ok-tick.word some.0 some.1)
