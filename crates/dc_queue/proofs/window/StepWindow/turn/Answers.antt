use Rattle.std.proofs.Common.{◌≡◌, ℕ, ◌+◌, ◌≤◌, ◌<◌, ◌∙◌, length, sum, ap, sym, arith, length-drop, List}
use Rattle.std.specs.Prelude.{unwrap_or}
use Rattle.std.specs.List.{All}
use Rattle.std.proofs.lemmas.List.{length_push}
use Rattle.circular_buffer.specs.Buffer.{Buffer, keep_last}
use Rattle.dc_queue.proofs.Windows.{turn-sum, turn-all, turn-length}
use Rattle.dc_queue.proofs.window.StepWindow.turn.Goals as goal

pub invariant_of-self : goal.invariant_of-self
invariant_of-self c =
    let v = c.self.invariant in
    let items = ap (λ (b : Buffer ℕ). b.items) c.push_back.ensures.items in
    let cap = ap (λ (b : Buffer ℕ). b.capacity) c.push_back.ensures.items in
    let gone = c.unwrap_or-gone.ensures ∙ ap (λ o. unwrap_or o 0) c.push_back.ensures.value in
    let s = turn-sum c.self.inside.past.capacity c.self.inside.past.items c.self.inside.count v.3 in
    let a = turn-all c.self.inside.room c.self.inside.past.capacity c.self.inside.past.items c.self.inside.count v.1 v.2 in
    let n = turn-length c.self.inside.past.capacity c.self.inside.past.items c.self.inside.count in
    let P : List ℕ → Type 0 = λ xs. All (λ n. n ≤ c.self.inside.room) xs in
    let total = ap (λ (xs : List ℕ). sum xs) items in
    let long = ap (λ (xs : List ℕ). length xs) items in
    (omega (arith, s, total, gone, v.0), rw items a, omega arith, omega (arith, n, long, cap), omega (arith, cap, v.4), v.5)
