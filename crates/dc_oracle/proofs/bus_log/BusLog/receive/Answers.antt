use Rattle.std.proofs.Common.{◌≡◌, ◌+◌, ◌≤◌, ◌<◌, ◌∙◌, ℕ, true, false, List, [], ◌∷◌, ◌++◌, length, refl, sym, ap, subst, arith, inl, inr}
use Rattle.std.proofs.lemmas.Bool.{cases_lt}
use Rattle.circular_buffer.specs.Buffer.{Buffer, buffer}
use Rattle.dc_bound.specs.Moves.{ticks_in}
use Rattle.dc_event.specs.declared.event.Reply.TheVariants.{Queued, Overrun}
use Rattle.dc_oracle.specs.BusData.{BusData}
use Rattle.dc_oracle.specs.BusLog.{IsLog, Received}
use Rattle.dc_oracle.proofs.Logs.{received-shut, received-full, received-free}
use Rattle.dc_oracle.proofs.bus_log.BusLog.receive.Goals as goal

pub returns-then-self : goal.returns-then-self
returns-then-self c = λ room ms h time. received-shut room c.args.self.now ms (c.args.stream, c.args.word) h (sym (ap (λ (d : BusData). d.latched) c.self.view_is) ∙ c.if-self.true)

pub returns-in-Ok : goal.returns-in-Ok
returns-in-Ok c = λ room ms h time.
    let old : BusData = record { words = c.self.inside.words.items; last = c.self.inside.last; latched = c.self.inside.latched; room = c.self.inside.words.capacity } in
    let P : BusData → Type 0 = λ d. IsLog room d ms in
    let was : IsLog room old ms = subst P (sym c.self.view_is) h in
    let fits : length c.self.inside.words.items < room = (let l : length c.self.inside.words.items < c.self.inside.words.capacity = c.in-Ok.ensures.variant.0 refl in omega (arith, l, was.room_is)) in
    let got = received-free room old ms (c.args.stream, c.args.word) was c.if-self.false fits in
    let Q : ℕ → Type 0 = λ k. Received room (record { words = c.self.inside.words.items ++ (k, (c.args.stream, c.args.word)) ∷ []; last = c.self.inside.last; latched = c.self.inside.latched; room = c.self.inside.words.capacity }) ms (c.args.stream, c.args.word) (Queued (length (c.self.inside.words.items ++ (k, (c.args.stream, c.args.word)) ∷ []))) in
    let R : Buffer (ℕ × (ℕ × ℕ)) → Type 0 = λ b. Received room (record { words = b.items; last = c.self.inside.last; latched = c.self.inside.latched; room = b.capacity }) ms (c.args.stream, c.args.word) (Queued (length b.items)) in
    let S : ℕ → Type 0 = λ n. Received room (record { words = c.try_push_back.new.self.items; last = c.self.inside.last; latched = c.self.inside.latched; room = c.try_push_back.new.self.capacity }) ms (c.args.stream, c.args.word) (Queued n) in
    subst S (sym c.len.ensures.len) (subst R (sym c.in-Ok.ensures.ok) (subst Q (sym time) got))

pub returns-in-Err : goal.returns-in-Err
returns-in-Err c = λ room ms h time.
    let old : BusData = record { words = c.self.inside.words.items; last = c.self.inside.last; latched = c.self.inside.latched; room = c.self.inside.words.capacity } in
    let P : BusData → Type 0 = λ d. IsLog room d ms in
    let was : IsLog room old ms = subst P (sym c.self.view_is) h in
    let full : room ≤ length c.self.inside.words.items = elim (cases_lt (length c.self.inside.words.items) c.self.inside.words.capacity) [
      | inl l ↦ absurd (let e : false ≡ true = c.in-Err.ensures.variant.1 l in cc)
      | inr l ↦ omega (arith, l, was.room_is)
    ] in
    let R : Buffer (ℕ × (ℕ × ℕ)) → Type 0 = λ b. Received room (record { words = b.items; last = c.self.inside.last; latched = true; room = b.capacity }) ms (c.args.stream, c.args.word) Overrun in
    subst R (sym c.in-Err.ensures.err.1) (received-full room old ms (c.args.stream, c.args.word) was c.if-self.false full)
