use Rattle.std.proofs.Common.{[], ◌∷◌, ◌++◌, ◌≡◌, ◌<◌, ◌∙◌, true, false, Some, None, sym, length, refl, arith}
use Rattle.std.proofs.lemmas.List.{get_or_read}
use Rattle.dc_word.specs.Word.{is_odd}
use Rattle.dc_tables.specs.Declares.{stream_of}
use Rattle.dc_event.specs.Offers.{refuses_early}
use Rattle.dc_event.specs.Replies.{reply}
use Rattle.dc_event.specs.lemmas.Arrivals.{even-none, undeclared-none, refused-none}
use Rattle.dc_event.specs.declared.event.Event.TheVariants.{Arrive}
use Rattle.dc_route.specs.Routing.{no_queue}
use Rattle.dc_core.proofs.Standing.{standing-nothing, arrive_even, arrive_undeclared, arrive_refused, standing-arrive, may-follow, receives_at, changes_both}
use Rattle.dc_core.proofs.Paces.{paces-other, refuses_early-is, paces-arrive, paces-kept}
use Rattle.dc_core.proofs.machine.State.arrive.Goals as goal

pub returns-then-not-is_odd-clause-step : goal.returns-then-not-is_odd-clause-step
unfolding reply
returns-then-not-is_odd-clause-step c = λ run h.
    let even : is_odd c.args.word ≡ false = sym c.is_odd.ensures.test ∙ c.if-not-is_odd.true in
    let s = standing-nothing _ _ _ _ _ _ run _ (omega (arith, c.if-bus-len.false, c.len.ensures, c.requires.sized.queues)) (arrive_even _ run c.args.bus c.args.word even) h.0 in
    let p = paces-other c.args.tables.now c.args.self.now.paces.items run (Arrive c.args.word c.args.bus) (even-none c.args.tables.now run c.args.bus c.args.word even) h.1 in
    (may-follow _ _ run (Arrive c.args.word c.args.bus) (omega (arith, c.if-bus-len.false, c.len.ensures, c.requires.sized.queues)) refl h.0.clock c.requires.sized.early s.kept, (s, p), rw even refl)

pub returns-in_default-clause-step : goal.returns-in_default-clause-step
unfolding reply
returns-in_default-clause-step c = λ run h.
    let odd : is_odd c.args.word ≡ true = sym c.is_odd.ensures.test ∙ c.if-not-is_odd.false in
    let none : stream_of c.args.tables.now c.args.bus c.args.word ≡ None = sym c.stream_of.ensures.stream ∙ c.in_default.is in
    let s = standing-nothing _ _ _ _ _ _ run _ (omega (arith, c.if-bus-len.false, c.len.ensures, c.requires.sized.queues)) (arrive_undeclared _ run c.args.bus c.args.word none) h.0 in
    let p = paces-other c.args.tables.now c.args.self.now.paces.items run (Arrive c.args.word c.args.bus) (undeclared-none c.args.tables.now run c.args.bus c.args.word none) h.1 in
    (may-follow _ _ run (Arrive c.args.word c.args.bus) (omega (arith, c.if-bus-len.false, c.len.ensures, c.requires.sized.queues)) refl h.0.clock c.requires.sized.early s.kept, (s, p), rw (odd, none) refl)

pub returns-then-refuses_early-clause-step : goal.returns-then-refuses_early-clause-step
unfolding reply
returns-then-refuses_early-clause-step c = λ run h.
    let odd : is_odd c.args.word ≡ true = sym c.is_odd.ensures.test ∙ c.if-not-is_odd.false in
    let some : stream_of c.args.tables.now c.args.bus c.args.word ≡ Some c.in-Some.stream = sym c.stream_of.ensures.stream ∙ c.in-Some.is in
    let early : refuses_early c.args.tables.now c.args.bus run (Some c.in-Some.stream) ≡ true =
    sym (refuses_early-is c.args.tables.now c.valid.ensures c.args.self.now.paces.items run c.args.self.now.tick c.args.bus c.args.word c.in-Some.stream h.0.clock odd some h.1) ∙ sym c.refuses_early.ensures.test ∙ c.if-refuses_early.true in
    let s = standing-nothing _ _ _ _ _ _ run _ (omega (arith, c.if-bus-len.false, c.len.ensures, c.requires.sized.queues)) (arrive_refused _ run c.args.bus c.args.word c.in-Some.stream some early) h.0 in
    let p = paces-other c.args.tables.now c.args.self.now.paces.items run (Arrive c.args.word c.args.bus) (refused-none c.args.tables.now run c.args.bus c.args.word c.in-Some.stream odd some early) h.1 in (
      may-follow _ _ run (Arrive c.args.word c.args.bus) (omega (arith, c.if-bus-len.false, c.len.ensures, c.requires.sized.queues)) refl h.0.clock c.requires.sized.early s.kept,
      (s, paces-kept c.args.tables.now c.args.self.now.paces.items c.refuses_early.new.paces.items (run ++ Arrive c.args.word c.args.bus ∷ []) (c.refuses_early.ensures.refused c.if-refuses_early.true) p),
      rw (odd, some, early) refl,
    )

pub returns-clause-step : goal.returns-clause-step
returns-clause-step c = λ run h.
    let odd : is_odd c.args.word ≡ true = sym c.is_odd.ensures.test ∙ c.if-not-is_odd.false in
    let some : stream_of c.args.tables.now c.args.bus c.args.word ≡ Some c.in-Some.stream = sym c.stream_of.ensures.stream ∙ c.in-Some.is in
    let free : refuses_early c.args.tables.now c.args.bus run (Some c.in-Some.stream) ≡ false =
    sym (refuses_early-is c.args.tables.now c.valid.ensures c.args.self.now.paces.items run c.args.self.now.tick c.args.bus c.args.word c.in-Some.stream h.0.clock odd some h.1) ∙ sym c.refuses_early.ensures.test ∙ c.if-refuses_early.false in
    let lt : c.args.bus < length c.args.tables.now.buses = omega (arith, c.if-bus-len.false, c.len.ensures, c.requires.sized.queues) in
    let queue_there : c.args.bus < length c.args.self.now.queues.items = omega (arith, c.requires.sized.queues) in
    let latch_there : c.args.bus < length c.args.self.now.latched.items = omega (arith, c.requires.sized.latches) in
    let queue_read = get_or_read c.args.self.now.queues.items c.args.bus c.index_mut-queue.result.now queue_there c.index_mut-queue.ensures.value no_queue in
    let latch_read = get_or_read c.args.self.now.latched.items c.args.bus c.index_mut-latched.result.now latch_there c.index_mut-latched.ensures.value false in
    let d = receives_at c.args.self.now.queues.items c.args.self.now.latched.items c.args.bus c.args.word c.receive.result _ c.index_mut-queue.result.now c.index_mut-latched.result.now queue_read latch_read c.receive.ensures in
    let ch = changes_both c.args.self.now.queues.items c.args.self.now.latched.items c.args.bus c.receive.new.queue c.receive.new.latched queue_there latch_there in
    let s = standing-arrive _ _ _ _ _ _ _ run c.args.bus c.args.word c.in-Some.stream c.receive.result _ lt ch odd some free d h.0 in
    let p = paces-arrive c.args.tables.now c.valid.ensures c.args.self.now.paces.items run c.args.self.now.tick c.args.bus c.args.word c.in-Some.stream h.0.clock odd some h.1 c.requires.sized.paces free in (
      may-follow _ _ run (Arrive c.args.word c.args.bus) lt refl h.0.clock c.requires.sized.early s.0.kept,
      (s.0, paces-kept c.args.tables.now _ c.refuses_early.new.paces.items (run ++ Arrive c.args.word c.args.bus ∷ []) (c.refuses_early.ensures.let_in c.if-refuses_early.false) p),
      s.1,
    )
