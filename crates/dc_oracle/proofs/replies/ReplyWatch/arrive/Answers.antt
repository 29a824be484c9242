use Rattle.std.proofs.Common.{Some, ◌&&◌, false, ap, ◌≡◌, ◌<◌, ◌∙◌, ℕ, true, length, sym, refl, subst, arith}
use Rattle.std.proofs.lemmas.List.{get_or_read}
use Rattle.dc_word.specs.Word.{is_odd}
use Rattle.dc_tables.specs.Declares.{stream_of}
use Rattle.dc_event.specs.Offers.{refuses_early}
use Rattle.dc_event.specs.Buses.{moves, room}
use Rattle.dc_oracle.specs.BusData.{BusData}
use Rattle.dc_oracle.specs.BusLog.{IsLog, Received, no_log}
use Rattle.dc_bound.specs.Moves.{ticks_in}
use Rattle.dc_event.specs.lemmas.RunPush.{ticks_in-moves}
use Rattle.dc_oracle.proofs.Replying.{replies-even, replies-undeclared, replies-arrive}
use Rattle.dc_oracle.proofs.replies.ReplyWatch.arrive.Goals as goal

pub returns-then-not-is_odd-clause-reply : goal.returns-then-not-is_odd-clause-reply
returns-then-not-is_odd-clause-reply c = λ run h l free. replies-even _ _ run c.args.bus c.args.word (sym c.is_odd.ensures.test ∙ c.if-not-is_odd.true) h

pub returns-in_default-clause-reply : goal.returns-in_default-clause-reply
returns-in_default-clause-reply c = λ run h l free. replies-undeclared _ _ run c.args.bus c.args.word (sym c.is_odd.ensures.test ∙ c.if-not-is_odd.false) (sym c.requires.stream ∙ c.in_default.is) h

pub returns-clause-reply : goal.returns-clause-reply
returns-clause-reply c = λ run h l unrefused.
    let odd : is_odd c.args.word ≡ true = sym c.is_odd.ensures.test ∙ c.if-not-is_odd.false in
    let some : stream_of c.args.tables.now c.args.bus c.args.word ≡ Some c.in-Some.stream = sym c.requires.stream ∙ c.in-Some.is in
    let free : refuses_early c.args.tables.now c.args.bus run (Some c.in-Some.stream) ≡ false =
    ap (refuses_early c.args.tables.now c.args.bus run) (sym some) ∙ ap (λ v. v && refuses_early c.args.tables.now c.args.bus run (stream_of c.args.tables.now c.args.bus c.args.word)) (sym odd) ∙ unrefused in
    let there : c.args.bus < length c.args.self.now.buses.items = omega (arith, c.if-bus-len.false, c.len.ensures) in
    let read = get_or_read c.args.self.now.buses.items c.args.bus c.index_mut.result.now there c.index_mut.ensures.value no_log in
    let P : BusData → Type 0 = λ d. IsLog (room c.args.tables.now c.args.bus) d (moves c.args.tables.now c.args.bus run) in
    let time : c.args.self.now.tick ≡ ticks_in (moves c.args.tables.now c.args.bus run) = h.clock ∙ sym (ticks_in-moves c.args.tables.now c.args.bus run) in
    let got : Received (room c.args.tables.now c.args.bus) c.receive.new.self (moves c.args.tables.now c.args.bus run) (c.in-Some.stream, c.args.word) c.receive.result =
    c.receive.ensures (room c.args.tables.now c.args.bus) (moves c.args.tables.now c.args.bus run) (subst P (sym read) (h.logs c.args.bus l)) time in
    replies-arrive c.args.tables.now c.args.self.now _ run c.args.bus c.args.word c.in-Some.stream c.receive.new.self c.receive.result there odd some free got refl refl refl refl refl h
