use Rattle.std.proofs.Common.{◌≡◌, ◌+◌, ◌++◌, length, length-append, refl, ap, sym, ◌∙◌, arith, subst, None, Some, Err}
use Rattle.dc_device.specs.Lines.{NoFeed}
use Rattle.dc_device.specs.lemmas.LineLemmas.{NoFeed-append}
use Rattle.dc_run.specs.Decode.{answer_text}
use Rattle.dc_event.specs.WordText.{word_of}
use Rattle.dc_answer.specs.lemmas.Endings.{ask_ends}
use Rattle.dc_run.proofs.DecodeExits.{ask_asks, cut_ends, end_prompt, line_asks, long_ends, not_dry, says_ends, says_filled, says_first, says_next, word_ends, write_ends}
use Rattle.dc_run.proofs.WordAhead.{passes_word}
use Rattle.dc_run.proofs.decode.answer.Goals as goal

pub loop-word-init : goal.loop-word-init
loop-word-init g c = record {
  said = says_first _ _ _ _ _ _ _ _ c.new-line.ensures c.new-reader.ensures.bytes c.new-reader.ensures.room c.requires.new;
  plain = rw c.new-line.ensures tt;
  within = rw (c.new-line.ensures, c.new-reader.ensures.room) (omega arith);
  source = refl;
  sink = refl;
  asks = rw (c.new-reader.ensures.bytes, c.new-reader.ensures.room) (omega arith);
  dry = omega arith;
}

pub returns-in-Err-ask-clause-answer : goal.returns-in-Err-ask-clause-answer
returns-in-Err-ask-clause-answer g c =
    says_ends _ _ _ _ _ _ (g.K.Sink.state c.ask.new.sink).contents _ _ _ (Err c.in-Err-ask.failure) c.loop-word.invariant.said
    (λ rest at. ask_ends (answer_text c.args.format (c.loop-word.reader.room + length c.loop-word.line.items) c.loop-word.number rest)
    (g.S.Source.state c.loop-word.source).remaining (g.S.Source.state c.ask.new.source).remaining c.ask.new.reader.bytes _ _ _ c.in-Err-ask.failure c.in-Err-ask.ensures.bytes)

pub loop-word-preserved-in-Ok-true : goal.loop-word-preserved-in-Ok-true
loop-word-preserved-in-Ok-true g c =
    let before = c.loop-word.invariant in
    let (line, more, none, room) = c.in-None.ensures in
    let asks = rw c.in-Ok-true.field-0-test at c.in-Ok-true.ensures.bytes in
    record {
      said = says_filled _ _ _ _ _ _ _ _ _ _ _ _ _ _ _ _ before.said c.in-None.ensures c.in-Ok-true.ensures.room asks c.in-Ok-true.ensures.empty;
      plain = subst NoFeed (sym line) (NoFeed-append _ _ before.plain more);
      within = omega (arith, ap length {y = c.loop-word.line.items ++ c.loop-word.reader.bytes} line, length-append c.loop-word.line.items c.loop-word.reader.bytes, c.in-Ok-true.ensures.room);
      source = c.in-Ok-true.ensures.cause.0 ∙ before.source;
      sink = c.in-Ok-true.ensures.cause.1 ∙ before.sink;
      asks = ask_asks _ _ _ _ _ _ _ _ before.asks room c.in-Ok-true.ensures.room asks.1.1 c.in-Ok-true.ensures.pulls;
      dry = omega (arith, before.dry, rw c.in-Ok-true.field-0-test at c.in-Ok-true.ensures.dry_pulls);
    }

pub returns-in-Ok-false-clause-answer : goal.returns-in-Ok-false-clause-answer
returns-in-Ok-false-clause-answer g c =
    let asks = rw c.in-Ok-false.field-0-test at c.in-Ok-false.ensures.bytes in
    let short = rw c.as_slice.ensures.value at c.as_slice.ensures.fits in
    let ends = rw c.as_slice.ensures.value at c.end_inside.ensures.bytes in
    says_ends _ _ _ _ _ _ (g.K.Sink.state c.end_inside.new.sink).contents _ _ _ c.end_inside.result c.loop-word.invariant.said
    (cut_ends _ _ _ _ _ _ _ _ _ _ _ _ _ _ c.loop-word.invariant.plain c.in-None.ensures short asks ends)

pub returns-in-Some-Long-clause-answer : goal.returns-in-Some-Long-clause-answer
returns-in-Some-Long-clause-answer g c =
    let reads = rw c.in-Some-Long.field-0-is at c.in-Some-Long.ensures in
    says_ends _ _ _ _ _ _ (g.K.Sink.state c.end_at.new.sink).contents _ _ _ c.end_at.result c.loop-word.invariant.said
    (long_ends _ _ _ _ c.read_on.new.self _ _ _ _ _ _ c.loop-word.invariant.plain reads (rw c.code_of.ensures.text at c.end_at.ensures.bytes))

pub returns-in_default-read_word-clause-answer : goal.returns-in_default-read_word-clause-answer
returns-in_default-read_word-clause-answer g c =
    let reads = rw c.in-Some-Whole.field-0-is at c.in-Some-Whole.ensures in
    let short = rw c.as_slice-in-Some-Whole.ensures.value at c.as_slice-in-Some-Whole.ensures.fits in
    let none : word_of c.read_on.new.line.items ≡ None = cc (c.as_slice-in-Some-Whole.ensures.value, c.read_word.ensures, c.in_default-read_word.is) in
    says_ends _ _ _ _ _ _ (g.K.Sink.state c.end_at-in_default-read_word.new.sink).contents _ _ _ c.end_at-in_default-read_word.result c.loop-word.invariant.said
    (word_ends _ _ _ _ _ _ _ _ _ _ _ c.loop-word.invariant.plain reads short none (rw c.code_of-in_default-read_word.ensures.text at c.end_at-in_default-read_word.ensures.bytes))

pub returns-in-Err-write_word-clause-answer : goal.returns-in-Err-write_word-clause-answer
returns-in-Err-write_word-clause-answer g c =
    let reads = rw c.in-Some-Whole.field-0-is at c.in-Some-Whole.ensures in
    let short = rw c.as_slice-in-Some-Whole.ensures.value at c.as_slice-in-Some-Whole.ensures.fits in
    let some : word_of c.read_on.new.line.items ≡ Some c.in-Some-read_word.word = cc (c.as_slice-in-Some-Whole.ensures.value, c.read_word.ensures, c.in-Some-read_word.is) in
    says_ends _ _ _ _ _ _ (g.K.Sink.state c.write_word-in-Some-Whole.new.sink).contents _ _ _ (Err c.in-Err-write_word.failure) c.loop-word.invariant.said
    (write_ends _ _ _ _ _ _ _ _ _ _ _ _ c.loop-word.invariant.plain reads short some c.in-Err-write_word.ensures.bytes.0 c.in-Err-write_word.ensures.sink)

pub loop-word-preserved : goal.loop-word-preserved
loop-word-preserved g c =
    let before = c.loop-word.invariant in
    let reads = rw c.in-Some-Whole.field-0-is at c.in-Some-Whole.ensures in
    let short = rw c.as_slice-in-Some-Whole.ensures.value at c.as_slice-in-Some-Whole.ensures.fits in
    let some : word_of c.read_on.new.line.items ≡ Some c.in-Some-read_word.word = cc (c.as_slice-in-Some-Whole.ensures.value, c.read_word.ensures, c.in-Some-read_word.is) in
    record {
      said = says_next _ _ _ _ _ _ _ _ _ _ _ _ _ _ _ c.in-Some-read_word.word before.said before.plain reads short some c.in-Ok-write_word.ensures.bytes c.clear.ensures;
      plain = rw c.clear.ensures tt;
      within =
          let (front, held, line, more, room) = reads in
          rw c.clear.ensures (omega (arith, ap length line, length-append c.loop-word.line.items front));
      source = before.source;
      sink = omega (arith, c.in-Ok-write_word.ensures.count, before.sink);
      asks =
          let (front, held, line, more, room) = reads in
          line_asks front _ _ _ _ _ _ before.asks room;
      dry = before.dry;
    }

pub returns-in-Ok-false-clause-prompt : goal.returns-in-Ok-false-clause-prompt
returns-in-Ok-false-clause-prompt g c = λ dry failed.
    let asks = rw c.in-Ok-false.field-0-test at c.in-Ok-false.ensures.bytes in
    let short = rw c.as_slice.ensures.value at c.as_slice.ensures.fits in
    end_prompt _ _ _ _ _ _ _ _ _ _ _ _ _ _ _ _ c.loop-word.invariant.said c.loop-word.invariant.plain c.in-None.ensures short asks c.in-Ok-false.ensures.answered c.end_inside.ensures.answered

pub returns-in-Err-clause-answer : goal.returns-in-Err-clause-answer
returns-in-Err-clause-answer g c =
    let (line, reads, short, some) = passes_word c.loop-word.reader c.pass.new.self c.loop-word.line.items c.in-Some.word c.in-Some.ensures c.pass.ensures.bytes c.pass.ensures.room in
    says_ends _ _ _ _ _ _ (g.K.Sink.state c.write_word.new.sink).contents _ _ _ (Err c.in-Err.failure) c.loop-word.invariant.said
    (write_ends _ _ _ _ _ _ _ _ _ _ _ _ c.loop-word.invariant.plain reads short some c.in-Err.ensures.bytes.0 c.in-Err.ensures.sink)

pub loop-word-preserved-in-Some : goal.loop-word-preserved-in-Some
loop-word-preserved-in-Some g c =
    let before = c.loop-word.invariant in
    let ahead = passes_word c.loop-word.reader c.pass.new.self c.loop-word.line.items c.in-Some.word c.in-Some.ensures c.pass.ensures.bytes c.pass.ensures.room in
    let (line, reads, short, some) = ahead in
    let (front, held, is, more, room) = reads in
    record {
      said = says_next _ _ _ _ _ _ _ _ _ _ _ _ _ _ _ c.in-Some.word before.said before.plain reads short some c.in-Ok.ensures.bytes c.in-Some.ensures.0;
      plain = before.plain;
      within = omega (arith, before.within, c.pass.ensures.room);
      source = before.source;
      sink = omega (arith, c.in-Ok.ensures.count, before.sink);
      asks = line_asks front _ _ _ _ _ _ before.asks room;
      dry = before.dry;
    }
