use Rattle.std.proofs.Common.{◌≡◌, true, ◌∙◌, ◌<◌, Some, sym, ap, refl, length, inl, inr, arith}
use Rattle.std.proofs.lemmas.List.{get_or_read}
use Rattle.std.proofs.lemmas.Bool.{cases_Bool}
use Rattle.dc_word.specs.Word.{is_odd}
use Rattle.dc_tables.specs.Declares.{stream_of}
use Rattle.dc_tables.specs.TableRows.{stream_row, is_policed}
use Rattle.dc_tables.specs.declared.rows.Bus.{Bus}
use Rattle.dc_tables.specs.declared.rows.Stream.{Stream}
use Rattle.dc_oracle.specs.Pace.{is_early_at, moved, no_pace}
use Rattle.dc_oracle.proofs.Policing.{judges-even, judges-undeclared, judges-unpoliced, judges-refused, judges-let_in}
use Rattle.dc_oracle.proofs.police.Police.arrive.Goals as goal

pub returns-then-not-is_odd-clause-judges : goal.returns-then-not-is_odd-clause-judges
returns-then-not-is_odd-clause-judges c = λ run h l. judges-even c.args.tables.now c.args.self.now c.args.self.now run c.args.bus c.args.word refl h (sym c.is_odd.ensures.test ∙ c.if-not-is_odd.true) refl

pub returns-in_default-clause-judges : goal.returns-in_default-clause-judges
returns-in_default-clause-judges c = λ run h l. judges-undeclared c.args.tables.now c.args.self.now c.args.self.now run c.args.bus c.args.word refl h (sym c.is_odd.ensures.test ∙ c.if-not-is_odd.false) (sym c.in_default.ensures.stream) refl

pub returns-then-not-bus-clause-judges : goal.returns-then-not-bus-clause-judges
returns-then-not-bus-clause-judges c = λ run h l.
    judges-unpoliced c.args.tables.now c.args.self.now c.args.self.now run c.args.bus c.args.word refl h (ap (λ (r : Bus). r.police) (sym c.bus.ensures) ∙ c.if-not-bus.true) refl

pub returns-clause-judges : goal.returns-clause-judges
returns-clause-judges c = λ run h l.
    let t = c.args.tables.now in
    let odd : is_odd c.args.word ≡ true = sym c.is_odd.ensures.test ∙ c.if-not-is_odd.false in
    let some : stream_of c.args.tables.now c.args.bus c.args.word ≡ Some c.in-Some.stream = sym c.in-Some.ensures.stream in
    let policed : is_policed c.args.tables.now c.args.bus ≡ true = ap (λ (r : Bus). r.police) (sym c.bus.ensures) ∙ c.if-not-bus.false in
    let there : c.in-Some.stream < length c.args.self.now.paces.items = omega (arith, c.in-Some.ensures.there, c.requires.sized) in
    let read = get_or_read c.args.self.now.paces.items c.in-Some.stream c.index_mut.result.now there c.index_mut.ensures.value no_pace in
    let is : c.refuses.result ≡ is_early_at (stream_row c.args.tables.now c.in-Some.stream).jitter c.args.self.now.tick _ =
    c.refuses.ensures.result ∙ ap (λ (r : Stream). is_early_at r.jitter c.args.self.now.tick c.index_mut.result.now) c.stream-row.ensures ∙ ap (is_early_at (stream_row c.args.tables.now c.in-Some.stream).jitter c.args.self.now.tick) read in
    elim (cases_Bool c.refuses.result) [
      | inl yes' ↦ judges-refused c.args.tables.now c.args.self.now _ run c.args.bus c.args.word refl h c.valid.ensures c.in-Some.stream odd some policed c.refuses.result is yes' c.refuses.new.self refl (c.refuses.ensures.early yes' ∙ read) c.requires.sized
      | inr no' ↦ judges-let_in c.args.tables.now c.args.self.now _ run c.args.bus c.args.word refl h c.valid.ensures c.in-Some.stream odd some policed c.refuses.result c.refuses.new.self is no' c.requires.sized refl
          (c.refuses.ensures.after no' ∙ ap (λ (r : Stream). moved r.minimum c.args.self.now.tick c.index_mut.result.now) c.stream-row.ensures ∙ ap (moved (stream_row c.args.tables.now c.in-Some.stream).minimum c.args.self.now.tick) read)
    ]
