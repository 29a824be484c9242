use Rattle.std.proofs.Common.{ℕ, Option, Some, None, ◌≡◌, ◌<◌, ◌∙◌, [], ◌∷◌, ◌++◌, length, set, sym, ap, refl, subst, arith}
use Rattle.std.proofs.lemmas.List.{get_or_read}
use Rattle.std.specs.Prelude.{IfSome}
use Rattle.dc_tables.specs.TableRows.{stream_row}
use Rattle.dc_tables.specs.declared.rows.Stream.{Stream}
use Rattle.dc_event.specs.declared.event.Event.TheVariants.{Arrive}
use Rattle.dc_oracle.specs.Arrivals.{ArrivesOf, Arrives}
use Rattle.dc_oracle.specs.Life.{lived, no_life}
use Rattle.dc_oracle.proofs.Arriving.{arrives-yes, arrives-no, follows-still, follows-arrive, still-arrive}
use Rattle.dc_oracle.proofs.arrivals.ArrivalWatch.arrive.Goals as goal

pub returns-then-not-is_arrival-clause-follows : goal.returns-then-not-is_arrival-clause-follows
returns-then-not-is_arrival-clause-follows c = λ run bus h clock l own is.
    follows-still c.args.tables.now c.queues_grow.ensures run (Arrive c.args.word bus) c.args.self.now
    (arrives-no c.args.tables.now run bus c.args.word c.args.reply.now is (sym c.is_arrival.ensures ∙ c.if-not-is_arrival.true)) (λ a. still-arrive c.args.tables.now run bus c.args.word a) h

pub returns-in_default-clause-follows : goal.returns-in_default-clause-follows
returns-in_default-clause-follows c = λ run bus h clock l own is.
    let P : Option ℕ → Type 0 = λ o. Arrives c.args.tables.now run bus c.args.word o in
    let none : Arrives c.args.tables.now run bus c.args.word None = subst P (sym own ∙ c.in_default.is) (arrives-yes c.args.tables.now run bus c.args.word c.args.reply.now is (sym c.is_arrival.ensures ∙ c.if-not-is_arrival.false)) in
    follows-still c.args.tables.now c.queues_grow.ensures run (Arrive c.args.word bus) c.args.self.now none (λ a. still-arrive c.args.tables.now run bus c.args.word a) h

pub returns-clause-follows : goal.returns-clause-follows
returns-clause-follows c = λ run bus h clock l own is.
    let P : Option ℕ → Type 0 = λ o. Arrives c.args.tables.now run bus c.args.word o in
    let came : ArrivesOf c.args.tables.now run bus c.args.word c.in-Some.stream = subst P (sym own ∙ c.in-Some.is) (arrives-yes c.args.tables.now run bus c.args.word c.args.reply.now is (sym c.is_arrival.ensures ∙ c.if-not-is_arrival.false)) in
    let there : c.in-Some.stream < length c.args.self.now.lives.items = omega (arith, came.there, c.requires.sized.lives) in
    let read = get_or_read c.args.self.now.lives.items c.in-Some.stream c.index.result.now there c.index.ensures no_life in
    let life = c.with.ensures ∙ ap (λ (r : Stream). lived r.maximum c.args.tick c.args.word c.index.result.now) c.stream.ensures ∙ ap (lived (stream_row c.args.tables.now c.in-Some.stream).maximum c.args.tick c.args.word) read in
    follows-arrive c.args.tables.now c.valid.ensures c.queues_grow.ensures c.args.self.now _ run bus c.args.word c.in-Some.stream c.args.tick came clock c.requires.sized.lives l
    (ap (set c.args.self.now.lives.items c.in-Some.stream) life) refl h
