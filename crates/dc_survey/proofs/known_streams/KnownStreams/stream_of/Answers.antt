use Rattle.std.proofs.Common.{◌+◌, ◌*◌, ◌%◌, ◌<◌, arith, length, subst, sym}
use Rattle.std.proofs.lemmas.List.{get_or_read}
use Rattle.dc_survey.specs.Known.{Tells}
use Rattle.dc_survey.specs.declared.known_streams.Declared.{Declared}
use Rattle.dc_survey.specs.declared.known_streams.Declared.TheVariants.{NotAsked}
use Rattle.dc_survey.proofs.SameWords.{read_known, stream_there}
use Rattle.dc_tables.specs.Declares.{stream_of}
use Rattle.dc_survey.proofs.known_streams.KnownStreams.stream_of.Goals as goal

pub returns-in-Stream-clause-stream : goal.returns-in-Stream-clause-stream
returns-in-Stream-clause-stream c =
    let place : c.args.bus * 1024 + c.bits.result % 1024 < length c.args.self.now.places.items = omega (arith, c.requires.known.places, c.requires.there) in
    let read = get_or_read c.args.self.now.places.items (c.args.bus * 1024 + c.bits.result % 1024) c.index.result.now place c.index.ensures NotAsked in
    let P : Declared → Type 0 = Tells (stream_of c.args.tables.now c.args.bus c.args.word) in
    sym (subst P c.in-Stream.is (read_known c.args.tables.now c.args.self.now c.args.bus c.args.word c.bits.result c.index.result.now c.requires.known c.requires.there c.bits.ensures.value read))

pub returns-in-Stream-clause-there : goal.returns-in-Stream-clause-there
returns-in-Stream-clause-there c =
    stream_there c.args.tables.now c.args.bus c.args.word c.in-Stream.stream (sym (returns-in-Stream-clause-stream c))

pub returns-in-Undeclared-clause-stream : goal.returns-in-Undeclared-clause-stream
returns-in-Undeclared-clause-stream c =
    let place : c.args.bus * 1024 + c.bits.result % 1024 < length c.args.self.now.places.items = omega (arith, c.requires.known.places, c.requires.there) in
    let read = get_or_read c.args.self.now.places.items (c.args.bus * 1024 + c.bits.result % 1024) c.index.result.now place c.index.ensures NotAsked in
    let P : Declared → Type 0 = Tells (stream_of c.args.tables.now c.args.bus c.args.word) in
    sym (subst P c.in-Undeclared.is (read_known c.args.tables.now c.args.self.now c.args.bus c.args.word c.bits.result c.index.result.now c.requires.known c.requires.there c.bits.ensures.value read))
